-- What is prepared once for all rows gives in each row what the definitions say.
use Rattle.std.proofs.Common.{◌≡◌, ℕ, Bool, List, [], ◌∷◌, map, refl, sym, ap, ◌∙◌, Option, Result, Ok}
use Rattle.std.specs.List.{flat_map}
use Rattle.gql_values3.specs.Datum.{Datum}
use Rattle.gql_values3.specs.PropertyGraph.{PropertyGraph}
use Rattle.gql_values3.specs.declared.element.Elem.{Elem}
use Rattle.gql_ast.specs.Scope.{row_scope}
use Rattle.gql_ast.specs.Faults.{◌>>=◌, each}
use Rattle.gql_ast.specs.ElementTests.{element_in}
use Rattle.gql_ast.specs.Evaluation.{value_of}
use Rattle.gql_ast.specs.ClauseColumns.{ColumnList}
use Rattle.gql_ast.specs.declared.change.RemoveItem.{RemoveItem}
use Rattle.gql_ast.specs.declared.change.SetItem.{SetItem}
use Rattle.gql_ast.specs.declared.change.SetItem.TheVariants as set_item
use Rattle.gql_ast.specs.declared.expr.Expr.{Expr}
use Rattle.gql_ast.specs.declared.filler.MapItem.{MapItem}
use Rattle.gql_ast.specs.declared.fault.DataFault.{DataFault}
use Rattle.gql_eval.specs.Machinery.Next.{next}
use Rattle.gql_eval.specs.RowLists.{RowList, each_some}
use Rattle.gql_change.specs.Assignments.{on, target_in, set_property, set_assignments, remove_assignments}
use Rattle.gql_change.specs.Insertion.{map_values}
use Rattle.gql_change.specs.Storing.{PropertyList}
use Rattle.gql_change.specs.Machinery.DeletionSteps.{column_place, value_at}
use Rattle.gql_change.specs.Machinery.InRow.{InRow, NamedPreparation, named_preparation, value_in, property_in}
use Rattle.gql_change.specs.Machinery.PreparedItems.{item_in, all_in, set_in, removed_in}
use Rattle.gql_change.specs.Machinery.PreparedSpots.{spot_in, line_in, asked_in}
use Rattle.gql_change.specs.Machinery.Roles.{Question, lines_of}
use Rattle.gql_change.specs.declared.assignment.Assignment.{Assignment}
use Rattle.gql_change.specs.declared.prepared_item.PreparedItem.{PreparedItem}
use Rattle.gql_change.specs.declared.prepared_spot.PreparedSpot.{PreparedSpot}
use Rattle.gql_change.specs.declared.role.Role.TheVariants as role
use Rattle.gql_change.specs.declared.row_spots.Line.{Line}
use Rattle.gql_change.specs.declared.row_spots.Spot.{Spot}
use Rattle.gql_change.specs.declared.row_spots.Spot.TheVariants as spot
use Rattle.gql_change.proofs.DeletionLemmas.{value_of_name}

-- lists that mean the same give the same
module _ {X A : Type 0} (f : X → InRow A) (g : PropertyGraph) (row : List Datum) where
  each_meant : (xs : List X) → each (λ (h : InRow A). h g row) (map f xs) ≡ each (λ x. f x g row) xs
  each_meant [] = refl
  each_meant (x ∷ xs) = ap (λ (r : Result (List A) DataFault). next (f x g row) (λ y. next r (λ ys. Ok (y ∷ ys)))) (each_meant xs)

pub each_same : {X Y A : Type 0} (f : X → InRow A) (k : Y → InRow A) (xs : List X) (ys : List Y) → map f xs ≡ map k ys → (g : PropertyGraph) (row : List Datum)
    → each (λ x. f x g row) xs ≡ each (λ y. k y g row) ys
each_same f k xs ys same g row = sym (each_meant f g row xs) ∙ ap (λ hs. each (λ h. h g row) hs) same ∙ each_meant k g row ys

-- a target by its place, and by its name
abbrev at_place : Option ℕ → (Option Elem → List Assignment) → InRow (List Assignment)
at_place place f g row = element_in g (value_at row place) >>= λ t. Ok (f t)

abbrev at_name : ColumnList → List ℕ → (Option Elem → List Assignment) → InRow (List Assignment)
at_name columns x f g row = target_in g [] (row_scope columns row) x >>= λ t. Ok (f t)

abbrev sets_at : Option ℕ → NamedPreparation → InRow (List Assignment)
sets_at place p g row = element_in g (value_at row place) >>= λ t. value_in p.value g row >>= λ d. set_property g p.value.params t p.name d

-- a new element
abbrev new_in : Bool → List NamedPreparation → InRow Spot
new_in named ps g row = each (λ (p : NamedPreparation). property_in p g row) ps >>= λ values. Ok (spot.New named values)

module _ (columns : ColumnList) where
  -- an item that evaluates nothing
  pub plain_item : (x : List ℕ) (place : Option ℕ) (f : Option Elem → List Assignment) → place ≡ column_place columns x → at_place place f ≡ at_name columns x f
  plain_item x place f here = λ i g row. element_in g ((ap (value_at row) here ∙ value_of_name columns row x) i) >>= λ t. Ok (f t)

  -- all rows
  pub set_rows : (params : List (List ℕ × Datum)) (is : List SetItem) (ps : List PreparedItem) → map item_in ps ≡ map (set_in columns params) is → (g : PropertyGraph) (rows : RowList)
      → each_some (all_in ps g) rows ≡ set_assignments g params columns is rows
  set_rows params is ps same g rows = λ i. each_some (λ row. each_same item_in (set_in columns params) ps is same g row i >>= λ yss. Ok (flat_map (λ ys. ys) yss)) rows

  pub removed_rows : (params : List (List ℕ × Datum)) (is : List RemoveItem) (ps : List PreparedItem) → map item_in ps ≡ map (removed_in columns) is → (g : PropertyGraph) (rows : RowList)
      → each_some (all_in ps g) rows ≡ remove_assignments g params columns is rows
  removed_rows params is ps same g rows = λ i. each_some (λ row. each_same item_in (removed_in columns) ps is same g row i >>= λ yss. Ok (flat_map (λ ys. ys) yss)) rows

  module _ (params : List (List ℕ × Datum)) where
    -- an item that sets a property
    pub property_item : (x name : List ℕ) (e : Expr) (place : Option ℕ) (p : NamedPreparation) → place ≡ column_place columns x → p ≡ named_preparation columns params name e
        → sets_at place p ≡ set_in columns params (set_item.Property x name e)
    property_item x name e place p here same =
        λ i g row. element_in g ((ap (value_at row) here ∙ value_of_name columns row x) i) >>= λ t. value_in (same i).value g row >>= λ d. set_property g (same i).value.params t (same i).name d

    -- the properties of a map
    pub given_same : (is : List MapItem) (g : PropertyGraph) (row : List Datum)
        → each (λ (p : NamedPreparation). property_in p g row) (map (λ (i : MapItem). named_preparation columns params i.name i.value) is) ≡ map_values g params columns row is
    given_same [] g row = refl
    given_same (i ∷ is) g row =
        ap (λ (r : Result PropertyList DataFault). next (property_in (named_preparation columns params i.name i.value) g row) (λ y. next r (λ ys. Ok (y ∷ ys)))) (given_same is g row)

    pub new_same : (named : Bool) (is : List MapItem) (ps : List NamedPreparation) → ps ≡ map (λ (i : MapItem). named_preparation columns params i.name i.value) is
        → new_in named ps ≡ asked_in columns params (role.New named, is)
    new_same named is ps same =
        λ i g row. ((ap (λ (qs : List NamedPreparation). each (λ (p : NamedPreparation). property_in p g row) qs) same ∙ given_same is g row) i) >>= λ values. Ok (spot.New named values)

    -- all rows
    pub lines_same : (qs : List Question) (ps : List PreparedSpot) → map spot_in ps ≡ map (asked_in columns params) qs → (g : PropertyGraph) (rows : RowList)
        → each (line_in ps g) rows ≡ lines_of g params columns qs rows
    lines_same qs ps same g rows =
        λ i. each (λ row. each_same spot_in (asked_in columns params) ps qs same g row i >>= λ spots. Ok (let l : Line = record { row = row; spots = spots } in l)) rows
