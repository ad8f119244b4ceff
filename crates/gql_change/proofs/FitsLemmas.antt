-- What SET and REMOVE do fits: the elements are in the graph, and what they get may be stored.
use Rattle.std.proofs.Common.{◌≡◌, ℕ, Bool, true, false, List, [], ◌∷◌, ◌++◌, refl, ap, ◌∙◌, Option, Some, None, Result, Ok, Err}
use Rattle.std.proofs.lemmas.Bool.{and_from}
use Rattle.std.specs.Prelude.{◌&&◌, if◌then◌else◌}
use Rattle.std.specs.List.{flat_map, list_all}
use Rattle.gql_values3.specs.Datum.{Datum, Data, data_of, items_of, null, boolean, integer, text, list, node, edge, path, no_data, more_data}
use Rattle.gql_values3.specs.Meaning.{datum_of}
use Rattle.gql_values3.specs.PropertyGraph.{PropertyGraph, is_storable}
use Rattle.gql_values3.specs.declared.element.Elem.{Elem}
use Rattle.gql_values3.specs.declared.element.Elem.TheVariants as elem
use Rattle.gql_values3.specs.declared.value.Value.TheVariants as v
use Rattle.gql_ast.specs.Meaning.{tree_of}
use Rattle.gql_ast.specs.Scope.{Scope, row_scope, datum_of_name}
use Rattle.gql_ast.specs.Faults.{each}
use Rattle.gql_ast.specs.ElementTests.{undeleted, element_in}
use Rattle.gql_values3.specs.Lookup.{has_element}
use Rattle.gql_ast.specs.Evaluation.{value_of}
use Rattle.gql_ast.specs.ClauseColumns.{ColumnList}
use Rattle.gql_ast.specs.declared.change.RemoveItem.{RemoveItem}
use Rattle.gql_ast.specs.declared.change.RemoveItem.TheVariants as remove_item
use Rattle.gql_ast.specs.declared.change.SetItem.{SetItem}
use Rattle.gql_ast.specs.declared.change.SetItem.TheVariants as set_item
use Rattle.gql_ast.specs.declared.fault.DataFault.{DataFault}
use Rattle.gql_ast.specs.declared.fault.DataFault.TheVariants as fault
use Rattle.gql_eval.specs.Machinery.Next.{next}
use Rattle.gql_eval.specs.RowLists.{RowList, each_some}
use Rattle.gql_change.specs.Storing.{stored}
use Rattle.gql_change.specs.Assignments.{on, target_in, set_property, set_by, removed_by, set_assignments, remove_assignments}
use Rattle.gql_values3.specs.Meaning.{as_value}
use Rattle.gql_change.specs.Machinery.Swaps.{act_fits, fits, all_fit}
use Rattle.gql_change.specs.declared.assignment.Act.{Act}
use Rattle.gql_change.specs.declared.assignment.Act.TheVariants as act
use Rattle.gql_change.specs.declared.assignment.Assignment.{Assignment}

-- a step that gave b was given something
next_gives : {A B : Type 0} (r : Result A DataFault) (f : A → Result B DataFault) (b : B) → next r f ≡ Ok b → (a : A) × (r ≡ Ok a) × (f a ≡ Ok b)
next_gives (Ok a) f b p = (a, refl, p)
next_gives (Err e) f b p = absurd (cc)

abbrev given : {A : Type 0} → A → Result A DataFault
given a = Ok a

given_is : {A : Type 0} (a b : A) → given a ≡ given b → b ≡ a
given_is a b p = cc

list_all-append : {A : Type 0} (p : A → Bool) (xs ys : List A) → list_all p xs ≡ true → list_all p ys ≡ true → list_all p (xs ++ ys) ≡ true
list_all-append p [] ys h k = k
list_all-append p (x ∷ xs) ys h k = by (p x) (list_all p xs) h (λ m. list_all-append p xs ys m k)
  where
    by : (b c : Bool) → (b && c) ≡ true → (c ≡ true → list_all p (xs ++ ys) ≡ true) → (b && list_all p (xs ++ ys)) ≡ true
    by true c m next = next m
    by false c m next = absurd (cc)

-- what each step gives all, the whole has
module _ {A B : Type 0} (p : B → Bool) (f : A → Result (List B) DataFault) (step : (x : A) (zs : List B) → f x ≡ Ok zs → list_all p zs ≡ true) where
  each_all : (xs : List A) (yss : List (List B)) → each f xs ≡ Ok yss → list_all p (flat_map (λ ys. ys) yss) ≡ true
  each_all [] yss h = ap (λ (l : List (List B)). list_all p (flat_map (λ ys. ys) l)) (given_is [] yss h)
  each_all (x ∷ xs) yss h =
      let one = next_gives (f x) (λ y. next (each f xs) (λ ys. Ok (y ∷ ys))) yss h in
      let two = next_gives (each f xs) (λ ys. Ok (one.0 ∷ ys)) yss one.2 in
      ap (λ (l : List (List B)). list_all p (flat_map (λ ys. ys) l)) (given_is (one.0 ∷ two.0) yss two.2)
      ∙ list_all-append p one.0 (flat_map (λ ys. ys) two.0) (step x one.0 one.1) (each_all xs two.0 two.1)

  pub each_some_all : (xs : List A) (ys : List B) → each_some f xs ≡ Ok ys → list_all p ys ≡ true
  each_some_all xs ys h =
      let got = next_gives (each f xs) (λ yss. Ok (flat_map (λ zs. zs) yss)) ys h in
      ap (list_all p) (given_is (flat_map (λ zs. zs) got.0) ys got.2) ∙ each_all xs got.0 got.1

data_back : (ds : Data) → data_of (items_of ds) ≡ ds
data_back no_data = refl
data_back (more_data d ds) = ap (more_data d) (data_back ds)

pub datum_back : (d : Datum) → datum_of (as_value d) ≡ d
datum_back null = refl
datum_back (boolean b) = refl
datum_back (integer z) = refl
datum_back (text t) = refl
datum_back (list ds) = ap list (data_back ds)
datum_back (node n) = refl
datum_back (edge e) = refl
datum_back (path p) = refl

stored_fits : (d kept : Datum) → stored d ≡ Ok kept → is_storable kept 64 ≡ true
stored_fits d kept h = by (is_storable d 64) refl h
  where
    by : (b : Bool) → is_storable d 64 ≡ b → (if b then Ok d else Err fault.WrongKind) ≡ Ok kept → is_storable kept 64 ≡ true
    by true p q = let same : kept ≡ d = given_is d kept q in ap (λ x. is_storable x 64) same ∙ p
    by false p q = absurd (cc)

module _ (g : PropertyGraph) (params : List (List ℕ × Datum)) where
  undeleted_there : (e f : Elem) → undeleted g e ≡ Ok f → has_element g f ≡ true
  undeleted_there e f h = by (has_element g e) refl
    where
      by : (b : Bool) → has_element g e ≡ b → has_element g f ≡ true
      by true p = let k = rw p at h in let same : f ≡ e = given_is e f k in ap (has_element g) same ∙ p
      by false p = let k = rw p at h in absurd (cc)

  some_there : (e f : Elem) → next (undeleted g e) (λ x. Ok (Some x)) ≡ Ok (Some f) → has_element g f ≡ true
  some_there e f h =
      let got = next_gives (undeleted g e) (λ x. Ok (Some x)) (Some f) h in
      let same : f ≡ got.0 = some_is got.0 f (given_is (Some got.0) (Some f) got.2) in
      ap (has_element g) same ∙ undeleted_there e got.0 got.1
    where
      some_is : (a b : Elem) → Some b ≡ Some a → b ≡ a
      some_is a b p = cc

  pub element_there : (d : Datum) (f : Elem) → element_in g d ≡ Ok (Some f) → has_element g f ≡ true
  element_there null f h = absurd (cc)
  element_there (node n) f h = some_there (elem.Node (record { 0 = n })) f h
  element_there (edge n) f h = some_there (elem.Edge (record { 0 = n })) f h
  element_there (boolean b) f h = absurd (cc)
  element_there (integer z) f h = absurd (cc)
  element_there (text t) f h = absurd (cc)
  element_there (list ds) f h = absurd (cc)
  element_there (path p) f h = absurd (cc)

  on_fits : (t : Option Elem) (a : Act) → ((e : Elem) → t ≡ Some e → has_element g e ≡ true) → act_fits a ≡ true → all_fit g (on t a) ≡ true
  on_fits None a there fit = refl
  on_fits (Some e) a there fit = and_from (has_element g e && act_fits a) true (and_from (has_element g e) (act_fits a) (there e refl) fit) refl

  given_on : (scope : Scope) (x : List ℕ) (a : Act) (zs : List Assignment) → act_fits a ≡ true → next (target_in g params scope x) (λ t. Ok (on t a)) ≡ Ok zs → all_fit g zs ≡ true
  given_on scope x a zs fit h =
      let got = next_gives (target_in g params scope x) (λ t. Ok (on t a)) zs h in
      ap (all_fit g) (given_is (on got.0 a) zs got.2)
      ∙ on_fits got.0 a (λ e p. element_there (datum_of_name scope x) e (got.1 ∙ ap (λ (t : Option Elem). Ok t) p)) fit

  property_fits : (t : Option Elem) (p : List ℕ) (d : Datum) (zs : List Assignment) → ((e : Elem) → t ≡ Some e → has_element g e ≡ true) → set_property g params t p d ≡ Ok zs → all_fit g zs ≡ true
  property_fits None p d zs there h = ap (all_fit g) (given_is [] zs h)
  property_fits (Some e) p d zs there h =
      let got = next_gives (stored d) (λ kept. Ok (on (Some e) (act.Property p (as_value kept)))) zs h in
      let fit : is_storable (datum_of (as_value got.0)) 64 ≡ true = ap (λ x. is_storable x 64) (datum_back got.0) ∙ stored_fits d got.0 got.1 in
      ap (all_fit g) (given_is (on (Some e) (act.Property p (as_value got.0))) zs got.2)
      ∙ on_fits (Some e) (act.Property p (as_value got.0)) there fit

  set_by_fits : (scope : Scope) (i : SetItem) (zs : List Assignment) → set_by g params scope i ≡ Ok zs → all_fit g zs ≡ true
  set_by_fits scope (set_item.Property x p e) zs h =
      let target = next_gives (target_in g params scope x) (λ t. next (value_of g params scope (tree_of e)) (λ d. set_property g params t p d)) zs h in
      let value = next_gives (value_of g params scope (tree_of e)) (λ d. set_property g params target.0 p d) zs target.2 in
      property_fits target.0 p value.0 zs (λ f q. element_there (datum_of_name scope x) f (target.1 ∙ ap (λ (t : Option Elem). Ok t) q)) value.2
  set_by_fits scope (set_item.Label x l) zs h = given_on scope x (act.Label l) zs refl h

  removed_by_fits : (scope : Scope) (i : RemoveItem) (zs : List Assignment) → removed_by g params scope i ≡ Ok zs → all_fit g zs ≡ true
  removed_by_fits scope (remove_item.Property x p) zs h = given_on scope x (act.Property p v.Null) zs refl h
  removed_by_fits scope (remove_item.Label x l) zs h = given_on scope x (act.NoLabel l) zs refl h

  pub set_fits : (columns : ColumnList) (items : List SetItem) (rows : RowList) (xs : List Assignment) → set_assignments g params columns items rows ≡ Ok xs → all_fit g xs ≡ true
  set_fits columns items rows xs h =
      each_some_all (fits g) (λ row. each_some (set_by g params (row_scope columns row)) items)
      (λ row zs k. each_some_all (fits g) (set_by g params (row_scope columns row)) (set_by_fits (row_scope columns row)) items zs k) rows xs h

  pub removed_fits : (columns : ColumnList) (items : List RemoveItem) (rows : RowList) (xs : List Assignment) → remove_assignments g params columns items rows ≡ Ok xs → all_fit g xs ≡ true
  removed_fits columns items rows xs h =
      each_some_all (fits g) (λ row. each_some (removed_by g params (row_scope columns row)) items)
      (λ row zs k. each_some_all (fits g) (removed_by g params (row_scope columns row)) (removed_by_fits (row_scope columns row)) items zs k) rows xs h
