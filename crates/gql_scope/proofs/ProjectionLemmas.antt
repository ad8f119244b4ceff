-- The items of RETURN and the names of GROUP BY: what one step of a walk over them adds.
use Rattle.std.proofs.Common.{◌≡◌, ℕ, ◌+◌, ◌<◌, Bool, true, false, not, ◌&&◌, List, [], ◌∷◌, ◌++◌, length, drop, get_or, map, filter, Option, None, refl, sym, ap, ◌∙◌}
use Rattle.std.specs.Prelude.{if◌then◌else◌, option_map}
use Rattle.std.specs.List.{list_any}
use Rattle.std.specs.Option.{option_or}
use Rattle.gql_values3.specs.declared.table.ColumnKind.{ColumnKind}
use Rattle.gql_ast.specs.ClauseColumns.{ColumnList}
use Rattle.gql_ast.specs.Meaning.{tree_of}
use Rattle.gql_ast.specs.Outputs.{item_name}
use Rattle.gql_ast.specs.Projections.{is_key}
use Rattle.gql_ast.specs.RowAggregates.{row_aggregates}
use Rattle.gql_ast.specs.Tree.{name}
use Rattle.gql_ast.specs.declared.projection.ReturnItem.{ReturnItem}
use Rattle.gql_ast.specs.declared.refusal.ColumnRef.TheVariants as column
use Rattle.gql_ast.specs.declared.refusal.Refusal.{Refusal}
use Rattle.gql_ast.specs.declared.refusal.Refusal.TheVariants as refusal
use Rattle.gql_scope.specs.ColumnFaults.{faults_in_item, faults_in_list, faults_in_names, omitted}
use Rattle.gql_expr_checks.specs.First.{first}
use Rattle.gql_expr_checks.specs.Refusals.{refusal_of_first}
use Rattle.gql_expr_checks.specs.Repeated.{is_among}
use Rattle.gql_expr_checks.specs.Gives.{Fails}
use Rattle.gql_expr_checks.specs.declared.fault.ScopeFault.{ScopeFault}
use Rattle.gql_expr_checks.proofs.DropLemmas.{drop_step}
use Rattle.gql_expr_checks.proofs.RefusalLemmas.{first_of_in_two, stops, goes_on}

-- names have no aggregates
pub names_are_keys : (columns cs : ColumnList) → false ≡ list_any (λ e. not (is_key columns e)) (map (λ (c : List ℕ × ColumnKind). name c.0) cs)
unfolding row_aggregates
names_are_keys columns [] = refl
names_are_keys columns (c ∷ cs) = names_are_keys columns cs

-- an item of RETURN, and then those behind it
module _ (columns : ColumnList) (seen : List (List ℕ)) (items : List ReturnItem) (at : ℕ) (i : ReturnItem) (whole : Option Refusal) (below : at < length items) (is : i ≡ get_or items at i)
    (so_far : refusal_of_first refusal.Column (faults_in_list columns seen (drop at items)) ≡ whole) where
  abbrev here : Option Refusal
  here = refusal_of_first refusal.Column (faults_in_item columns seen i)

  abbrev behind : Option Refusal
  behind = refusal_of_first refusal.Column (faults_in_list columns (item_name i ∷ seen) (drop (at + 1) items))

  cut : whole ≡ option_or here behind
  cut =
      sym so_far ∙ ap (λ xs. refusal_of_first refusal.Column (faults_in_list columns seen xs)) (drop_step items at i below is)
      ∙ first_of_in_two refusal.Column (faults_in_item columns seen i) (faults_in_list columns (item_name i ∷ seen) (drop (at + 1) items))

  pub item_stops : (e : ScopeFault) → Fails e here → Fails e whole
  item_stops e refuses = stops e here behind whole refuses cut

  pub item_goes_on : here ≡ None → behind ≡ whole
  item_goes_on none = sym (goes_on here behind whole none cut)

-- a name of GROUP BY, and then those behind it
pub name_step : (columns : ColumnList) (keys seen : List (List ℕ)) (x : List ℕ) (xs : List (List ℕ))
    → refusal_of_first refusal.Column (faults_in_names columns keys seen (x ∷ xs))
    ≡ option_or (refusal_of_first refusal.Column (if is_among keys x && not (is_among seen x) then [] else column.Name x ∷ [])) (refusal_of_first refusal.Column (faults_in_names columns keys (x ∷ seen) xs))
name_step columns keys seen x xs = by (is_among keys x && not (is_among seen x))
  where
    by : (b : Bool) → refusal_of_first refusal.Column (if b then faults_in_names columns keys (x ∷ seen) xs else column.Name x ∷ faults_in_names columns keys (x ∷ seen) xs)
        ≡ option_or (refusal_of_first refusal.Column (if b then [] else column.Name x ∷ [])) (refusal_of_first refusal.Column (faults_in_names columns keys (x ∷ seen) xs))
    by true = refl
    by false = refl

-- a key, and then those behind it
pub omitted_step : (columns : ColumnList) (x : List ℕ) (xs names : List (List ℕ))
    → refusal_of_first refusal.Column (omitted columns (x ∷ xs) names)
    ≡ option_or (refusal_of_first refusal.Column (if is_among names x then [] else column.Name x ∷ [])) (refusal_of_first refusal.Column (omitted columns xs names))
omitted_step columns x xs names = by (is_among names x)
  where
    by : (b : Bool) → refusal_of_first refusal.Column (map column.Name (if not b then x ∷ filter (λ k. not (is_among names k)) xs else filter (λ k. not (is_among names k)) xs))
        ≡ option_or (refusal_of_first refusal.Column (if b then [] else column.Name x ∷ [])) (refusal_of_first refusal.Column (omitted columns xs names))
    by true = refl
    by false = refl

-- the name of an item that is a key, and then those behind it
pub key_step : (columns : ColumnList) (i : ReturnItem) (is : List ReturnItem)
    → map item_name (filter (λ (j : ReturnItem). is_key columns (tree_of j.value)) (i ∷ is))
    ≡ (if is_key columns (tree_of i.value) then item_name i ∷ [] else []) ++ map item_name (filter (λ (j : ReturnItem). is_key columns (tree_of j.value)) is)
key_step columns i is = by (is_key columns (tree_of i.value))
  where
    by : (b : Bool) → map item_name (if b then i ∷ filter (λ (j : ReturnItem). is_key columns (tree_of j.value)) is else filter (λ (j : ReturnItem). is_key columns (tree_of j.value)) is)
        ≡ (if b then item_name i ∷ [] else []) ++ map item_name (filter (λ (j : ReturnItem). is_key columns (tree_of j.value)) is)
    by true = refl
    by false = refl

-- the first of some names is the first fault
pub named : (xs : List (List ℕ)) → refusal_of_first refusal.Column (map column.Name xs) ≡ option_map (λ x. refusal.Column (column.Name x)) (first xs)
named [] = refl
named (x ∷ xs) = refl
