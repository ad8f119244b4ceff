-- The guard of INSERT, where each endpoint that is a column is a column of nodes and rows fit.
use Rattle.std.proofs.Common.{◌≡◌, ℕ, suc, Bool, true, false, not, ◌&&◌, ◌==◌, List, [], ◌∷◌, ◌++◌, length, All, Option, Some, None, refl, ap, ◌∙◌, arith}
use Rattle.std.specs.List.{list_all}
use Rattle.std.specs.Prelude.{if◌then◌else◌}
use Rattle.std.proofs.lemmas.Bool.{and_parts, and_from}
use Rattle.std.proofs.lemmas.Bool.Decides.{nat_tests}
use Rattle.std.proofs.lemmas.List.Elements.{All-weaker}
use Rattle.std.proofs.lemmas.List.Sums.{AllPass-from_list_all}
use Rattle.gql_values3.specs.Datum.{Datum}
use Rattle.gql_values3.specs.Rows.{fits_kind}
use Rattle.gql_values3.specs.declared.table.ColumnKind.{ColumnKind}
use Rattle.gql_values3.specs.declared.table.ColumnKind.TheVariants as kind
use Rattle.gql_ast.specs.ClauseColumns.{ColumnList, is_column}
use Rattle.gql_ast.specs.Outputs.{kind_of_name}
use Rattle.gql_ast.specs.InsertColumns.{Spots, insert_spots, with_variable}
use Rattle.gql_ast.specs.Endpoints.{is_node, wrong_endpoint, wrong_in_spots}
use Rattle.gql_ast.specs.declared.change.InsertPath.{InsertPath}
use Rattle.gql_eval.specs.RowLists.{RowList, row_fits, rows_fit}
use Rattle.gql_change.specs.AcceptedInserts.{EndpointsAreNodes, GuardHolds, GuardIsPassed, NamesNode, NoneIsWrong}
use Rattle.gql_change.specs.Changing.{has_endpoints, is_empty}
use Rattle.gql_change.proofs.NamedPlaces.{back_empty}

-- a node's variable, by whether it is a column and of which kind
nothing_wrong : (x : List ℕ) (b : Bool) (k : ColumnKind) → (if b && not (is_node k) then x ∷ [] else []) ≡ [] → b ≡ true → k ≡ kind.Node
nothing_wrong x true kind.Node h t = refl
nothing_wrong x true kind.Edge h t = absurd (cc)
nothing_wrong x true kind.Nodes h t = absurd (cc)
nothing_wrong x true kind.Edges h t = absurd (cc)
nothing_wrong x true kind.Path h t = absurd (cc)
nothing_wrong x true kind.Plain h t = absurd (cc)
nothing_wrong x false k h t = absurd (cc)

none_wrong : (x : List ℕ) (b : Bool) (k : ColumnKind) → (b ≡ true → k ≡ kind.Node) → (if b && not (is_node k) then x ∷ [] else []) ≡ []
none_wrong x false k h = refl
none_wrong x true k h = rw (h refl) refl

spot_named : (columns : ColumnList) (k : ColumnKind) (v : Option (List ℕ)) → wrong_endpoint columns k v ≡ [] → NamesNode columns k v
spot_named columns kind.Node (Some x) h = nothing_wrong x (is_column columns x) (kind_of_name columns x) h
spot_named columns kind.Node None h = tt
spot_named columns kind.Edge v h = tt
spot_named columns kind.Nodes v h = tt
spot_named columns kind.Edges v h = tt
spot_named columns kind.Path v h = tt
spot_named columns kind.Plain v h = tt

spot_right : (columns : ColumnList) (k : ColumnKind) (v : Option (List ℕ)) → NamesNode columns k v → wrong_endpoint columns k v ≡ []
spot_right columns kind.Node (Some x) h = none_wrong x (is_column columns x) (kind_of_name columns x) h
spot_right columns kind.Node None h = refl
spot_right columns kind.Edge v h = refl
spot_right columns kind.Nodes v h = refl
spot_right columns kind.Edges v h = refl
spot_right columns kind.Path v h = refl
spot_right columns kind.Plain v h = refl

front_empty : (xs ys : List (List ℕ)) → (xs ++ ys) ≡ [] → xs ≡ []
front_empty [] ys h = refl
front_empty (x ∷ xs) ys h = absurd (cc)

spots_named : (columns : ColumnList) (ss : Spots) → wrong_in_spots columns ss ≡ [] → EndpointsAreNodes columns ss
spots_named columns [] h = tt
spots_named columns (s ∷ ss) h =
    let here = wrong_endpoint columns s.0 s.1.variable in
    let later = with_variable columns s.0 s.1.variable in (
      spot_named columns s.0 s.1.variable (front_empty here (wrong_in_spots later ss) h),
      spots_named later ss (back_empty here (wrong_in_spots later ss) h),
    )

spots_right : (columns : ColumnList) (ss : Spots) → EndpointsAreNodes columns ss → wrong_in_spots columns ss ≡ []
spots_right columns [] h = refl
spots_right columns (s ∷ ss) h =
    let later = with_variable columns s.0 s.1.variable in
    ap (λ (ns : List (List ℕ)). ns ++ wrong_in_spots later ss) (spot_right columns s.0 s.1.variable h.0) ∙ spots_right later ss h.1

pub none_is_wrong : NoneIsWrong
none_is_wrong columns ps = (spots_named columns (insert_spots ps), spots_right columns (insert_spots ps))

same_length : (columns : ColumnList) (row : List Datum) → row_fits columns row ≡ true → length row ≡ length columns
same_length [] [] h = refl
same_length [] (d ∷ ds) h = absurd (cc)
same_length (c ∷ cs) [] h = absurd (cc)
same_length (c ∷ cs) (d ∷ ds) h = ap suc (same_length cs ds (and_parts (fits_kind c.1 d) (row_fits cs ds) h).1)

same_width : (columns : ColumnList) (row : List Datum) → row_fits columns row ≡ true → (length row == length columns) ≡ true
same_width columns row h = let same : length row ≡ length columns = same_length columns row h in grind (arith, nat_tests, same)

all_wide : (columns : ColumnList) (rows : RowList) → rows_fit columns rows ≡ true → list_all (λ (row : List Datum). length row == length columns) rows ≡ true
all_wide columns [] h = refl
all_wide columns (row ∷ rows) h =
    let both = and_parts (row_fits columns row) (rows_fit columns rows) h in
    and_from (length row == length columns) (list_all (λ (r : List Datum). length r == length columns) rows) (same_width columns row both.0) (all_wide columns rows both.1)

pub guard_holds : GuardHolds
guard_holds columns rows ps fit nodes =
    and_from (list_all (λ (row : List Datum). length row == length columns) rows) (is_empty (wrong_in_spots columns (insert_spots ps)))
    (all_wide columns rows fit) (ap is_empty (spots_right columns (insert_spots ps) nodes))

pub guard_is_passed : GuardIsPassed
guard_is_passed g params columns rows ps fit nodes = rw (guard_holds columns rows ps fit nodes) refl

-- what the guard says of the rows, and of the endpoints
wide_row : (columns : ColumnList) (row : List Datum) → (length row == length columns) ≡ true → length row ≡ length columns
wide_row columns row h = grind (arith, nat_tests, h)

nothing_there : (xs : List (List ℕ)) → is_empty xs ≡ true → xs ≡ []
nothing_there [] h = refl
nothing_there (x ∷ xs) h = absurd (cc)

module _ (columns : ColumnList) (rows : RowList) (ps : List InsertPath) (holds : has_endpoints columns rows ps ≡ true) where
  both : (list_all (λ (row : List Datum). length row == length columns) rows ≡ true) × (is_empty (wrong_in_spots columns (insert_spots ps)) ≡ true)
  both = and_parts (list_all (λ (row : List Datum). length row == length columns) rows) (is_empty (wrong_in_spots columns (insert_spots ps))) holds

  pub guard_wide : All (λ (row : List Datum). length row ≡ length columns) rows
  guard_wide =
      All-weaker (λ (row : List Datum). (length row == length columns) ≡ true) (λ (row : List Datum). length row ≡ length columns) (wide_row columns) rows
      (AllPass-from_list_all (λ (row : List Datum). length row == length columns) rows both.0)

  pub guard_kinds : wrong_in_spots columns (insert_spots ps) ≡ []
  guard_kinds = nothing_there (wrong_in_spots columns (insert_spots ps)) both.1
