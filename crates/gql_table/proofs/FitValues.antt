-- Values that fit what columns hold. The kind of a name and its value are those of the first column of that name, so a
-- bare variable's value fits its kind; every other value is plain, and every value fits a plain column.
use Rattle.std.proofs.Common.{◌≡◌, ℕ, Bool, true, false, cond, List, [], ◌∷◌, map, find, slice_index_or, All, Option, Some, Ok, option_map, unwrap_or, refl, sym, subst}
use Rattle.std.proofs.lemmas.Bool.{and_parts, and_from}
use Rattle.std.proofs.lemmas.List.Elements.{All-weaker}
use Rattle.std.proofs.lemmas.List.Sums.{AllPass-from_list_all}
use Rattle.gql_values3.specs.Datum.{Datum, Data, null, list, items_of}
use Rattle.gql_values3.specs.PropertyGraph.{PropertyGraph}
use Rattle.gql_values3.specs.Rows.{fit_kinds, fits_kind, is_edge, is_node}
use Rattle.gql_values3.specs.Texts.{same_text}
use Rattle.gql_values3.specs.declared.table.ColumnKind.{ColumnKind}
use Rattle.gql_values3.specs.declared.table.ColumnKind.TheVariants as kind
use Rattle.gql_ast.specs.Tree.{Tree, name}
use Rattle.gql_ast.specs.Scope.{Entry, Scope, datum_in, datum_of_name, holds_group, row_scope}
use Rattle.gql_ast.specs.Outputs.{element_kind, kind_of, kind_of_name}
use Rattle.gql_ast.specs.Evaluation.{value_of}
use Rattle.gql_ast.specs.Faults.{each}
use Rattle.gql_ast.specs.ClauseColumns.{ColumnList}
use Rattle.gql_eval.specs.RowLists.{row_fits}
use Rattle.gql_eval.proofs.RowFits.{Fits, one_fits}
use Rattle.gql_table.proofs.FitSteps.{cons_gives, given_is}

pub plain_fits : (d : Datum) → fits_kind kind.Plain d ≡ true
plain_fits null = refl
plain_fits _ = refl

pub two_fit : (x y : List ℕ) (k l : ColumnKind) (d e : Datum) → fits_kind k d ≡ true → fits_kind l e ≡ true → Fits ((x, k) ∷ (y, l) ∷ []) (d ∷ e ∷ [])
two_fit x y k l d e h i = and_from (fits_kind k d) (row_fits ((y, l) ∷ []) (e ∷ [])) h (one_fits y l e i)

-- what a look-up finds
abbrev kind_found : Option (List ℕ × ColumnKind) → ColumnKind
kind_found o = unwrap_or (option_map (λ (c : List ℕ × ColumnKind). c.1) o) kind.Plain

name_case : (b : Bool) (c : List ℕ × ColumnKind) (e : Entry) (o : Option (List ℕ × ColumnKind)) (s : Option Entry) → fits_kind c.1 e.datum ≡ true
    → fits_kind (kind_found o) (datum_in s) ≡ true → fits_kind (kind_found (cond b (Some c) o)) (datum_in (cond b (Some e) s)) ≡ true
name_case true c e o s p q = p
name_case false c e o s p q = q

name_fits : (columns : ColumnList) (row : List Datum) (x : List ℕ) → Fits columns row → fits_kind (kind_of_name columns x) (datum_of_name (row_scope columns row) x) ≡ true
name_fits [] row x h = refl
name_fits (c ∷ cs) [] x h = absurd (cc)
name_fits (c ∷ cs) (d ∷ ds) x h =
    let both = and_parts (fits_kind c.1 d) (row_fits cs ds) h in
    name_case (same_text x c.0) c (record { name = c.0; is_group = holds_group c.1; datum = d }) (find (λ (k : List ℕ × ColumnKind). same_text x k.0) cs)
    (find (λ (e : Entry). same_text x e.name) (row_scope cs ds)) both.0 (name_fits cs ds x both.1)

node_fits : (d : Datum) → is_node d ≡ true → fits_kind kind.Node d ≡ true
node_fits null h = refl
node_fits _ h = h

edge_fits : (d : Datum) → is_edge d ≡ true → fits_kind kind.Edge d ≡ true
edge_fits null h = refl
edge_fits _ h = h

-- the items of a list that fits
pub items_fit : (k : ColumnKind) (ds : Data) → fits_kind k (list ds) ≡ true → All (λ d. fits_kind (element_kind k) d ≡ true) (items_of ds)
items_fit kind.Nodes ds h = All-weaker (λ d. is_node d ≡ true) (λ d. fits_kind kind.Node d ≡ true) node_fits (items_of ds) (AllPass-from_list_all is_node (items_of ds) h)
items_fit kind.Edges ds h = All-weaker (λ d. is_edge d ≡ true) (λ d. fits_kind kind.Edge d ≡ true) edge_fits (items_of ds) (AllPass-from_list_all is_edge (items_of ds) h)
items_fit _ ds h = λ i d below. plain_fits (slice_index_or (items_of ds) i d)

module _ (g : PropertyGraph) (params : List (List ℕ × Datum)) where
  pub value_of_name : (scope : Scope) (x : List ℕ) → value_of g params scope (name x) ≡ Ok (datum_of_name scope x)
  unfolding value_of
  value_of_name scope x = refl

  module _ (columns : ColumnList) (row : List Datum) (fit : Fits columns row) where
    pub value_fits : (e : Tree) (d : Datum) → value_of g params (row_scope columns row) e ≡ Ok d → fits_kind (kind_of columns e) d ≡ true
    value_fits (name x) d p =
        let scope = row_scope columns row in
        subst (λ v. fits_kind (kind_of_name columns x) v ≡ true) (sym (given_is (datum_of_name scope x) d (value_of g params scope (name x)) (value_of_name scope x) p))
        (name_fits columns row x fit)
    value_fits _ d p = plain_fits d

    pub values_fit : (es : List Tree) (ds : List Datum) → each (value_of g params (row_scope columns row)) es ≡ Ok ds → fit_kinds (map (kind_of columns) es) ds ≡ true
    values_fit [] ds p = subst (λ vs. fit_kinds [] vs ≡ true) (sym (given_is [] ds (Ok []) refl p)) refl
    values_fit (e ∷ es) ds p =
        let given = cons_gives (value_of g params (row_scope columns row) e) (each (value_of g params (row_scope columns row)) es) ds p in
        subst (λ vs. fit_kinds (map (kind_of columns) (e ∷ es)) vs ≡ true) (sym given.4)
        (and_from (fits_kind (kind_of columns e) given.0) (fit_kinds (map (kind_of columns) es) given.1) (value_fits e given.0 given.2) (values_fit es given.1 given.3))
