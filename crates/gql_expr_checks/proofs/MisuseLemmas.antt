-- An aggregate of an argument, by the groups that it names.
use Rattle.std.proofs.Common.{◌≡◌, ℕ, Bool, not, ◌&&◌, ◌||◌, List, [], ◌∷◌, Some, None, is_some, ap, ◌∙◌}
use Rattle.std.proofs.Math.Bool.{or-false}
use Rattle.std.specs.Prelude.{find}
use Rattle.gql_values3.specs.Texts.{same_text}
use Rattle.gql_ast.specs.Tree.{Tree}
use Rattle.gql_ast.specs.Scope.{names_in}
use Rattle.gql_ast.specs.ClauseColumns.{ColumnList}
use Rattle.gql_ast.specs.Outputs.{kind_of_name, element_kind}
use Rattle.gql_expr_checks.specs.ExprMisuses.{misused, within, is_group_column, are_two, is_over_rows, item_columns, groups_in}
use Rattle.gql_expr_checks.specs.First.{first}
use Rattle.gql_expr_checks.specs.Machinery.Places.{argument_misused}
use Rattle.gql_expr_checks.proofs.FirstLemmas.{first-filter, none_passes, are_two-filter}

-- by the list of its groups
abbrev by_groups : ColumnList → Bool → Tree → List (List ℕ) → Bool
by_groups columns bars e gs = are_two gs || (is_over_rows gs && bars) || misused (item_columns columns gs) within e

pub argument_over_rows : (columns : ColumnList) (bars : Bool) (e : Tree) → find (is_group_column columns) (names_in e) ≡ None
    → argument_misused columns bars e ≡ (bars || misused columns within e)
argument_over_rows columns bars e h = ap (by_groups columns bars e) (none_passes (is_group_column columns) (names_in e) h)

pub argument_over_group : (columns : ColumnList) (bars : Bool) (e : Tree) (x : List ℕ) → find (is_group_column columns) (names_in e) ≡ Some x
    → argument_misused columns bars e ≡ (is_some (find (λ y. is_group_column columns y && not (same_text x y)) (names_in e)) || misused ((x, element_kind (kind_of_name columns x)) ∷ columns) within e)
argument_over_group columns bars e x h =
    by (groups_in columns e) (first-filter (is_group_column columns) (names_in e) ∙ h)
    ∙ ap (λ b. b || misused ((x, element_kind (kind_of_name columns x)) ∷ columns) within e) (are_two-filter (is_group_column columns) (names_in e) x h)
  where
    by : (gs : List (List ℕ)) → first gs ≡ Some x
        → by_groups columns bars e gs ≡ (are_two gs || misused ((x, element_kind (kind_of_name columns x)) ∷ columns) within e)
    by [] p = cc
    by (g ∷ gs) p =
        let same : g ≡ x = cc in
        ap (λ b. b || misused (item_columns columns (g ∷ gs)) within e) (or-false (are_two (g ∷ gs)))
        ∙ ap (λ z. are_two (g ∷ gs) || misused ((z, element_kind (kind_of_name columns z)) ∷ columns) within e) same
