-- An expression is refused under the columns that it names as under all.
use Rattle.std.proofs.Common.{◌≡◌, ℕ, Bool, true, false, not, cond, ◌||◌, List, [], ◌∷◌, ◌++◌, Option, Some, None, is_some, refl, sym, ap, ◌∙◌}
use Rattle.std.specs.Prelude.{find, option_map, unwrap_or}
use Rattle.std.proofs.lemmas.Slice.Eq.{bytes_eq-Decides}
use Rattle.gql_values3.specs.Texts.{same_text}
use Rattle.gql_values3.specs.declared.table.ColumnKind.{ColumnKind}
use Rattle.gql_values3.specs.declared.table.ColumnKind.TheVariants as kind
use Rattle.gql_ast.specs.ClauseColumns.{ColumnList, is_column}
use Rattle.gql_ast.specs.Scope.{holds_group, names_in}
use Rattle.gql_ast.specs.Tree.{Tree}
use Rattle.gql_ast.specs.declared.refusal.Refusal.TheVariants as refusal
use Rattle.gql_expr_checks.specs.ExprMisuses.{elsewhere}
use Rattle.gql_expr_checks.specs.Machinery.Knowing.{first_kind}
use Rattle.gql_expr_checks.specs.Refusals.{refusal_of_first, misuse_if}
use Rattle.gql_expr_checks.specs.Repeated.{is_among}
use Rattle.gql_expr_checks.proofs.KnowingLemmas.{is_some-first_kind}
use Rattle.gql_pattern_checks.specs.Machinery.ScopeWalk.{refused_under}
use Rattle.gql_pattern_checks.specs.Machinery.SeenColumns.{column_if, seen_columns}
use Rattle.gql_pattern_checks.specs.declared.scoped.ScopeQuestion.{ScopeQuestion}
use Rattle.gql_pattern_checks.specs.declared.scoped.ScopeQuestion.TheVariants as question
use Rattle.gql_pattern_checks.proofs.AmongLemmas.{filter_alike}
use Rattle.gql_pattern_checks.proofs.GroupLemmas.{misused_alike}

if_none : (c : Bool) (o : Option ColumnKind) → o ≡ None → cond c o None ≡ o
if_none true o h = refl
if_none false o h = sym h

-- what a name is among the columns that are seen
seen_kind : (columns : ColumnList) (names : List (List ℕ)) (x : List ℕ) → first_kind (seen_columns columns names) x ≡ cond (is_among names x) (first_kind columns x) None
seen_kind columns [] x = refl
seen_kind columns (y ∷ names) x = by (same_text x y) refl (first_kind columns y) refl (seen_kind columns names x)
  where
    by : (b : Bool) → same_text x y ≡ b → (o : Option ColumnKind) → first_kind columns y ≡ o
        → first_kind (seen_columns columns names) x ≡ cond (is_among names x) (first_kind columns x) None
        → first_kind (column_if y o ++ seen_columns columns names) x ≡ cond (b || is_among names x) (first_kind columns x) None
    by true p (Some k) q r =
        ap (λ c. option_map (λ (d : List ℕ × ColumnKind). d.1) (cond c (Some (y, k)) (find (λ (d : List ℕ × ColumnKind). same_text x d.0) (seen_columns columns names)))) p
        ∙ sym q ∙ ap (first_kind columns) (sym ((bytes_eq-Decides x y).0 p))
    by true p None q r = r ∙ if_none (is_among names x) (first_kind columns x) (ap (first_kind columns) ((bytes_eq-Decides x y).0 p) ∙ q)
    by false p (Some k) q r =
        ap (λ c. option_map (λ (d : List ℕ × ColumnKind). d.1) (cond c (Some (y, k)) (find (λ (d : List ℕ × ColumnKind). same_text x d.0) (seen_columns columns names)))) p ∙ r
    by false p None q r = r

sought_kind : (columns : ColumnList) (names : List (List ℕ)) (x : List ℕ) → is_among names x ≡ true → first_kind (seen_columns columns names) x ≡ first_kind columns x
sought_kind columns names x m = seen_kind columns names x ∙ ap (λ c. cond c (first_kind columns x) None) m

same_column : (a b : ColumnList) (x : List ℕ) → first_kind a x ≡ first_kind b x → is_column a x ≡ is_column b x
same_column a b x h = sym (is_some-first_kind a x) ∙ ap is_some h ∙ is_some-first_kind b x

-- so the expression is refused under them as under all
pub asked_under_seen : (q : ScopeQuestion) (columns : ColumnList) (e : Tree) → refused_under q (seen_columns columns (names_in e)) e ≡ refused_under q columns e
asked_under_seen question.Names columns e =
    ap (refusal_of_first refusal.Variable)
    (filter_alike (λ x. not (is_column (seen_columns columns (names_in e)) x)) (λ x. not (is_column columns x)) (names_in e)
    (λ x m. ap not (same_column (seen_columns columns (names_in e)) columns x (sought_kind columns (names_in e) x m))))
asked_under_seen question.Misuses columns e =
    ap misuse_if
    (misused_alike (seen_columns columns (names_in e)) columns elsewhere e
    (λ x m. ap (λ o. holds_group (unwrap_or o kind.Plain)) (sought_kind columns (names_in e) x m)))
