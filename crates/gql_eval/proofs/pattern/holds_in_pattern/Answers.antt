use Rattle.std.proofs.Common.{◌≡◌, ◌∙◌, ◌++◌, ℕ, List, map, ap, subst, IfOk}
use Rattle.gql_values3.specs.declared.table.Binding.{Binding}
use Rattle.gql_ast.specs.Meaning.{tree_of}
use Rattle.gql_ast.specs.Scope.{row_scope}
use Rattle.gql_ast.specs.Evaluation.{pattern_truth}
use Rattle.gql_eval.specs.Bound.{bound_scope, match_scope}
use Rattle.gql_eval.proofs.ScopeLemmas.{both_again}
use Rattle.gql_eval.proofs.pattern.holds_in_pattern.Goals as goal

pub returns : goal.returns
returns g c =
    let pairs = c.args.bound.now in
    let names : c.as_slice-names.result.now ≡ map (λ (b : List ℕ × Binding). b.0) pairs = c.as_slice-names.ensures ∙ c.in_ok-names.ensures ∙ ap (map (λ (b : List ℕ × Binding). b.0)) c.as_slice.ensures in
    let values : c.as_slice-values.result.now ≡ map (λ (b : List ℕ × Binding). b.1) pairs = c.as_slice-values.ensures.value ∙ c.in_ok-values.ensures ∙ ap (map (λ (b : List ℕ × Binding). b.1)) c.as_slice-2.ensures in
    let scope : match_scope c.as_slice-names.result.now c.as_slice-values.result.now ≡ bound_scope pairs = (λ i. match_scope (names i) (values i)) ∙ both_again pairs in
    subst (λ s. IfOk c.holds_of_match.result (λ truth. truth ≡ pattern_truth (g.V.View.graph c.args.view.now) c.args.params.now (row_scope c.args.columns.now c.args.row.now ++ s) (tree_of c.args.expr.now))) scope c.holds_of_match.ensures
