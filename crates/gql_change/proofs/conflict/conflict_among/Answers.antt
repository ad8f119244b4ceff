use Rattle.std.proofs.Common.{◌≡◌, ◌∙◌, Bool, List, ap, subst, rules, Bor}
use Rattle.std.specs.Result.{IfOk}
use Rattle.std.proofs.lemmas.Fn.{always_returns_same}
use Rattle.gql_change.specs.Conflicts.{comes_before, in_order, neighbours_conflict}
use Rattle.gql_change.specs.declared.assignment.Assignment.{Assignment}
use Rattle.gql_eval.specs.StableSort.{stably_sorted}
use Rattle.gql_eval.proofs.StableSort.{is_sorted}
use Rattle.gql_change.proofs.ConflictLemmas.{references_ordered, references_sorted, seen}
use Rattle.gql_change.proofs.conflict.conflict_among.Goals as goal

pub returns : goal.returns
returns c =
    let lt : Bor Assignment → Bor Assignment → Bool = λ a b. comes_before a.now b.now in
    let facts = c.in_ok-sort_by.ensures in
    let refs = c.in_ok-sorted.sorted.items in
    let by_sort : c.sort_by.new.self.items ≡ stably_sorted lt refs =
    is_sorted lt references_ordered refs c.sort_by.new.self.items
    (facts.sorted lt references_ordered (always_returns_same _ _ _ (λ a r g called. (search rules, search rules))))
    (facts.stable lt references_ordered (always_returns_same _ _ _ (λ a r g called. (search rules, search rules)))) in
    let same : seen c.as_slice.result.now ≡ in_order c.args.assignments.now =
    ap seen c.as_slice.ensures.value ∙ ap seen by_sort ∙ references_sorted refs ∙ ap in_order c.in_ok-sorted.ensures in
    subst (λ (l : List Assignment). IfOk c.neighbours_conflict.result (λ refusal. refusal ≡ neighbours_conflict l)) same c.neighbours_conflict.ensures
