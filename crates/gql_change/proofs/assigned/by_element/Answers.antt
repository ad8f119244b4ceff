use Rattle.std.proofs.Common.{rules}
use Rattle.std.proofs.lemmas.Fn.{always_returns_same}
use Rattle.gql_change.specs.Machinery.Building.{target_before}
use Rattle.gql_eval.proofs.StableSort.{is_sorted}
use Rattle.gql_change.proofs.BuildingLemmas.{targets_ordered}
use Rattle.gql_change.proofs.assigned.by_element.Goals as goal

pub returns : goal.returns
returns c =
    let facts = c.in_ok-sort_by.ensures in
    is_sorted target_before targets_ordered c.args.assignments.items c.sort_by.new.self.items
    (facts.sorted target_before targets_ordered (always_returns_same _ _ _ (λ a r g called. (search rules, search rules))))
    (facts.stable target_before targets_ordered (always_returns_same _ _ _ (λ a r g called. (search rules, search rules))))
