use Rattle.std.proofs.Common.{rules}
use Rattle.std.proofs.lemmas.Fn.{always_returns_same}
use Rattle.gql_eval.proofs.StableSort.{is_sorted}
use Rattle.gql_rowcode.specs.Machinery.Writing.{key_before}
use Rattle.gql_rowcode.proofs.OrderingSort.{by_key}
use Rattle.gql_rowcode.proofs.writing.in_order.Goals as goal

pub returns-clause-order : goal.returns-clause-order
returns-clause-order c =
    let facts = c.in_ok-sort_by.ensures in
    is_sorted key_before by_key c.args.records.items c.sort_by.new.self.items
    (facts.sorted key_before by_key (always_returns_same _ _ _ (λ a r g called. (search rules, search rules))))
    (facts.stable key_before by_key (always_returns_same _ _ _ (λ a r g called. (search rules, search rules))))
