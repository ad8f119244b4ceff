use Rattle.std.proofs.Common.{rules}
use Rattle.std.proofs.lemmas.Fn.{always_returns_same}
use Rattle.gql_eval.proofs.StableSort.{is_sorted}
use Rattle.gql_rowcode.specs.Machinery.Noted.{name_before}
use Rattle.gql_rowcode.proofs.CatalogLemmas.{by_name}
use Rattle.gql_rowcode.proofs.catalog.types_in_order.Goals as goal

pub returns : goal.returns
returns c =
    let facts = c.in_ok-sort_by.ensures in
    is_sorted name_before by_name c.args.types.items c.sort_by.new.self.items
    (facts.sorted name_before by_name (always_returns_same _ _ _ (λ a r g called. (search rules, search rules))))
    (facts.stable name_before by_name (always_returns_same _ _ _ (λ a r g called. (search rules, search rules))))
