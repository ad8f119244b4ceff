use Rattle.std.proofs.Common.{◌≡◌, ◌∙◌, ap, sym, false}
use Rattle.std.specs.Prelude.{is_some}
use Rattle.gql_graph.specs.Catalog.{held_in}
use Rattle.gql_txn.specs.TxnData.{with_catalog}
use Rattle.gql_machine.proofs.NameLemmas.{not_there, without_no_graph}
use Rattle.gql_machine.proofs.catalog_statement.drop_graph.Goals as goal

-- nothing goes where there is none
pub returns-else-has_graph : goal.returns-else-has_graph
returns-else-has_graph c =
    let t = c.args.txn.now in
    let name = c.args.name.now in
    let none : is_some (held_in t.catalog name) ≡ false = ap (λ k. is_some (held_in k name)) (sym c.catalog.ensures.same) ∙ sym c.has_graph.ensures ∙ c.if-has_graph.false in
    sym (ap (with_catalog t) (without_no_graph name t.catalog (not_there (held_in t.catalog name) none)))
