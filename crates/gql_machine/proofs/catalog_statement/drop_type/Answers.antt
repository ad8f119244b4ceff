use Rattle.std.proofs.Common.{◌≡◌, ◌∙◌, ap, sym, false}
use Rattle.std.specs.Prelude.{is_some}
use Rattle.gql_graph.specs.Catalog.{type_in}
use Rattle.gql_txn.specs.TxnData.{with_catalog}
use Rattle.gql_machine.proofs.NameLemmas.{not_there, without_no_type}
use Rattle.gql_machine.proofs.TypedLemmas.{unused}
use Rattle.gql_machine.proofs.catalog_statement.drop_type.Goals as goal

-- no graph has the type
pub drop_type-requires : goal.drop_type-requires
drop_type-requires c = unused c.args.txn.now.catalog c.args.name.now c.requires

-- nothing goes where there is none
pub returns-else-has_graph_type : goal.returns-else-has_graph_type
returns-else-has_graph_type c =
    let t = c.args.txn.now in
    let name = c.args.name.now in
    let none : is_some (type_in t.catalog name) ≡ false = ap (λ k. is_some (type_in k name)) (sym c.catalog.ensures.same) ∙ sym c.has_graph_type.ensures ∙ c.if-has_graph_type.false in
    sym (ap (with_catalog t) (without_no_type name t.catalog (not_there (type_in t.catalog name) none)))
