use Rattle.gql_rowcode.proofs.NotingLemmas.{type_in_order}
use Rattle.gql_rowcode.proofs.joining.edge_passes.Goals as goal

-- a type that is found is one of those in order
pub edge_fits-requires-clause-kind : goal.edge_fits-requires-clause-kind
edge_fits-requires-clause-kind c = type_in_order c.args.types.now c.as_str.result.now c.in-Some-type_named.found.now c.requires.types c.in-Some-type_named.ensures
