use Rattle.std.proofs.Common.{arith}
use Rattle.gql_typecode.proofs.TypeLemmas.{result_is_spelled, result_is_complete}
use Rattle.gql_typecode.proofs.graph_type.graph_type_of_bytes.Goals as goal

pub returns-clause-spelled : goal.returns-clause-spelled
returns-clause-spelled c = result_is_spelled c.args.bytes.now c.whole_type_of.result (λ i. omega (arith, c.type_inv.bytes i)) c.whole_type_of.ensures

pub returns-clause-complete : goal.returns-clause-complete
returns-clause-complete c = result_is_complete c.args.bytes.now c.whole_type_of.result c.whole_type_of.ensures
