use Rattle.gql_rowcode.proofs.WritingLemmas.{type_in_order}
use Rattle.gql_rowcode.proofs.writing_parts.type_record.Goals as goal

pub put_graph_type-requires : goal.put_graph_type-requires
put_graph_type-requires c = type_in_order c.args.kind.now c.requires
