use Rattle.gql_type.proofs.SetLemmas.{same_names-lengths}
use Rattle.gql_type.proofs.content.same_names.Goals as goal

pub returns-then-names-others : goal.returns-then-names-others
returns-then-names-others c = same_names-lengths c.args.names.now c.args.others.now c.if-names-others.true
