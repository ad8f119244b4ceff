use Rattle.gql_machine.proofs.TypedRunLemmas.{runs_typed}
use Rattle.gql_machine.proofs.laws.typed_graphs_fit.Goals as goal

pub returns : goal.returns
returns c = runs_typed
