use Rattle.gql_graph.proofs.NumberLemmas.{ascends_if}
use Rattle.gql_graph.proofs.numbers.numbers_fit.Goals as goal

pub returns-clause-ascending : goal.returns-clause-ascending
returns-clause-ascending g c = ascends_if g.T.Numbered.number_of c.args.items.now 0 c.args.next c.numbers_ascend.result c.numbers_ascend.ensures
