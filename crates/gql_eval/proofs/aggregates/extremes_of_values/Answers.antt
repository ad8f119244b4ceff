use Rattle.gql_eval.proofs.ExtremeLemmas.{least_law, greatest_law}
use Rattle.gql_eval.proofs.aggregates.extremes_of_values.Goals as goal

pub returns-clause-least : goal.returns-clause-least
returns-clause-least c = least_law

pub returns-clause-greatest : goal.returns-clause-greatest
returns-clause-greatest c = greatest_law
