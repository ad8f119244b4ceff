use Rattle.gql_values3.proofs.OrderLaws.{datum_cmp_total, exact_datum}
use Rattle.gql_values3.proofs.order.total_order.Goals as goal

pub returns-clause-total : goal.returns-clause-total
returns-clause-total c = datum_cmp_total

pub returns-clause-exact : goal.returns-clause-exact
returns-clause-exact c = exact_datum
