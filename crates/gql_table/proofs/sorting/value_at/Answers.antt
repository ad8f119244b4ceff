use Rattle.gql_table.proofs.KeyLemmas.{key_at}
use Rattle.gql_table.proofs.sorting.value_at.Goals as goal

pub returns-in-Some : goal.returns-in-Some
returns-in-Some c = key_at c.args.values.now c.args.place c.in-Some.value.now c.in-Some.ensures.lookup.3.0 c.in-Some.ensures.lookup.1
