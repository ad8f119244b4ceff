use Rattle.gql_type.proofs.TypeLaws.{type_longest}
use Rattle.gql_type.proofs.laws.the_longest_type_is_read.Goals as goal

pub returns : goal.returns
returns c = type_longest
