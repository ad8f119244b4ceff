use Rattle.gql_lexer.proofs.LawLemmas.{spans-join}
use Rattle.gql_lexer.proofs.laws.spans_join.Goals as goal

pub returns : goal.returns
returns c = spans-join
