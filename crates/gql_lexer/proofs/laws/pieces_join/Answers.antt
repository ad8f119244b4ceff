use Rattle.gql_lexer.proofs.LawLemmas.{pieces-join}
use Rattle.gql_lexer.proofs.laws.pieces_join.Goals as goal

pub returns : goal.returns
returns c = pieces-join
