use Rattle.gql_lexer.proofs.CutLemmas.{spans-of-pieces, lexemes-of-pieces, pieces-whole}
use Rattle.gql_lexer.proofs.laws.pieces_are_read_one_by_one.Goals as goal

pub returns : goal.returns
returns c = record { forms = spans-of-pieces; lexemes = lexemes-of-pieces; whole = pieces-whole }
