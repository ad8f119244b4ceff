use Rattle.gql_machine.specs.Machinery.Meaning.{session_state, reading_of}
use Rattle.gql_machine.proofs.PieceLemmas.{answered}
use Rattle.gql_machine.proofs.answer.answer_piece.Goals as goal

pub returns-clause-answers : goal.returns-clause-answers
returns-clause-answers g c =
    answered (session_state c.args.session.now) (session_state c.answer_read.new.session) c.args.piece.now (reading_of c.in_ok-read.read) c.answer_read.result c.requires.goes_on
    c.in_ok-read.ensures c.answer_read.ensures.leaves
