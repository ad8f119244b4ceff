-- What the code's values mean: the state of a session, how a piece reads, and the end of a statement.
use Rattle.gql_ast.specs.declared.refusal.Outcome.{Outcome}
use Rattle.gql_machine.specs.Reading.{Reading, blank, bad, deep, unread, read}
use Rattle.gql_machine.specs.SessionState.{SessionState}
use Rattle.gql_machine.specs.StatementRun.{StatementEnd}
use Rattle.gql_machine.specs.declared.reading.Read.{Read}
use Rattle.gql_machine.specs.declared.reading.Read.TheVariants as found
use Rattle.gql_machine.specs.declared.state.Session.{Session}

abbrev pub session_state : Session → SessionState
session_state s = record { catalog = s.txn.catalog; kept = s.txn.kept; access = s.txn.access; graph = s.graph; parameters = s.parameters; is_closed = s.is_closed }

abbrev pub reading_of : Read → Reading
reading_of found.Blank = blank
reading_of found.Bad = bad
reading_of found.Deep = deep
reading_of found.Unread = unread
reading_of (found.Statement s) = read s

-- an outcome and the state behind it
abbrev pub statement_end : Outcome → SessionState → StatementEnd
statement_end made after = record { outcome = made; after = after }
