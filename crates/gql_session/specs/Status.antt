-- The numbers of the statuses.
use Rattle.std.specs.Prelude.{ℕ}
use Rattle.gql_session.specs.declared.status.Status.{Status}
use Rattle.gql_session.specs.declared.status.Status.TheVariants as status

-- the program's exit status
abbrev pub number_of : Status → ℕ
number_of status.Answered = 0
number_of status.Refused = 1
number_of status.Usage = 2
number_of status.SourceFault = 3
number_of status.SinkFault = 4
number_of status.StoreFault = 5
number_of status.NoMemory = 6
number_of status.TooLong = 7
number_of (status.BadStore i) = 8
