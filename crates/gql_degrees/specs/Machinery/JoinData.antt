-- What the code finds of a name, seen as plain data.
use Rattle.std.specs.Prelude.{Bool}
use Rattle.gql_norm.specs.declared.degree.Degree.{Degree}
use Rattle.gql_norm.specs.JoinDefects.{has_group, has_conditional}
use Rattle.gql_degrees.specs.Machinery.JoinWalk.{Before, Walked}
use Rattle.gql_degrees.specs.declared.before.Before.{Before as CodeBefore}
use Rattle.gql_degrees.specs.declared.before.Join.{Join}
use Rattle.gql_degrees.specs.declared.before.Join.TheVariants as join
use Rattle.gql_degrees.specs.declared.walked.Walked.{Walked as CodeWalked}

abbrev pub before_data : CodeBefore → Before
before_data b = record { singleton = b.singleton; conditional = b.conditional; group = b.group }

abbrev pub walked_data : CodeWalked → Walked
walked_data w = record { degree = w.degree; first = w.first; fault = w.fault; behind = w.behind }

-- the two degrees that are at fault
abbrev pub at_fault : Join → Degree → Degree → Bool
at_fault join.Group = has_group
at_fault join.Conditional = has_conditional
