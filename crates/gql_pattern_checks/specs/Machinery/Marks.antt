-- How many variables and groups there are, and what is left when the later ones are taken away.
use Rattle.std.specs.Prelude.{length, take}
use Rattle.gql_pattern_checks.specs.declared.scope.Marks.{Marks}
use Rattle.gql_pattern_checks.specs.declared.scope.Names.{Names}

abbrev pub marks_of : Names → Marks
marks_of s = record { variables = length s.variables; groups = length s.groups }

abbrev pub cut_to : Marks → Names → Names
cut_to m s = record { paths = s.paths; variables = take m.variables s.variables; groups = take m.groups s.groups }
