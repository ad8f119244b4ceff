use Rattle.std.proofs.Common.{◌≡◌, find}
use Rattle.gql_term.specs.Machinery.BarredNames.{barred_by}
use Rattle.gql_term.proofs.NameLemmas.{names_from}
use Rattle.gql_term.proofs.names.first_in_predicates.Given as goal

abbrev pub invariant-loop-i : goal.invariant-loop-i
invariant-loop-i l = find (barred_by l.before) (names_from l.predicates l.i) ≡ find (barred_by l.before) (names_from l.predicates 0)
