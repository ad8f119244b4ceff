use Rattle.std.proofs.Common.{◌≡◌, map, drop}
use Rattle.std.specs.Borrow.{Bor}
use Rattle.gql_values3.specs.Meaning.{datum_of}
use Rattle.gql_values3.specs.declared.value.Value.{Value}
use Rattle.gql_eval.specs.Machinery.Furthest.{furthest_of}
use Rattle.gql_eval.proofs.aggregates.furthest_among.Given as goal

abbrev pub invariant-loop-i : goal.invariant-loop-i
invariant-loop-i l =
    furthest_of l.extreme (datum_of l.best) (map (λ (v : Bor Value). datum_of v.now) (drop l.i l.rest)) ≡ furthest_of l.extreme (datum_of l.fn.first) (map (λ (v : Bor Value). datum_of v.now) l.rest)
