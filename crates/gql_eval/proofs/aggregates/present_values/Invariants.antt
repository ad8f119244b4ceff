use Rattle.std.proofs.Common.{◌≡◌, map, drop, not, ◌++◌}
use Rattle.std.specs.Prelude.{filter}
use Rattle.std.specs.Borrow.{Bor}
use Rattle.gql_values3.specs.Meaning.{datum_of}
use Rattle.gql_values3.specs.Datum.{is_null}
use Rattle.gql_values3.specs.declared.value.Value.{Value}
use Rattle.gql_eval.proofs.aggregates.present_values.Given as goal

abbrev pub invariant-loop-i : goal.invariant-loop-i
invariant-loop-i l =
    map (λ (v : Bor Value). datum_of v.now) l.left.items ++ filter (λ d. not (is_null d)) (map datum_of (drop l.i l.values))
    ≡ filter (λ d. not (is_null d)) (map datum_of l.values)
