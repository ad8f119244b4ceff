use Rattle.std.proofs.Common.{◌≡◌, ◌+◌, ◌*◌, ◌^◌, ◌≤◌, length, drop}
use Rattle.gql_values3.specs.Integers.{value_of_digits}
use Rattle.gql_values3.proofs.integer.number_within.Given as goal

abbrev pub invariant-loop-digit : goal.invariant-loop-digit
invariant-loop-digit l = record {
  told : l.value * 10 ^ length (drop l.digit-index l.digits) + value_of_digits (drop l.digit-index l.digits) ≡ value_of_digits l.digits;
  small : l.value ≤ l.most;
}
