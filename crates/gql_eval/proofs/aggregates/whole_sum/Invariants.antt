use Rattle.std.proofs.Common.{◌≡◌, ◌*◌, map, drop, pos, neg_ℤ, ◌≤ℤ◌}
use Rattle.std.specs.Borrow.{Bor}
use Rattle.gql_values3.specs.Meaning.{datum_of}
use Rattle.gql_values3.specs.declared.value.Value.{Value}
use Rattle.gql_eval.proofs.AggregateLemmas.{total_from}
use Rattle.gql_eval.proofs.aggregates.whole_sum.Given as goal

abbrev pub invariant-loop-i : goal.invariant-loop-i
invariant-loop-i l = record {
  so_far : total_from l.whole (map (λ (v : Bor Value). datum_of v.now) (drop l.i l.values)) ≡ total_from (pos 0) (map (λ (v : Bor Value). datum_of v.now) l.values);
  low : neg_ℤ (pos (9223372036854775808 * l.i)) ≤ℤ l.whole;
  high : l.whole ≤ℤ pos (9223372036854775808 * l.i);
}
