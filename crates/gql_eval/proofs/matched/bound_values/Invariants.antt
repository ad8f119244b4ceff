use Rattle.std.proofs.Common.{◌≡◌, ℕ, List, map, take}
use Rattle.gql_values3.specs.declared.table.Binding.{Binding}
use Rattle.gql_eval.proofs.matched.bound_values.Given as goal

abbrev pub invariant-loop-i : goal.invariant-loop-i
invariant-loop-i l = l.values.items ≡ map (λ (b : List ℕ × Binding). b.1) (take l.i l.bound)
