use Rattle.std.proofs.Common.{◌≡◌, map, take}
use Rattle.std.specs.Borrow.{Bor}
use Rattle.gql_values3.specs.Meaning.{datum_of}
use Rattle.gql_values3.specs.declared.value.Value.{Value}
use Rattle.gql_table.proofs.running.references.Given as goal

abbrev pub invariant-loop-i : goal.invariant-loop-i
invariant-loop-i l = map (λ (v : Bor Value). datum_of v.now) l.all.items ≡ map datum_of (take l.i l.values)
