use Rattle.std.proofs.Common.{◌≡◌, ◌++◌, take}
use Rattle.std.specs.List.{flat_map, AllByRecursion}
use Rattle.gql_fields.specs.Spelling.{property_spelled}
use Rattle.gql_fields.specs.Kept.{IsKeptProperty}
use Rattle.gql_fields.specs.Machinery.Reading.{pair_of}
use Rattle.gql_fields.proofs.property_writing.put_pairs.Given as goal

abbrev pub invariant-loop-i : goal.invariant-loop-i
invariant-loop-i l = record {
  written : l.out ≡ l.initial.out ++ flat_map (λ p. property_spelled (pair_of p)) (take l.i l.pairs);
  kept : AllByRecursion (λ p. IsKeptProperty (pair_of p)) (take l.i l.pairs);
}
