use Rattle.std.proofs.Common.{◌≡◌, ◌++◌, take}
use Rattle.std.specs.List.{flat_map, AllByRecursion}
use Rattle.gql_typecode.proofs.counted.put_items.Given as goal

abbrev pub invariant-loop-one : goal.invariant-loop-one
invariant-loop-one g l = record {
  written : l.out ≡ l.initial.out ++ flat_map g.T.Counted.spelled (take l.one-index l.items);
  kept : AllByRecursion g.T.Counted.kept (take l.one-index l.items);
}
