use Rattle.std.proofs.Common.{◌≡◌, ◌++◌, take}
use Rattle.std.specs.List.{flat_map, AllByRecursion}
use Rattle.gql_fields.specs.Spelling.{spelled}
use Rattle.gql_fields.specs.Kept.{IsText}
use Rattle.gql_fields.proofs.writing.put_texts.Given as goal

abbrev pub invariant-loop-i : goal.invariant-loop-i
invariant-loop-i l = record {
  written : l.out ≡ l.initial.out ++ flat_map spelled (take l.i l.texts);
  kept : AllByRecursion IsText (take l.i l.texts);
}
