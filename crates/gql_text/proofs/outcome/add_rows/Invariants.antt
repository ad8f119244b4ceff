use Rattle.std.proofs.Common.{◌≡◌, ◌++◌, drop}
use Rattle.std.specs.List.{flat_map}
use Rattle.gql_text.specs.OutcomeText.{row_text}
use Rattle.gql_text.specs.Machinery.Growing.{BeginsWith}
use Rattle.gql_text.proofs.outcome.add_rows.Given as goal

abbrev pub invariant-loop-row : goal.invariant-loop-row
invariant-loop-row l = record {
  told : (l.out ++ l.part) ++ flat_map row_text (drop l.row-index l.rows) ≡ l.fn.out ++ flat_map row_text l.rows;
  begins : BeginsWith l.fn.out l.out;
}
