use Rattle.std.proofs.Common.{◌≡◌, ◌++◌, ◌&&◌, map, drop}
use Rattle.gql_ast.specs.InsertColumns.{insert_spots, spot_columns}
use Rattle.gql_ast.specs.Endpoints.{wrong_in_spots}
use Rattle.gql_change.specs.Changing.{is_empty}
use Rattle.gql_change.specs.Machinery.Roles.{questions, question_of}
use Rattle.gql_change.proofs.questions.outline_of.Given as goal

abbrev pub invariant-loop-i : goal.invariant-loop-i
invariant-loop-i l = record {
  columns : spot_columns l.so_far.0 (insert_spots (drop l.i l.paths)) ≡ spot_columns l.fn.columns (insert_spots l.paths);
  right : (l.so_far.1 && is_empty (wrong_in_spots l.so_far.0 (insert_spots (drop l.i l.paths)))) ≡ is_empty (wrong_in_spots l.fn.columns (insert_spots l.paths));
  asked : map question_of l.asked.items ++ questions l.so_far.0 (insert_spots (drop l.i l.paths)) ≡ questions l.fn.columns (insert_spots l.paths);
}
