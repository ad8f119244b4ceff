use Rattle.std.proofs.Common.{◌≡◌, ◌++◌, ◌&&◌, map, drop}
use Rattle.std.specs.List.{flat_map}
use Rattle.gql_ast.specs.InsertColumns.{spot_columns, step_spots, path_spots}
use Rattle.gql_ast.specs.Endpoints.{wrong_in_spots}
use Rattle.gql_change.specs.Changing.{is_empty}
use Rattle.gql_change.specs.Machinery.Roles.{questions, question_of}
use Rattle.gql_change.proofs.questions.ask_path.Given as goal

abbrev pub invariant-loop-i : goal.invariant-loop-i
invariant-loop-i l = record {
  columns : spot_columns l.more.0 (flat_map step_spots (drop l.i l.steps)) ≡ spot_columns l.fn.so_far.0 (path_spots l.path);
  right : (l.more.1 && is_empty (wrong_in_spots l.more.0 (flat_map step_spots (drop l.i l.steps)))) ≡ (l.fn.so_far.1 && is_empty (wrong_in_spots l.fn.so_far.0 (path_spots l.path)));
  asked : map question_of l.asked.items ++ questions l.more.0 (flat_map step_spots (drop l.i l.steps))
      ≡ map question_of l.fn.asked.items ++ questions l.fn.so_far.0 (path_spots l.path);
}
