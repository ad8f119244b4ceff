use Rattle.std.proofs.Common.{◌≡◌, drop}
use Rattle.std.specs.List.{flat_map}
use Rattle.gql_ast.specs.InsertColumns.{path_spots}
use Rattle.gql_scope.specs.Machinery.Questions.{first_in_maps}
use Rattle.gql_scope.proofs.insert_maps.check_maps.Given as goal

abbrev pub invariant-loop-path : goal.invariant-loop-path
invariant-loop-path l = first_in_maps l.question (flat_map path_spots (drop l.path-index l.paths)) ≡ first_in_maps l.question (flat_map path_spots l.paths)
