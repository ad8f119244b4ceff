use Rattle.std.proofs.Common.{drop}
use Rattle.std.specs.List.{flat_map}
use Rattle.gql_ast.specs.InsertColumns.{path_spots}
use Rattle.gql_scope.proofs.SpotLemmas.{StandsBefore}
use Rattle.gql_scope.proofs.insert_spots.pass_paths.Given as goal

abbrev pub invariant-loop-path : goal.invariant-loop-path
invariant-loop-path l = StandsBefore l.incoming l.initial.fresh l.initial.kinds (flat_map path_spots l.paths) l.fresh l.kinds (flat_map path_spots (drop l.path-index l.paths))
