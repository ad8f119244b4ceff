use Rattle.std.proofs.Common.{◌≡◌, drop}
use Rattle.std.specs.List.{flat_map}
use Rattle.gql_ast.specs.InsertColumns.{step_spots}
use Rattle.gql_scope.specs.Machinery.Questions.{first_in_maps}
use Rattle.gql_scope.proofs.insert_maps.check_steps.Given as goal

abbrev pub invariant-loop-step : goal.invariant-loop-step
invariant-loop-step l = first_in_maps l.question (flat_map step_spots (drop l.step-index l.steps)) ≡ first_in_maps l.question (flat_map step_spots l.steps)
