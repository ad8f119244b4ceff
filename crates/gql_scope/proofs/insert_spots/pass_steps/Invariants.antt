use Rattle.std.proofs.Common.{drop}
use Rattle.std.specs.List.{flat_map}
use Rattle.gql_ast.specs.InsertColumns.{step_spots}
use Rattle.gql_scope.proofs.SpotLemmas.{StandsBefore}
use Rattle.gql_scope.proofs.insert_spots.pass_steps.Given as goal

abbrev pub invariant-loop-step : goal.invariant-loop-step
invariant-loop-step l = StandsBefore l.incoming l.initial.fresh l.initial.kinds (flat_map step_spots l.steps) l.fresh l.kinds (flat_map step_spots (drop l.step-index l.steps))
