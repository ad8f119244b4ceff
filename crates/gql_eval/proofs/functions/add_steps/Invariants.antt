use Rattle.std.proofs.Common.{◌≡◌, ◌++◌, map, drop}
use Rattle.std.specs.List.{flat_map}
use Rattle.gql_ast.specs.Operators.{step_elements}
use Rattle.gql_eval.proofs.functions.add_steps.Given as goal

abbrev pub invariant-loop-step : goal.invariant-loop-step
invariant-loop-step l =
    l.items ++ flat_map step_elements (map (λ s. (s.0.0, s.1.0)) (drop l.step-index l.steps))
    ≡ l.fn.items ++ flat_map step_elements (map (λ s. (s.0.0, s.1.0)) l.steps)
