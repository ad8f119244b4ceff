use Rattle.std.proofs.Common.{◌≡◌, ◌++◌, drop, map}
use Rattle.std.specs.List.{flat_map}
use Rattle.gql_ast.specs.ValueText.{step_text}
use Rattle.gql_ast.proofs.text.values.push_steps.Given as goal

abbrev pub invariant-loop-step : goal.invariant-loop-step
invariant-loop-step l =
    l.text ++ flat_map step_text (map (λ s. (s.0.0, s.1.0)) (drop l.step-index l.steps)) ≡ l.fn.text ++ flat_map step_text (map (λ s. (s.0.0, s.1.0)) l.steps)
