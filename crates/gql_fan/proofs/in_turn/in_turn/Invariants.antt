use Rattle.std.proofs.Common.{take}
use Rattle.gql_fan.specs.Answers.{Answers}
use Rattle.gql_fan.proofs.in_turn.in_turn.Given as goal

abbrev pub invariant-loop-input : goal.invariant-loop-input
invariant-loop-input g l = Answers (g.J.Job.answers l.job) (take l.input-index l.inputs) l.outs.items
