use Rattle.std.proofs.Common.{◌≡◌, ◌-◌, ◌∙◌, ap, length, arith}
use Rattle.std.proofs.lemmas.List.{take_rest}
use Rattle.gql_eval.specs.Machinery.InstructionMeaning.{op_of, program_of}
use Rattle.gql_eval.proofs.TurnedLemmas.{turned_end}
use Rattle.gql_eval.proofs.running.last_of.Goals as goal

pub returns-clause-steps : goal.returns-clause-steps
returns-clause-steps c =
    let start : c.saturating_sub-start.result ≡ length c.args.steps.now - c.args.count = omega arith in
    ap program_of (take_rest c.args.steps.now c.saturating_sub-start.result) ∙ turned_end op_of c.args.steps.now c.args.count c.saturating_sub-start.result start
