use Rattle.std.proofs.Common.{rules}
use Rattle.gql_fan.specs.Answers.{Answers}
use Rattle.gql_fan.proofs.AnswersLemmas.{answers_append}
use Rattle.gql_fan.proofs.halves.+fn-in_halves-join+arg2+fn-in_halves-join+arg3+in_halves.Goals as goal

pub returns : goal.returns
returns g t c =
    let first : Answers (g.J.Job.answers c.args.job.now) c.split_at.result.0.now c.in_ok-outs.outs.items = search rules in
    let second : Answers (g.J.Job.answers c.args.job.now) c.split_at.result.1.now c.in_ok-others.others.items = search rules in
    let both = answers_append (g.J.Job.answers c.args.job.now) _ _ _ _ first second in
    rw (c.split_at.ensures.by_index.0, c.append.ensures.items) search rules
