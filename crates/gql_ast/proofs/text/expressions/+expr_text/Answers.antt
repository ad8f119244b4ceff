use Rattle.std.proofs.Common.{◌<◌, length, arith}
use Rattle.gql_ast.specs.Meaning.{tree_of, link_of}
use Rattle.gql_ast.proofs.HeightLemmas.{height_of_le-highest, link_height_of_le-highest_link}
use Rattle.gql_ast.proofs.text.expressions.+expr_text.Goals as goal

pub push_more_exprs-push_between-requires : goal.push_more_exprs-push_between-requires
push_more_exprs-push_between-requires t c =
    let below : c.loop-i.i < length c.args.exprs.now = omega arith in
    (omega (arith, height_of_le-highest tree_of c.args.exprs.now c.loop-i.i c.index-exprs-i.result below c.index-exprs-i.is), tt)

pub push_steps-push_between-requires : goal.push_steps-push_between-requires
push_steps-push_between-requires t c =
    let below : c.loop-i.i < length c.args.steps.now = omega arith in
    (omega (arith, link_height_of_le-highest_link link_of c.args.steps.now c.loop-i.i c.index-steps-i.result below c.index-steps-i.is), tt)
