use Rattle.std.proofs.Common.{[], ◌∷◌, get_or}
use Rattle.std.proofs.lemmas.List.{take_more}
use Rattle.gql_fan.proofs.AnswersLemmas.{answers_append}
use Rattle.gql_fan.proofs.in_turn.in_turn.Goals as goal

pub loop-input-preserved : goal.loop-input-preserved
loop-input-preserved g c =
    let newest = get_or c.args.inputs.now c.loop-input.input-index 0 in
    rw (c.in_ok-push.ensures.items, take_more c.args.inputs.now c.loop-input.input-index 0 c.loop-input-test.true)
    (answers_append _ _ (newest ∷ []) _ (c.in_ok-out.out ∷ []) c.loop-input.invariant (c.in_ok-out.ensures, tt))
