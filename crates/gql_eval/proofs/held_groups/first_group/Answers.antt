use Rattle.std.proofs.Common.{◌≡◌, ◌∙◌, ◌-◌, ◌<◌, suc, ap, sym, length, take, arith}
use Rattle.std.specs.Prelude.{find}
use Rattle.gql_eval.specs.Machinery.InstructionMeaning.{op_of, program_of}
use Rattle.gql_eval.specs.Machinery.AtPlaces.{is_group_at}
use Rattle.gql_eval.specs.Machinery.Steps.{name_held, names_held}
use Rattle.gql_eval.proofs.HeldNameLemmas.{found_here, found_not, found_none}
use Rattle.gql_eval.proofs.TurnedLemmas.{turned_step}
use Rattle.gql_eval.proofs.held_groups.first_group.Goals as goal

pub returns-then-is_group_at : goal.returns-then-is_group_at
returns-then-is_group_at c =
    let below : c.loop-i.i - 1 < length c.args.steps.now = omega arith in
    let next : c.loop-i.i ≡ suc (c.loop-i.i - 1) = omega arith in
    let split = ap (λ n. program_of (take n c.args.steps.now)) next ∙ turned_step op_of c.args.steps.now (c.loop-i.i - 1) c.index-steps-i.result below c.index-steps-i.is in
    sym (found_here (is_group_at c.args.scope.now) (name_held (op_of c.index-steps-i.result)) (c.in-Some.places, c.in-Some.name.now) _ c.in-Some.ensures c.if-is_group_at.ensures)
    ∙ sym (ap (λ os. find (is_group_at c.args.scope.now) (names_held os)) split) ∙ c.loop-i.invariant

pub loop-i-preserved-else-is_group_at : goal.loop-i-preserved-else-is_group_at
loop-i-preserved-else-is_group_at c =
    let below : c.loop-i.i - 1 < length c.args.steps.now = omega arith in
    let next : c.loop-i.i ≡ suc (c.loop-i.i - 1) = omega arith in
    let split = ap (λ n. program_of (take n c.args.steps.now)) next ∙ turned_step op_of c.args.steps.now (c.loop-i.i - 1) c.index-steps-i.result below c.index-steps-i.is in
    sym (found_not (is_group_at c.args.scope.now) (name_held (op_of c.index-steps-i.result)) (c.in-Some.places, c.in-Some.name.now) _ c.in-Some.ensures c.if-is_group_at.ensures)
    ∙ sym (ap (λ os. find (is_group_at c.args.scope.now) (names_held os)) split) ∙ c.loop-i.invariant

pub loop-i-preserved : goal.loop-i-preserved
loop-i-preserved c =
    let below : c.loop-i.i - 1 < length c.args.steps.now = omega arith in
    let next : c.loop-i.i ≡ suc (c.loop-i.i - 1) = omega arith in
    let split = ap (λ n. program_of (take n c.args.steps.now)) next ∙ turned_step op_of c.args.steps.now (c.loop-i.i - 1) c.index-steps-i.result below c.index-steps-i.is in
    sym (found_none (is_group_at c.args.scope.now) (name_held (op_of c.index-steps-i.result)) _ c.in_default.ensures)
    ∙ sym (ap (λ os. find (is_group_at c.args.scope.now) (names_held os)) split) ∙ c.loop-i.invariant
