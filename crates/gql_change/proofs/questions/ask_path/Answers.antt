use Rattle.std.proofs.Common.{◌≡◌, ◌≤◌, ◌∙◌, [], ◌∷◌, ◌+◌, ◌<◌, ◌&&◌, true, List, length, drop, map, refl, sym, ap, arith}
use Rattle.std.specs.List.{flat_map}
use Rattle.std.proofs.lemmas.List.{drop_all}
use Rattle.gql_values3.proofs.BoolLemmas.{and_true}
use Rattle.gql_ast.specs.InsertColumns.{spot_columns, step_spots}
use Rattle.gql_ast.specs.Endpoints.{wrong_in_spots}
use Rattle.gql_ast.specs.declared.change.InsertStep.{InsertStep}
use Rattle.gql_eval.proofs.EachSteps.{drop_here as item_here}
use Rattle.gql_change.specs.Changing.{is_empty}
use Rattle.gql_change.specs.Machinery.Roles.{question_of}
use Rattle.gql_change.proofs.EndpointLemmas.{columns_past, right_past}
use Rattle.gql_change.proofs.QuestionLemmas.{asked_past}
use Rattle.gql_change.proofs.questions.ask_path.Goals as goal

pub loop-i-preserved : goal.loop-i-preserved
loop-i-preserved c =
    let steps = c.as_slice-steps.result.now in
    let step = c.index-steps-i.result in
    let more = c.loop-i.more in
    let below : c.loop-i.i < length steps = omega arith in
    let cut : drop c.loop-i.i steps ≡ step ∷ drop (c.loop-i.i + 1) steps = item_here steps c.loop-i.i step below c.index-steps-i.is in
    let rest = flat_map step_spots (drop (c.loop-i.i + 1) steps) in
    let left = flat_map step_spots (drop c.loop-i.i steps) in
    let spots = ap (λ (ss : List InsertStep). flat_map step_spots ss) cut in
    record {
      columns = rw (c.in_ok-more-2.ensures.behind.0) (columns_past more.0 (step_spots step) rest left spots ∙ c.loop-i.invariant.columns);
      right = rw (c.in_ok-more-2.ensures.behind.1, c.in_ok-more-2.ensures.behind.0) (right_past more.1 more.0 (step_spots step) rest left spots ∙ c.loop-i.invariant.right);
      asked = rw (c.in_ok-more-2.ensures.asked, c.in_ok-more-2.ensures.behind.0) (asked_past (map question_of c.loop-i.asked.items) more.0 (step_spots step) rest left spots ∙ c.loop-i.invariant.asked);
    }

pub returns-clause-behind : goal.returns-clause-behind
returns-clause-behind c =
    let steps = c.as_slice-steps.result.now in
    let more = c.loop-i.more in
    let past : length steps ≤ c.loop-i.i = omega arith in
    let ends : drop c.loop-i.i steps ≡ [] = drop_all c.loop-i.i steps past in (
      ap (λ (ss : List InsertStep). spot_columns more.0 (flat_map step_spots ss)) (sym ends) ∙ c.loop-i.invariant.columns,
      and_true more.1 true refl ∙ ap (λ (ss : List InsertStep). more.1 && is_empty (wrong_in_spots more.0 (flat_map step_spots ss))) (sym ends) ∙ c.loop-i.invariant.right,
    )
