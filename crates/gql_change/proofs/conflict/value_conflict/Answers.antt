use Rattle.std.proofs.Common.{◌≡◌, ◌∙◌, true, false, Some, ap, sym, arith}
use Rattle.std.proofs.lemmas.Grind.{common_steps}
use Rattle.gql_values3.specs.Meaning.{datum_of}
use Rattle.gql_values3.specs.Texts.{same_text}
use Rattle.gql_values3.specs.ValueOrder.{datum_cmp}
use Rattle.gql_ast.specs.declared.refusal.Refusal.TheVariants as refusal
use Rattle.gql_change.specs.Conflicts.{are_same}
use Rattle.gql_change.proofs.AssigningSteps.{same_value}
use Rattle.gql_change.proofs.ConflictLemmas.{differ, not_equal_index}
use Rattle.gql_change.proofs.conflict.value_conflict.Goals as goal

pub returns : goal.returns
returns c =
    let text : same_text c.args.name.now c.args.other.now ≡ true = grind (arith, common_steps, c.if-ne.ensures, c.as_str.ensures, c.as_str-2.ensures) in
    let order : are_same (datum_cmp (datum_of c.args.first.now) (datum_of c.args.second.now)) ≡ false =
    ap are_same (sym c.total_cmp.ensures) ∙ not_equal_index c.total_cmp.result c.if-eq.ensures in
    let name : c.in_ok-try_copy.field-0 ≡ c.args.name.now = c.in_ok-try_copy.ensures in
    let first : c.in_ok-try_copy-2.field-0 ≡ c.args.first.now = same_value _ _ c.in_ok-try_copy-2.ensures in
    let second : c.in_ok-try_copy-3.field-0 ≡ c.args.second.now = same_value _ _ c.in_ok-try_copy-3.ensures in
    (λ i. Some (refusal.Conflict c.args.elem (name i) (first i) (second i)))
    ∙ differ _ _ (refusal.Conflict c.args.elem c.args.name.now c.args.first.now c.args.second.now) text order
