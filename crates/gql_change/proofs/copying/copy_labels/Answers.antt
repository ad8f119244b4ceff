use Rattle.std.proofs.Common.{◌≡◌, ◌∙◌, ◌++◌, ◌∷◌, [], take, vec_len, slice_get, sym, ap, Some, None}
use Rattle.gql_values3.specs.Lookup.{labels_of}
use Rattle.gql_change.proofs.CopyLemmas.{taken, all_taken, copied_none}
use Rattle.gql_change.proofs.copying.copy_labels.Goals as goal

pub loop-label-preserved : goal.loop-label-preserved
loop-label-preserved g c =
    let xs = labels_of (g.V.View.graph c.args.view.now) c.args.elem in
    let n = vec_len c.loop-label.labels in
    let got : Some c.in-Some.label.now ≡ slice_get xs n = c.in-Some.ensures ∙ ap (slice_get xs) c.len.ensures in
    let copy : c.in_ok-try_copy.field-0 ≡ c.in-Some.label.now = c.in_ok-try_copy.ensures in
    record {
      copied = c.in_ok-push.ensures.items ∙ (λ i. c.loop-label.invariant.copied i ++ copy i ∷ []) ∙ sym (taken xs n c.in-Some.label.now got)
          ∙ ap (λ k. take k xs) (sym c.in_ok-push.ensures.len);
    }

pub returns : goal.returns
returns g c =
    let xs = labels_of (g.V.View.graph c.args.view.now) c.args.elem in
    let n = vec_len c.loop-label.labels in
    let none : None ≡ slice_get xs n = copied_none c.label_at.result (slice_get xs n) (λ x p. c.in_default.not-Some x p) (c.label_at.ensures ∙ ap (slice_get xs) c.len.ensures) in
    c.loop-label.invariant.copied ∙ all_taken xs n none
