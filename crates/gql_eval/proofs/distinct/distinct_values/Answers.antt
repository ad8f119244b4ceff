use Rattle.std.proofs.Common.{◌≡◌, ◌∙◌, ◌<◌, length, arith, refl, ap, sym, true, false, Bool}
use Rattle.std.specs.List.{list_any}
use Rattle.std.specs.Ordering.{is_eq, on}
use Rattle.std.specs.Borrow.{Bor}
use Rattle.std.specs.BTreeMap.{is_at}
use Rattle.gql_values3.specs.Meaning.{datum_of}
use Rattle.gql_values3.specs.Datum.{Datum}
use Rattle.gql_values3.specs.ValueOrder.{datum_cmp}
use Rattle.gql_values3.specs.declared.value.Value.{Value}
use Rattle.gql_eval.specs.Machinery.Ranked.{ranked_datum}
use Rattle.gql_eval.specs.declared.ranked.Ranked.{Ranked}
use Rattle.gql_eval.proofs.AggregateLemmas.{news_of_none, distinct_step_new, distinct_step_known, seen_more, not_true, not_false}
use Rattle.gql_eval.proofs.distinct.distinct_values.Goals.{then-branch+in_ok-push, else-branch}
use Rattle.gql_eval.proofs.distinct.distinct_values.Goals as goal

abbrev seen : Bor Value → Datum
seen v = datum_of v.now

-- an equal of the key
abbrev like : Ranked → Bor Value → Bool
like q v = is_eq (datum_cmp (datum_of v.now) (ranked_datum q))

pub loop-i-init : goal.loop-i-init
loop-i-init c = record {
  so_far = rw c.new-left.ensures.items (news_of_none _);
  same = λ q. rw (c.new-seen.ensures.empty, c.new-left.ensures.items) refl;
}

pub loop-i-preserved : goal.loop-i-preserved
loop-i-preserved c =
    let below : c.loop-i.i < length c.args.values.now = omega arith in
    let kept = c.loop-i.left.items in
    let x = c.index-values-i.result in
    let key : Ranked = record { value = x } in
    elim c.if-branch.branch [
      | then-branch+in_ok-push w ↦
          let fresh : list_any (like key) kept ≡ false = sym (c.loop-i.invariant.same key) ∙ not_true _ (sym c.in_ok-insert.ensures.added ∙ w.if-branch.true) in
          rw w.left-is (record {
            so_far = distinct_step_new seen kept w.push.new.self.items c.args.values.now c.loop-i.i x below c.index-values-i.is fresh w.in_ok-push.ensures.items ∙ c.loop-i.invariant.so_far;
            same = λ q. c.in_ok-insert.ensures.updates.0 q ∙ seen_more (like q) kept x _ (c.loop-i.invariant.same q) ∙ ap (list_any (like q)) (sym w.in_ok-push.ensures.items);
          })
      | else-branch w ↦
          let known : list_any (like key) kept ≡ true = sym (c.loop-i.invariant.same key) ∙ not_false _ (sym c.in_ok-insert.ensures.added ∙ w.if-branch.false) in
          let stay = rw w.if-branch.false at c.in_ok-insert.ensures.unchanged in
          rw w.left-is (record {
            so_far = distinct_step_known seen kept c.args.values.now c.loop-i.i x below c.index-values-i.is known ∙ c.loop-i.invariant.so_far;
            same = λ q. ap (list_any (is_at (on ranked_datum datum_cmp q))) stay ∙ c.loop-i.invariant.same q;
          })
    ]
