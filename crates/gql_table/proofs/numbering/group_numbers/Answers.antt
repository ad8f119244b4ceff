use Rattle.std.proofs.Common.{◌≡◌, ◌∷◌, ◌++◌, ◌∙◌, ◌+◌, ◌<◌, [], List, map, drop, sym, ap, refl, length, arith, append_assoc}
use Rattle.std.specs.Borrow.{Bor}
use Rattle.gql_values3.specs.Datum.{Datum}
use Rattle.gql_table.specs.Machinery.Places.{place, added, places}
use Rattle.gql_eval.proofs.EachSteps.{drop_here}
use Rattle.gql_table.proofs.numbering.group_numbers.Goals as goal

pub loop-i-init : goal.loop-i-init
loop-i-init c = record {
  so_far = rw (c.new-numbers.ensures.items, c.new-firsts.ensures.items) refl;
  same = λ q. rw (c.new-seen.ensures.empty, c.new-firsts.ensures.items) refl;
}

pub loop-i-preserved : goal.loop-i-preserved
loop-i-preserved c =
    let at = c.loop-i in
    let row = c.index-rows-i.result in
    let rest = drop (at.i + 1) c.args.rows.now in
    let firsts = map (λ (r : Bor (List Datum)). r.now) at.firsts.items in
    let below : at.i < length c.args.rows.now = omega arith in
    let left : drop at.i c.args.rows.now ≡ row ∷ rest = drop_here c.args.rows.now at.i row below c.index-rows-i.is in
    record {
      so_far = rw (c.in_ok-push.ensures.items, c.in_ok-number.ensures.firsts, c.in_ok-number.ensures.number)
          (append_assoc at.numbers.items (place firsts row ∷ []) (places (added firsts row) rest) ∙ ap (λ l. at.numbers.items ++ l) (sym (ap (places firsts) left)) ∙ at.invariant.so_far);
      same = c.in_ok-number.ensures.seen;
    }
