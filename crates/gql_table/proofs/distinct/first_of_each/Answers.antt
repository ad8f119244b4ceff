use Rattle.std.proofs.Common.{◌≡◌, ◌∷◌, ◌∙◌, [], drop, sym, ap, length, arith, rules}
use Rattle.std.specs.Vec.Iter.{into_iter_items}
use Rattle.gql_table.specs.Machinery.Places.{place, added, places}
use Rattle.gql_eval.proofs.EachSteps.{no_items}
use Rattle.gql_table.proofs.PlaceLemmas.{gathered, gathered_all, length_places, number_here}
use Rattle.gql_table.proofs.distinct.first_of_each.Goals as goal

pub loop-row-init : goal.loop-row-init
loop-row-init c =
    let start : into_iter_items c.into_iter-row-iterator.result ≡ c.args.rows = c.into_iter-row-iterator.ensures.into_iter_gives.0 ∙ c.into_vec-row-items.ensures in
    let long = ap length start in
    record {
      whole = rw (c.new-left.ensures, start) (gathered_all c.args.rows);
      numbers = rw (c.new-left.ensures, start) c.requires;
      within = omega (arith, long, ap length c.requires, length_places [] c.args.rows);
      counted = search rules;
    }

pub loop-row-preserved : goal.loop-row-preserved
loop-row-preserved c =
    let at = c.loop-row in
    let row = c.in-Some.row in
    let rest = into_iter_items c.next.new.self in
    let steps : into_iter_items at.row-iterator ≡ row ∷ rest = c.in-Some.ensures.steps.0 in
    let short = ap length steps in
    let known : drop at.at c.args.numbers.now ≡ place at.left row ∷ places (added at.left row) rest = at.invariant.numbers ∙ ap (places at.left) steps in
    let here = number_here c.args.numbers.now at.at (place at.left row) (places (added at.left row) rest) known in
    record {
      whole = rw c.in_ok-add_first.ensures (sym (ap (gathered at.left) steps) ∙ at.invariant.whole);
      numbers = rw c.in_ok-add_first.ensures here.2;
      within = omega (arith, at.invariant.within, short);
      counted = omega (arith, c.in-Some.ensures.steps.1, at.invariant.counted, short);
    }

pub returns : goal.returns
returns c =
    let at = c.loop-row in
    let none : into_iter_items at.row-iterator ≡ [] = no_items _ (sym at.invariant.counted ∙ c.in-None.ensures.steps.0) in
    sym (ap (gathered at.left) none) ∙ at.invariant.whole

pub add_first-requires : goal.add_first-requires
add_first-requires c =
    let at = c.loop-row in
    let row = c.in-Some.row in
    let rest = into_iter_items c.next.new.self in
    let steps : into_iter_items at.row-iterator ≡ row ∷ rest = c.in-Some.ensures.steps.0 in
    let known : drop at.at c.args.numbers.now ≡ place at.left row ∷ places (added at.left row) rest = at.invariant.numbers ∙ ap (places at.left) steps in
    (number_here c.args.numbers.now at.at (place at.left row) (places (added at.left row) rest) known).1
