use Rattle.std.proofs.Common.{◌≡◌, ◌∷◌, length, reverse, arith, rules, sym, ap, ◌∙◌}
use Rattle.std.specs.Vec.Iter.{into_iter_items}
use Rattle.gql_change.proofs.ApplyLemmas.{next_fits, went_on, went_back, at_start, nothing_back, same_ahead, reverse-push}
use Rattle.gql_change.proofs.acting.apply.Goals as goal

pub loop-change-init : goal.loop-change-init
loop-change-init g c =
    let room = g.G.Edit.has_room c.args.graph.now in
    let graph = g.G.View.graph c.args.graph.now in
    let rest : into_iter_items c.into_iter-change-iterator.result ≡ c.args.list = search rules in
    record {
      ahead = at_start room graph c.args.list (into_iter_items c.into_iter-change-iterator.result) rest c.requires.acts c.requires.room;
      back = nothing_back room graph c.args.list _ c.into_parts-changes.ensures.empty c.requires.room;
      kept = λ h k. k;
      counted = search rules;
      places = omega (arith, ap length rest, ap length c.into_parts-changes.ensures.empty, c.into_parts-changes.result.1.ok.0, c.into_parts-changes.ensures.room);
    }

pub make-inverse-requires-clause-room : goal.make-inverse-requires-clause-room
make-inverse-requires-clause-room g c =
    next_fits (same_ahead (c.in-Some.change ∷ into_iter_items c.next.new.self) c.in-Some.ensures.steps.0 c.loop-change.invariant.ahead)

pub loop-change-preserved : goal.loop-change-preserved
loop-change-preserved g c =
    let at = c.loop-change in
    let before = g.G.Edit.has_room at.graph in
    let behind = g.G.Edit.has_room c.make-inverse.new.self in
    let here = g.G.View.graph at.graph in
    let there = g.G.View.graph c.make-inverse.new.self in
    let change = c.in-Some.change in
    let rest = into_iter_items c.next.new.self in
    let ahead = same_ahead (change ∷ rest) c.in-Some.ensures.steps.0 at.invariant.ahead in
    record {
      ahead = went_on before behind here there _ change rest ahead c.make-inverse.ensures.graph c.make-inverse.ensures.kept;
      back = same_ahead _ (sym (reverse-push at.inverses.items _ c.make-inverse.result c.push_reserved.ensures.items))
          (went_back before behind here there _ (reverse at.inverses.items) c.make-inverse.result at.invariant.back (ap before c.make-inverse.ensures.graph ∙ next_fits ahead) c.make-inverse.ensures.undoes.0 c.make-inverse.ensures.undoes.1 c.make-inverse.ensures.kept);
      kept = λ h k. c.make-inverse.ensures.kept h (at.invariant.kept h k);
      counted = omega (arith, at.invariant.counted, c.in-Some.ensures.steps.1, ap length c.in-Some.ensures.steps.0);
      places = omega (arith, at.invariant.places, c.push_reserved.ensures.len, c.push_reserved.ensures.capacity, ap length c.in-Some.ensures.steps.0);
    }
