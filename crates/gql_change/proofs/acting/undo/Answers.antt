use Rattle.std.proofs.Common.{◌∷◌, reverse, rules}
use Rattle.gql_change.proofs.ApplyLemmas.{next_acts, next_fits, went_on, same_ahead, reverse-push}
use Rattle.gql_change.proofs.acting.undo.Goals as goal

pub make_only-requires : goal.make_only-requires
make_only-requires g c =
    let ahead = same_ahead (c.in-Some.inverse ∷ reverse c.pop.new.self.items) (reverse-push c.pop.new.self.items c.loop-inverse.inverses.items c.in-Some.inverse c.in-Some.ensures.items) c.loop-inverse.invariant.ahead in
    (search rules, (next_acts ahead, next_fits ahead))

pub loop-inverse-preserved : goal.loop-inverse-preserved
loop-inverse-preserved g c =
    let at = c.loop-inverse in
    let ahead = same_ahead (c.in-Some.inverse ∷ reverse c.pop.new.self.items) (reverse-push c.pop.new.self.items at.inverses.items c.in-Some.inverse c.in-Some.ensures.items) at.invariant.ahead in
    record {
      ahead = went_on (g.G.Edit.has_room at.graph) (g.G.Edit.has_room c.make_only.new.graph) (g.G.View.graph at.graph) (g.G.View.graph c.make_only.new.graph) _
          c.in-Some.inverse (reverse c.pop.new.self.items) ahead c.make_only.ensures.graph c.make_only.ensures.kept;
      kept = λ h k. c.make_only.ensures.kept h (at.invariant.kept h k);
    }
