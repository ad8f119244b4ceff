use Rattle.std.proofs.Common.{refl}
use Rattle.std.specs.HashMap.{get_by_text}
use Rattle.gql_eval.proofs.NotingLemmas.{placed_on}
use Rattle.gql_eval.proofs.heading.Heading.with.Goals as goal

pub invariant_of-result : goal.invariant_of-result
invariant_of-result c =
    let notes = rw c.len.ensures at c.in_ok-places.ensures in
    rw (c.in_ok-push.ensures.ok, c.in_ok-try_copy.ensures)
    (placed_on (get_by_text c.self.inside.places) (get_by_text c.in_ok-places.places) c.self.inside.columns c.args.name.now c.args.kind c.self.invariant notes)

pub returns : goal.returns
returns c = rw (c.in_ok-push.ensures.ok, c.in_ok-try_copy.ensures, c.self.view_is) refl
