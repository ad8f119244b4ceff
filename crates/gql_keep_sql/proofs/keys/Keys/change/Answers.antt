-- The keys move to the room in the order of the definition, which keeps them ascending.
use Rattle.gql_keep_sql.proofs.MergeLemmas.{merged_ascends, merged_stands}
use Rattle.gql_keep_sql.proofs.keys.Keys.change.Goals as goal

pub invariant_of-self : goal.invariant_of-self
invariant_of-self c =
    rw (c.merge.ensures, c.replace-old.ensures.value) (merged_ascends c.self.inside.items.items c.into_vec.result.items c.self.invariant c.into_vec.ensures.ascending)

pub returns : goal.returns
returns c key =
    rw (c.merge.ensures, c.replace-old.ensures.value, ← c.into_vec.ensures.items, ← c.self.view_is)
    (merged_stands c.into_vec.result.items c.self.inside.items.items key c.into_vec.ensures.ascending c.self.invariant)
