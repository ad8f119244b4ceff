use Rattle.std.proofs.Common.{sym, arith}
use Rattle.gql_graph.proofs.EditLemmas.{place_at_most, in_there}
use Rattle.gql_graph.proofs.numbered.put_numbered.Goals as goal

pub insert-inserted-requires : goal.insert-inserted-requires
insert-inserted-requires g c = rw (c.number_place-at.ensures, c.as_slice.ensures.value, c.number.ensures) (omega (arith, place_at_most g.T.Numbered.number_of (g.T.Numbered.number_of c.args.item) c.args.items.now.items, c.args.items.now.ok.0))

-- there is room, so the insertion succeeds
pub returns-clause-items : goal.returns-clause-items
returns-clause-items g c =
    let done = c.insert-inserted.ensures.succeeds c.requires.room in
    rw (c.insert-inserted.ensures.items, done, c.number_place-at.ensures, c.as_slice.ensures.value, c.number.ensures) (sym (in_there g.T.Numbered.number_of c.args.item c.args.items.now.items c.requires.absent))
