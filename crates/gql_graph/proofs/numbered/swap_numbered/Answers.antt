use Rattle.std.proofs.Common.{sym, arith}
use Rattle.gql_graph.proofs.EditLemmas.{place_within, found_there, over_there}
use Rattle.gql_graph.proofs.numbered.swap_numbered.Goals as goal

pub index_mut-requires : goal.index_mut-requires
index_mut-requires g c = rw (c.number_place-at.ensures, c.as_slice.ensures.value, c.number.ensures) (omega (arith, place_within g.T.Numbered.number_of (g.T.Numbered.number_of c.args.item) c.args.items.now.items 0 c.requires.ascending.0 c.requires.ascending.1 c.requires.there, c.args.items.now.ok.0))

pub returns-clause-items : goal.returns-clause-items
returns-clause-items g c = rw (c.replace.ensures.after, c.number_place-at.ensures, c.as_slice.ensures.value, c.number.ensures) (sym (over_there g.T.Numbered.number_of c.args.item c.args.items.now.items 0 c.requires.ascending.0 c.requires.ascending.1 c.requires.there))

pub returns-clause-taken : goal.returns-clause-taken
returns-clause-taken g c =
    found_there g.T.Numbered.number_of (g.T.Numbered.number_of c.args.item) c.args.items.now.items 0 c.requires.ascending.0 c.replace.result c.requires.ascending.1 c.requires.there (rw (← c.replace.ensures.value, c.number_place-at.ensures, c.as_slice.ensures.value, c.number.ensures) at c.index_mut.ensures.value)
