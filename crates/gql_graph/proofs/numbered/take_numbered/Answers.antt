use Rattle.std.proofs.Common.{sym, arith}
use Rattle.gql_graph.proofs.EditLemmas.{place_within, found_there, out_there}
use Rattle.gql_graph.proofs.numbered.take_numbered.Goals as goal

pub remove-requires : goal.remove-requires
remove-requires g c = rw (c.number_place-at.ensures, c.as_slice.ensures.value) (omega (arith, place_within g.T.Numbered.number_of c.args.number c.args.items.now.items 0 c.requires.ascending.0 c.requires.ascending.1 c.requires.there, c.args.items.now.ok.0))

pub returns-clause-items : goal.returns-clause-items
returns-clause-items g c = rw (c.remove.ensures.items, c.number_place-at.ensures, c.as_slice.ensures.value) (sym (out_there g.T.Numbered.number_of c.args.number c.args.items.now.items 0 c.requires.ascending.0 c.requires.ascending.1 c.requires.there))

pub returns-clause-taken : goal.returns-clause-taken
returns-clause-taken g c =
    found_there g.T.Numbered.number_of c.args.number c.args.items.now.items 0 c.requires.ascending.0 c.remove.result c.requires.ascending.1 c.requires.there (rw (c.number_place-at.ensures, c.as_slice.ensures.value) at c.remove.ensures.value)
