use Rattle.std.proofs.Common.{rules}
use Rattle.std.proofs.lemmas.List.Sorted.{answers_always}
use Rattle.gql_graph.proofs.NumberLemmas.{ascends}
use Rattle.gql_graph.proofs.SearchLemmas.{place_found, place_missed}
use Rattle.gql_graph.proofs.numbered.number_place.Goals as goal

-- the search is by the number
pub returns-in-Ok : goal.returns-in-Ok
returns-in-Ok g c =
    let by_number = c.in-Ok.ensures.position g.T.Numbered.number_of (answers_always _ _ _ (λ f a r k called. search rules)) in
    place_found g.T.Numbered.number_of c.args.number c.args.items.now (ascends g.T.Numbered.number_of c.args.items.now 0 c.requires.0 c.requires.1) c.in-Ok.at c.in-Ok.ensures.bound by_number

pub returns-in-Err : goal.returns-in-Err
returns-in-Err g c =
    let by_number = c.in-Err.ensures.position g.T.Numbered.number_of (answers_always _ _ _ (λ f a r k called. search rules)) in
    place_missed g.T.Numbered.number_of c.args.number c.args.items.now (ascends g.T.Numbered.number_of c.args.items.now 0 c.requires.0 c.requires.1) c.in-Err.at c.in-Err.ensures.bound by_number
