use Rattle.std.proofs.Common.{◌≡◌, ◌∙◌, slice_get, Ok, Err, sym, rules}
use Rattle.std.specs.Option.{option_copied}
use Rattle.std.proofs.lemmas.List.Sorted.{answers_always}
use Rattle.gql_graph.proofs.SearchLemmas.{searched, got_there}
use Rattle.gql_graph.proofs.numbered.find_numbered.Goals as goal

-- the search is by the number, and ends at the item or finds none
pub returns-in-Ok : goal.returns-in-Ok
returns-in-Ok g c =
    let got : option_copied c.get.result ≡ slice_get c.args.items.now c.in-Ok.at = got_there c.args.items.now c.in-Ok.at c.get.result c.get.ensures.lookup in
    let by_number = c.in-Ok.ensures.position g.T.Numbered.number_of (answers_always _ _ _ (λ f a r k called. search rules)) in
    let found = searched g.T.Numbered.number_of c.args.number c.args.items.now c.requires (Ok c.in-Ok.at) c.in-Ok.ensures.bound by_number in
    got ∙ sym found

pub returns-in-Err : goal.returns-in-Err
returns-in-Err g c =
    let by_number = c.in-Err.ensures.position g.T.Numbered.number_of (answers_always _ _ _ (λ f a r k called. search rules)) in
    sym (searched g.T.Numbered.number_of c.args.number c.args.items.now c.requires (Err c.in-Err.field-0) c.in-Err.ensures.bound by_number)
