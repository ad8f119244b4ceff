use Rattle.gql_graph.proofs.NamedLemmas.{put_there}
use Rattle.gql_graph.proofs.named.put_named.Goals as goal

pub returns-clause-ok : goal.returns-clause-ok
returns-clause-ok g c =
    let xs = c.args.items.now.items in
    let place = rw c.as_str.ensures at (rw c.as_slice.ensures.value at c.place_for-place.ensures.place) in
    rw (c.in_ok-insert.ensures.items, place) (put_there c.args.name c.args.item xs)
