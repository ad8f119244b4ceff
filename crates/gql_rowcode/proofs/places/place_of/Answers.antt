use Rattle.std.proofs.Common.{rules, Ok, Err}
use Rattle.std.proofs.lemmas.Fn.{always_returns_same}
use Rattle.gql_rowcode.specs.Machinery.KeyOrder.{key_cmp}
use Rattle.gql_rowcode.proofs.PlaceLemmas.{searched}
use Rattle.gql_rowcode.proofs.places.place_of.Goals as goal

-- the closure compares by the order of keys
pub returns-in-Ok : goal.returns-in-Ok
returns-in-Ok g c =
    let by_order = c.in-Ok.ensures.position (λ i. key_cmp i.0 c.args.name.now) (always_returns_same _ _ _ (λ a r g called. (search rules, search rules))) in
    searched c.args.name.now c.args.items.now c.requires (Ok c.in-Ok.place) c.in-Ok.ensures.bound by_order

pub returns-in-Err : goal.returns-in-Err
returns-in-Err g c =
    let by_order = c.in-Err.ensures.position (λ i. key_cmp i.0 c.args.name.now) (always_returns_same _ _ _ (λ a r g called. (search rules, search rules))) in
    searched c.args.name.now c.args.items.now c.requires (Err c.in-Err.field-0) c.in-Err.ensures.bound by_order
