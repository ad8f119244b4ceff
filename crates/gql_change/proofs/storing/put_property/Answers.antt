use Rattle.std.proofs.Common.{ℕ, Result, map, ap, ◌∙◌}
use Rattle.gql_change.specs.Machinery.Places.{put_at}
use Rattle.gql_change.proofs.PlaceLemmas.{shown, put_shown}
use Rattle.gql_change.proofs.storing.put_property.Goals as goal

pub returns-in-Ok : goal.returns-in-Ok
returns-in-Ok c =
    let ps = c.args.properties.now.items in
    let told = rw c.as_slice.ensures.value at c.in-Ok.ensures.place in
    ap (λ (r : Result ℕ ℕ). map shown (put_at r (c.args.name, c.args.value) ps)) told ∙ put_shown c.args.name c.args.value ps

pub returns-in_ok-insert-in-Err : goal.returns-in_ok-insert-in-Err
returns-in_ok-insert-in-Err c =
    let ps = c.args.properties.now.items in
    let told = rw c.as_slice.ensures.value at c.in-Err.ensures.place in
    ap (map shown) c.in_ok-insert-in-Err.ensures.items ∙ ap (λ (r : Result ℕ ℕ). map shown (put_at r (c.args.name, c.args.value) ps)) told ∙ put_shown c.args.name c.args.value ps
