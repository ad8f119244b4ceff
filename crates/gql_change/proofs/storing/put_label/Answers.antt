use Rattle.std.proofs.Common.{ℕ, Result, ap, ◌∙◌}
use Rattle.gql_change.specs.Machinery.Places.{joined_at}
use Rattle.gql_change.proofs.PlaceLemmas.{label_joined}
use Rattle.gql_change.proofs.storing.put_label.Goals as goal

pub returns-in-Ok : goal.returns-in-Ok
returns-in-Ok c =
    let ls = c.args.labels.now.items in
    let told = rw c.as_slice.ensures.value at c.in-Ok.ensures.place in
    ap (λ (r : Result ℕ ℕ). joined_at r c.args.label ls) told ∙ label_joined c.args.label ls

pub returns-in_ok-insert-in-Err : goal.returns-in_ok-insert-in-Err
returns-in_ok-insert-in-Err c =
    let ls = c.args.labels.now.items in
    let told = rw c.as_slice.ensures.value at c.in-Err.ensures.place in
    c.in_ok-insert-in-Err.ensures.items ∙ ap (λ (r : Result ℕ ℕ). joined_at r c.args.label ls) told ∙ label_joined c.args.label ls
