use Rattle.std.proofs.Common.{◌≡◌, ◌∙◌, sym, length}
use Rattle.gql_table.specs.Machinery.Places.{place}
use Rattle.gql_table.proofs.PlaceLemmas.{added_new, added_known}
use Rattle.gql_table.proofs.distinct.add_first.Goals as goal

pub returns-in_ok-push : goal.returns-in_ok-push
returns-in_ok-push c =
    let same : place c.args.left.now c.args.row ≡ length c.args.left.now = sym c.requires ∙ c.if-number-len.true ∙ c.len.ensures in
    c.in_ok-push.ensures.ok ∙ sym (added_new c.args.left.now c.args.row same)

pub returns-else-number-len : goal.returns-else-number-len
returns-else-number-len c = sym (added_known c.args.left.now c.args.row (λ p. c.if-number-len.false (c.requires ∙ p ∙ sym c.len.ensures)))
