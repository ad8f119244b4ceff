use Rattle.std.proofs.Common.{ℕ, List, Option, ap, ◌∙◌}
use Rattle.gql_values3.specs.Texts.{same_text}
use Rattle.gql_ports.specs.Held.{value_at}
use Rattle.gql_txn.specs.Machinery.Changes.{is_value}
use Rattle.gql_txn.proofs.changes.has_record.Goals as goal

pub returns-in-Some : goal.returns-in-Some
returns-in-Some c =
    let found = c.args.found.now in
    let there = c.in-Some.ensures ∙ ap (value_at c.args.records.now) c.as_slice.ensures in
    c.eq.ensures ∙ ap (λ (v : List ℕ). same_text v c.in-Some.value.now) c.as_slice-in-Some.ensures ∙ ap (λ (o : Option (List ℕ)). is_value found.value o) there
