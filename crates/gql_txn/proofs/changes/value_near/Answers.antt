use Rattle.std.proofs.Common.{◌≡◌, Some, sym, ap, ◌∙◌}
use Rattle.gql_values3.proofs.WordLemmas.{same_is}
use Rattle.gql_ports.specs.Held.{value_at}
use Rattle.gql_txn.proofs.ValueLemmas.{value_read}
use Rattle.gql_txn.proofs.changes.value_near.Goals as goal

pub returns-then-eq : goal.returns-then-eq
returns-then-eq c =
    let records = c.args.records.now in
    let there : value_at records c.in-Some.record.now.key ≡ Some c.in-Some.record.now.value = value_read records c.args.near c.in-Some.record.now c.len-count.ensures.ascending (sym c.in-Some.ensures) in
    let key : c.as_slice.result.now ≡ c.args.key.now = same_is c.as_slice.result.now c.args.key.now (sym c.eq.ensures ∙ c.if-eq.true) in
    ap Some c.as_slice-then-eq.ensures ∙ sym there ∙ ap (value_at records) (sym c.as_slice.ensures ∙ key)
