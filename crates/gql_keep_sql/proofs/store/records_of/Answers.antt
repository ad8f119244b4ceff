use Rattle.std.proofs.Common.{subst, arith}
use Rattle.std.proofs.lemmas.List.{take_all}
use Rattle.std.specs.List.{AllZip}
use Rattle.gql_keep_sql.specs.Fetched.{HasRecord}
use Rattle.gql_keep_sql.proofs.PairLemmas.{pair_next}
use Rattle.gql_keep_sql.proofs.RunLemmas.{rows_of_records}
use Rattle.gql_keep_sql.proofs.store.records_of.Goals as goal

pub loop-row-preserved : goal.loop-row-preserved
loop-row-preserved c =
    rw c.in_ok-push.ensures.items (pair_next HasRecord c.args.rows.now c.loop-row.records.items c.loop-row.row-index c.row-item.result c.in_ok-record_of.field-0 c.loop-row-test.true c.row-item.is c.loop-row.invariant c.in_ok-record_of.ensures.read)

pub returns-clause-succeeds : goal.returns-clause-succeeds
returns-clause-succeeds c =
    let all = take_all c.loop-row.row-index c.args.rows.now (omega (arith, c.loop-row-test.false)) in
    rows_of_records _ _ (subst (λ rows. AllZip HasRecord rows c.loop-row.records.items) all c.loop-row.invariant)
