-- Rows that are not all of records are the answer, where they are refused.
use Rattle.std.proofs.Common.{◌≡◌, false, inr, subst}
use Rattle.std.specs.List.{list_all}
use Rattle.gql_keep_sql.specs.Fetched.{is_record}
use Rattle.gql_keep_sql.proofs.ReadLemmas.{run_only_read}
use Rattle.gql_keep_sql.proofs.RefusalLemmas.{fails_by_test}
use Rattle.gql_keep_sql.proofs.store.select.Goals as goal

pub returns-clause-refused : goal.returns-clause-refused
returns-clause-refused g c =
    fails_by_test c.records_of.result _ _ c.records_of.ensures.succeeds
    (λ not_all e clean. inr (c.in_ok-rows.rows.items, c.in_ok-rows.ensures.answered clean, subst (λ rows. list_all is_record rows ≡ false) c.as_slice.ensures.value not_all))

pub returns-in_err-rows-clause-only_read : goal.returns-in_err-rows-clause-only_read
returns-in_err-rows-clause-only_read g c =
    let asked = c.select_rows.ensures in
    run_only_read g.S.Store c.args.from.now c.args.conn.now c.select_rows.new.conn c.select_rows.result (λ rows. rows.items) asked.rests asked.crash asked.answered asked.refused

pub returns-clause-only_read : goal.returns-clause-only_read
returns-clause-only_read g c =
    let asked = c.select_rows.ensures in
    run_only_read g.S.Store c.args.from.now c.args.conn.now c.select_rows.new.conn c.select_rows.result (λ rows. rows.items) asked.rests asked.crash asked.answered asked.refused
