use Rattle.std.proofs.Common.{◌≡◌, List, codes}
use Rattle.std.specs.List.{AllZip}
use Rattle.sqlite.specs.declared.types.Value.{Value}
use Rattle.sqlite.specs.State.{HasCleanDisk}
use Rattle.sqlite.specs.Held.{state}
use Rattle.gql_keep_sql.specs.Fetched.{HasRecord}
use Rattle.gql_keep_sql.specs.Rests.{Rests}
use Rattle.gql_keep_sql.proofs.ScanLemmas.{HasRead}
use Rattle.gql_keep_sql.proofs.store.select_all.Given as goal

-- the records so far are those of the rows that were given so far
abbrev pub invariant-rows : goal.invariant-rows
invariant-rows g l =
    let old = l.fn.conn in
    let now = l.rows.conn.now in record {
      same_reference : l.rows.conn.ghost_name ≡ l.initial.rows.conn.ghost_name;
      rests : Rests old now;
      read : (rows : List (List Value)) × AllZip HasRecord rows l.records.items × (HasCleanDisk (state g.S.Store now) → HasRead g.S.Store (codes "SELECT key, value FROM record") old now rows);
    }
