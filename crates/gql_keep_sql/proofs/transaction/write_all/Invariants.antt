use Rattle.std.proofs.Common.{◌≡◌, map, take, IsTrue}
use Rattle.sqlite.specs.State.{HasCleanDisk, KeepsCommit, Survives}
use Rattle.sqlite.specs.Held.{state}
use Rattle.gql_keep_sql.specs.Transaction.{Ran}
use Rattle.gql_keep_sql.proofs.transaction.write_all.Given as goal

-- the statements so far ran in turn, and nothing was committed
abbrev pub invariant-loop-item : goal.invariant-loop-item
invariant-loop-item g l =
    let old = l.initial.transaction.conn.now in
    let new = l.transaction.conn.now in record {
      same_reference : l.transaction.conn.ghost_name ≡ l.initial.transaction.conn.ghost_name;
      ran : HasCleanDisk (state g.S.Store new) → IsTrue (state g.S.Store old).in_transaction → Ran g.S.Store (map g.W.Written.step (take l.item-index l.items)) old new × IsTrue (state g.S.Store new).in_transaction;
      kept : HasCleanDisk (state g.S.Store new) → IsTrue (state g.S.Store old).in_transaction → KeepsCommit (state g.S.Store old) (state g.S.Store new);
      survives : Survives (state g.S.Store old) (state g.S.Store new) (λ _. ⊥);
    }
