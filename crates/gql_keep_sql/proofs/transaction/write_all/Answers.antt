-- One statement more, after those that ran before.
use Rattle.std.proofs.Common.{◌∙◌, subst, sym, map, arith, rules}
use Rattle.sqlite.specs.Held.{state}
use Rattle.sqlite.proofs.StateLemmas.{survives_then}
use Rattle.gql_keep_sql.specs.Transaction.{Ran, Refuses}
use Rattle.gql_keep_sql.proofs.RefusalLemmas.{errs_as}
use Rattle.gql_keep_sql.proofs.TransactionLemmas.{ran_then, ran_one, keeps_then, inside_keeps, map_more, refuses_at}
use Rattle.gql_keep_sql.proofs.transaction.write_all.Goals as goal

pub loop-item-preserved : goal.loop-item-preserved
loop-item-preserved g c =
    let old = c.args.transaction.now.conn.now in
    let mid = c.loop-item.transaction.conn.now in
    let new = c.write.new.transaction.conn.now in
    let before = c.loop-item.invariant in
    let steps = map_more g.W.Written.step c.args.items.now c.loop-item.item-index c.item-item.result c.loop-item-test.true c.item-item.is in record {
      same_reference = c.write.ensures.same_reference ∙ before.same_reference;
      ran = λ clean inside.
          let so_far = before.ran (omega (arith, c.write.ensures.survives.clean)) inside in
          let it = c.in_ok-write.ensures.runs clean so_far.1 in
          (subst (λ xs. Ran g.S.Store xs old new) (sym steps) (ran_then g.S.Store _ _ old mid new so_far.0 (ran_one g.S.Store (g.W.Written.step c.item-item.result) mid new c.in_ok-write.field-0 it.0)), it.1.mode);
      kept = λ clean inside.
          let so_far = before.ran (omega (arith, c.write.ensures.survives.clean)) inside in
          keeps_then (state g.S.Store old) (state g.S.Store mid) (state g.S.Store new) (before.kept (omega (arith, c.write.ensures.survives.clean)) inside) (inside_keeps _ _ _ _ _ (c.write.ensures.runs clean so_far.1));
      survives = survives_then (state g.S.Store old) (state g.S.Store mid) (state g.S.Store new) _ _ (λ _. ⊥) (λ _ db none. none) (λ _ db none. none) before.survives c.write.ensures.survives;
    }

pub returns-in_err-write-clause-refused : goal.returns-in_err-write-clause-refused
returns-in_err-write-clause-refused g c clean inside =
    let so_far = c.loop-item.invariant.ran (omega (arith, c.write.ensures.survives.clean)) inside in
    errs_as _ c.in_err-write.field-0.0 (Refuses g.S.Store (map g.W.Written.step c.args.items.now) c.args.transaction.now.conn.now) (search rules)
    (refuses_at g.S.Store g.W.Written.step _ _ c.item-item.result _ c.loop-item.transaction.conn.now c.write.new.transaction.conn.now _ c.loop-item-test.true c.item-item.is so_far.0 (c.in_err-write.ensures.runs clean so_far.1))
