-- The puts and then the drops ran in one transaction, which is committed as a whole.
use Rattle.std.proofs.Common.{◌≡◌, refl, sym, subst, arith, rules}
use Rattle.sqlite.specs.State.{HasCleanDisk}
use Rattle.sqlite.specs.Held.{state}
use Rattle.sqlite.specs.Steps.{FailsToCommit}
use Rattle.gql_keep_sql.specs.Transaction.{Rewrote}
use Rattle.gql_keep_sql.proofs.RefusalLemmas.{fails_as}
use Rattle.gql_keep_sql.proofs.TransactionLemmas.{rewrote, rewrites_or_not, put_refused, drop_refused, commit_refused}
use Rattle.gql_keep_sql.proofs.transaction.write.Goals as goal

pub returns-clause-all : goal.returns-clause-all
returns-clause-all g c clean =
    let old = c.args.conn.now in
    let end = c.commit.new.self.0 in
    let late : HasCleanDisk (state g.S.Store end) = search rules in
    let made = rewrote g.S.Store c.args.puts.now c.args.drops.now old _ _ c.write_all-2.new.transaction.conn.now c.transaction-transaction.ensures.begun
    (record { ran = c.in_ok-write_all.ensures.ran; survives = c.write_all.ensures.survives }) (record { ran = c.in_ok-write_all-2.ensures.ran; survives = c.write_all-2.ensures.survives })
    (omega (arith, c.commit.ensures.survives.clean)) in
    let same : end ≡ c.conn-2-1.given.0 = search rules in
    subst (λ h. Rewrote g.S.Store c.args.puts.now c.args.drops.now old (state g.S.Store h).committed) same
    (subst (Rewrote g.S.Store c.args.puts.now c.args.drops.now old) (sym (c.in_ok-commit.ensures.ok late).1.committed_is) made)

pub returns-clause-crash : goal.returns-clause-crash
returns-clause-crash g c =
    let told = rewrites_or_not g.S.Store c.args.puts.now c.args.drops.now c.args.conn.now _ _ c.write_all-2.new.transaction.conn.now c.transaction-transaction.ensures.begun
    (record { ran = c.in_ok-write_all.ensures.ran; survives = c.write_all.ensures.survives }) (record { ran = c.in_ok-write_all-2.ensures.ran; survives = c.write_all-2.ensures.survives })
    c.commit.new.self.0 c.commit.ensures.survives in
    search rules

pub returns-in_err-commit-clause-crash : goal.returns-in_err-commit-clause-crash
returns-in_err-commit-clause-crash g c =
    let told = rewrites_or_not g.S.Store c.args.puts.now c.args.drops.now c.args.conn.now _ _ c.write_all-2.new.transaction.conn.now c.transaction-transaction.ensures.begun
    (record { ran = c.in_ok-write_all.ensures.ran; survives = c.write_all.ensures.survives }) (record { ran = c.in_ok-write_all-2.ensures.ran; survives = c.write_all-2.ensures.survives })
    c.commit.new.self.0 c.commit.ensures.survives in
    search rules

pub returns-in_err-write_all-clause-refused : goal.returns-in_err-write_all-clause-refused
returns-in_err-write_all-clause-refused g c =
    let begun = c.transaction-transaction.ensures.begun in
    fails_as _ c.in_err-write_all.field-0.0 _ (search rules)
    (λ other clean.
    let end : HasCleanDisk (state g.S.Store c.drop-transaction.new.self.0) = search rules in
    put_refused g.S.Store c.args.puts.now c.args.drops.now c.args.conn.now _ begun _ (c.in_err-write_all.ensures.refused (omega (arith, end, c.drop-transaction.ensures.survives.clean)) (rw begun refl)) c.conn-1.given.0 clean)

pub returns-in_err-write_all-2-clause-refused : goal.returns-in_err-write_all-2-clause-refused
returns-in_err-write_all-2-clause-refused g c =
    let begun = c.transaction-transaction.ensures.begun in
    fails_as _ c.in_err-write_all-2.field-0.0 _ (search rules)
    (λ other clean.
    let end : HasCleanDisk (state g.S.Store c.drop-transaction-in_err-write_all-2.new.self.0) = search rules in
    let last : HasCleanDisk (state g.S.Store c.write_all-2.new.transaction.conn.now) = omega (arith, end, c.drop-transaction-in_err-write_all-2.ensures.survives.clean) in
    let put = c.in_ok-write_all.ensures.ran (omega (arith, last, c.write_all-2.ensures.survives.clean)) (rw begun refl) in
    drop_refused g.S.Store c.args.puts.now c.args.drops.now c.args.conn.now _ begun _ c.write_all.new.transaction.conn.now put.0 (c.in_err-write_all-2.ensures.refused last put.1) c.conn-in_err-write_all-2-1.given.0 clean)

pub returns-in_err-commit-clause-refused : goal.returns-in_err-commit-clause-refused
returns-in_err-commit-clause-refused g c =
    let begun = c.transaction-transaction.ensures.begun in
    fails_as _ c.in_err-commit.field-0.0 _ (search rules)
    (λ other clean.
    let end : HasCleanDisk (state g.S.Store c.commit.new.self.0) = search rules in
    let last : HasCleanDisk (state g.S.Store c.write_all-2.new.transaction.conn.now) = omega (arith, end, c.commit.ensures.survives.clean) in
    let put = c.in_ok-write_all.ensures.ran (omega (arith, last, c.write_all-2.ensures.survives.clean)) (rw begun refl) in
    let dropped = c.in_ok-write_all-2.ensures.ran last put.1 in
    let same : c.commit.new.self.0 ≡ c.conn-2-1.given.0 = search rules in
    commit_refused g.S.Store c.args.puts.now c.args.drops.now c.args.conn.now _ begun _ c.write_all.new.transaction.conn.now c.write_all-2.new.transaction.conn.now c.conn-2-1.given.0 put.0 dropped.0
    (subst (λ h. FailsToCommit (state g.S.Store c.write_all-2.new.transaction.conn.now) (state g.S.Store h) c.in_err-commit.field-0.0) same (c.in_err-commit.ensures.err end)) clean)
