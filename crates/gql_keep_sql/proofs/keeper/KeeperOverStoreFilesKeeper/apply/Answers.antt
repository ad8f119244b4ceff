-- The keys differ, so that it is the writing that failed.
use Rattle.std.proofs.Common.{◌≡◌, ◌∙◌, true, is_ok, Err, ap, subst, sym, rules}
use Rattle.sqlite.specs.Files.{over_files}
use Rattle.gql_keep_sql.specs.Written.{Writes}
use Rattle.gql_keep_sql.proofs.RefusalLemmas.{failed_by, but_differ}
use Rattle.gql_keep_sql.proofs.keeper.KeeperOverStoreFilesKeeper.apply.Goals as goal

pub returns-in_err-changes-clause-refused : goal.returns-in_err-changes-clause-refused
returns-in_err-changes-clause-refused g c failed =
    let told : c.counted.result ≡ Err c.in_err-changes.field-0.0 = search rules in
    let given : c.from_residual.result ≡ Err c.in_err-changes.field-0.0 = search rules in
    let why = failed_by c.write-written.result c.counted.result c.from_residual.result _ c.counted.ensures.same c.counted.ensures.memory (λ is. cc) c.write-written.ensures.refused failed in
    (why.0, why.1, but_differ _ c.requires why.2)

pub returns-clause-writes : goal.returns-clause-writes
returns-clause-writes g c =
    let done : is_ok c.write-written.result ≡ true = sym c.counted.ensures.same ∙ ap is_ok c.in_ok-changes.was in
    subst (λ b. Writes over_files c.args.puts.now c.args.drops.now b c.args.self.now.reader.place c.write-written.new.self.reader.place) done c.write-written.ensures.writes
