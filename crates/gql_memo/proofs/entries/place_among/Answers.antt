use Rattle.std.proofs.Common.{refl, sym, ◌∙◌}
use Rattle.gql_runs.specs.Kept.{keep, same_keep}
use Rattle.gql_memo.specs.Machinery.TableParts.{entry_keep, keeps_in}
use Rattle.gql_memo.specs.declared.entries.Entry.{Entry}
use Rattle.gql_memo.proofs.KeyLemmas.{found, not_found}
use Rattle.gql_memo.proofs.TableLemmas.{length_keeps}
use Rattle.gql_memo.proofs.entries.place_among.Goals as goal

pub returns-in-Some : goal.returns-in-Some
returns-in-Some c =
    let k = keep c.args.name.now c.args.crossed.now in
    found entry_keep k (λ (e : Entry). same_keep k (entry_keep e)) (λ e. refl) c.args.entries.now (keeps_in c.args.entries.now) c.in-Some.place refl (sym c.first_of.ensures ∙ c.in-Some.is)

pub returns-in-None : goal.returns-in-None
returns-in-None c =
    let k = keep c.args.name.now c.args.crossed.now in
    not_found entry_keep k (λ (e : Entry). same_keep k (entry_keep e)) (λ e. refl) c.args.entries.now (keeps_in c.args.entries.now) _ refl (sym (length_keeps c.args.entries.now)) (sym c.first_of.ensures ∙ c.in-None.is)
