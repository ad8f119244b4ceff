use Rattle.std.proofs.Common.{◌≡◌, [], ◌∷◌, ◌++◌, not, false, true, sym, ap, ◌∙◌}
use Rattle.std.specs.Prelude.{filter}
use Rattle.gql_ports.specs.declared.stored.Record.{Record}
use Rattle.gql_txn.specs.Machinery.Changes.{has_record}
use Rattle.gql_txn.proofs.ChangeLemmas.{passes_more, fails_more, ends_more}
use Rattle.gql_txn.proofs.changes.puts_of.Goals as goal
use Rattle.gql_txn.proofs.changes.puts_of.Goals.{in-Some+then-not-has_record+in_ok-try_copy+in_ok-push, in-Some+else-not-has_record, in_default}

pub loop-place-preserved : goal.loop-place-preserved
loop-place-preserved c =
    let before = c.args.before.now in
    let after = c.args.after.now in
    let place = c.loop-place.place in
    let is_new = λ (r : Record). not (has_record before r) in
    elim c.match-get.branch [
      | in-Some+then-not-has_record+in_ok-try_copy+in_ok-push w ↦
          let found = w.in-Some.found.now in
          let passes : is_new found ≡ true = ap not (sym w.if-not-has_record.ensures) in
          ap (λ v. v.items) w.puts-is ∙ w.in_ok-push.ensures.items ∙ (λ i. c.loop-place.invariant i ++ w.in_ok-try_copy.ensures i ∷ []) ∙ sym (passes_more is_new after place found (sym w.in-Some.ensures) passes)
      | in-Some+else-not-has_record w ↦
          let found = w.in-Some.found.now in
          let fails : is_new found ≡ false = ap not (sym w.if-not-has_record.ensures) in
          ap (λ v. v.items) w.puts-is ∙ c.loop-place.invariant ∙ sym (fails_more is_new after place found (sym w.in-Some.ensures) fails)
      | in_default w ↦
          ap (λ v. v.items) w.puts-is ∙ c.loop-place.invariant ∙ sym (ap (filter is_new) (ends_more after place (sym w.in_default.ensures)))
    ]
