use Rattle.std.proofs.Common.{◌≡◌, List, [], ◌∷◌, ◌++◌, not, false, true, take, sym, ap, ◌∙◌}
use Rattle.std.specs.Prelude.{filter}
use Rattle.std.proofs.lemmas.List.{map-append}
use Rattle.gql_ports.specs.declared.stored.Record.{Record}
use Rattle.gql_txn.specs.Machinery.Changes.{has_key}
use Rattle.gql_txn.proofs.ChangeLemmas.{keys, passes_more, fails_more, ends_more}
use Rattle.gql_txn.proofs.changes.drops_of.Goals as goal
use Rattle.gql_txn.proofs.changes.drops_of.Goals.{in-Some+then-not-has_key+in_ok-try_copy+in_ok-push, in-Some+else-not-has_key, in_default}

pub loop-place-preserved : goal.loop-place-preserved
loop-place-preserved c =
    let before = c.args.before.now in
    let after = c.args.after.now in
    let place = c.loop-place.place in
    let is_gone = λ (r : Record). not (has_key after r) in
    elim c.match-get.branch [
      | in-Some+then-not-has_key+in_ok-try_copy+in_ok-push w ↦
          let found = w.in-Some.found.now in
          let passes : is_gone found ≡ true = ap not (sym w.if-not-has_key.ensures) in
          ap (λ v. v.items) w.drops-is ∙ w.in_ok-push.ensures.items ∙ (λ i. c.loop-place.invariant i ++ w.in_ok-try_copy.ensures i ∷ []) ∙ sym (ap keys (passes_more is_gone before place found (sym w.in-Some.ensures) passes) ∙ map-append (λ (r : Record). r.key) (filter is_gone (take place before)) (found ∷ []))
      | in-Some+else-not-has_key w ↦
          let found = w.in-Some.found.now in
          let fails : is_gone found ≡ false = ap not (sym w.if-not-has_key.ensures) in
          ap (λ v. v.items) w.drops-is ∙ c.loop-place.invariant ∙ sym (ap keys (fails_more is_gone before place found (sym w.in-Some.ensures) fails))
      | in_default w ↦
          ap (λ v. v.items) w.drops-is ∙ c.loop-place.invariant ∙ sym (ap (λ (rs : List Record). keys (filter is_gone rs)) (ends_more before place (sym w.in_default.ensures)))
    ]
