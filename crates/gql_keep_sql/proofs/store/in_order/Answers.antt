-- The keys of sorted records ascend where they differ.
use Rattle.std.proofs.Common.{◌≡◌, Some, None, rules}
use Rattle.gql_keep_sql.proofs.DifferLemmas.{listed_differ, sorted_differ, sorted_repeat}
use Rattle.gql_keep_sql.proofs.store.in_order.Goals as goal

pub returns-in-Some-clause-succeeds : goal.returns-in-Some-clause-succeeds
returns-in-Some-clause-succeeds c =
    let some : c.in_ok-keys.field-0 ≡ Some c.in-Some.keys = search rules in
    listed_differ c.args.records.items _ _ (rw c.as_slice.ensures.value at c.in_ok-keys.ensures) some

pub returns-in-Some-2-clause-succeeds : goal.returns-in-Some-2-clause-succeeds
returns-in-Some-2-clause-succeeds c =
    let some : c.in_ok-keys-2.field-0 ≡ Some c.in-Some-2.keys = search rules in
    sorted_differ _ _ c.sort.ensures.same c.sort.ensures.ordered _ (rw c.as_slice-2.ensures.value at c.in_ok-keys-2.ensures) _ some

pub returns-in-None-clause-succeeds : goal.returns-in-None-clause-succeeds
returns-in-None-clause-succeeds c failed =
    let none : c.in_ok-keys-2.field-0 ≡ None = search rules in
    sorted_repeat _ _ c.sort.ensures.same c.sort.ensures.ordered _ (rw c.as_slice-2.ensures.value at c.in_ok-keys-2.ensures) none
