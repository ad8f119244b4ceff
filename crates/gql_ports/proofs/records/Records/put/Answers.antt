-- Where the key is, its record is written over; else the record goes into the gap for it.
use Rattle.gql_ports.proofs.RecordLemmas.{ascend-set, ascend-insert, value_at-set, value_at-insert, no_key_before_at, no_key_before_gap}
use Rattle.gql_ports.proofs.records.Records.put.Goals as goal

pub invariant_of-self : goal.invariant_of-self
invariant_of-self c =
    let at = rw (c.as_slice.ensures.value, c.as_slice-2.ensures) at c.in-Ok.ensures.found in
    ascend-set c.self.inside.items.items c.in-Ok.place c.args.record at.has_key c.self.invariant

pub invariant_of-self-in-Err : goal.invariant_of-self-in-Err
invariant_of-self-in-Err c =
    let gap = rw (c.as_slice.ensures.value, c.as_slice-2.ensures) at c.in-Err.ensures.absent in
    rw c.in_ok-insert-in-Err.ensures.items (ascend-insert c.self.inside.items.items c.in-Err.place c.args.record c.self.invariant gap)

pub returns-in-Ok-clause-ok : goal.returns-in-Ok-clause-ok
returns-in-Ok-clause-ok c =
    let at = rw (c.as_slice.ensures.value, c.as_slice-2.ensures) at c.in-Ok.ensures.found in
    let none_before = no_key_before_at c.self.inside.items.items c.self.invariant c.args.record.key c.in-Ok.place at in
    rw (← c.self.view_is) (value_at-set c.self.inside.items.items c.in-Ok.place c.args.record at.in_range at.has_key none_before)

pub returns-in_ok-insert-in-Err-clause-ok : goal.returns-in_ok-insert-in-Err-clause-ok
returns-in_ok-insert-in-Err-clause-ok c =
    let gap = rw (c.as_slice.ensures.value, c.as_slice-2.ensures) at c.in-Err.ensures.absent in
    let none_before = no_key_before_gap c.self.inside.items.items c.args.record.key c.in-Err.place gap in
    rw (c.in_ok-insert-in-Err.ensures.items, ← c.self.view_is) (value_at-insert c.self.inside.items.items c.in-Err.place c.args.record none_before)
