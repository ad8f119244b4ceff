-- Where the key is, its record goes; else it had no value.
use Rattle.gql_ports.proofs.RecordLemmas.{ascend-remove, value_at-remove, no_key_before_at, no_key_after_at, value_at_gap, unchanged_if_absent}
use Rattle.gql_ports.proofs.records.Records.remove.Goals as goal

pub invariant_of-self : goal.invariant_of-self
invariant_of-self c = rw c.remove.ensures.items (ascend-remove c.self.inside.items.items c.in-Ok.place c.self.invariant)

pub returns-in-Ok : goal.returns-in-Ok
returns-in-Ok c =
    let items = c.self.inside.items.items in
    let at = rw c.as_slice.ensures.value at c.in-Ok.ensures.found in
    let none_before = no_key_before_at items c.self.invariant c.args.key.now c.in-Ok.place at in
    let none_after = no_key_after_at items c.self.invariant c.args.key.now c.in-Ok.place at in
    rw (c.remove.ensures.items, ← c.self.view_is) (value_at-remove items c.in-Ok.place c.args.key.now at.in_range at.has_key none_before none_after)

pub returns-in_default : goal.returns-in_default
returns-in_default c =
    let gap = rw c.as_slice.ensures.value at c.in_default.ensures.absent in
    let none = value_at_gap c.self.inside.items.items c.args.key.now c.in_default.field-0 gap in
    rw (← c.self.view_is) (unchanged_if_absent c.self.inside.items.items c.args.key.now none)
