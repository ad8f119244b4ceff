-- The record at the key's place is the one that a look-up finds.
use Rattle.std.proofs.Common.{◌≡◌, sym, ap, ◌∙◌, Some, slice_index_or}
use Rattle.gql_ports.specs.declared.stored.Record.{Record}
use Rattle.gql_ports.proofs.RecordLemmas.{value_at_present, no_key_before_at, value_at_gap}
use Rattle.gql_ports.proofs.records.Records.value_of.Goals as goal

pub returns-in-Ok : goal.returns-in-Ok
returns-in-Ok c =
    let items = c.self.inside.items.items in
    let at = rw c.as_slice.ensures.value at c.in-Ok.ensures.found in
    let read = slice_index_or items c.in-Ok.place c.index.result.now in
    let none_before = no_key_before_at items c.self.invariant c.args.key.now c.in-Ok.place at in
    let found = value_at_present items c.args.key.now c.in-Ok.place c.index.result.now at.in_range (at.has_key c.index.result.now) none_before in
    let shown : c.as_slice-in-Ok.result.now ≡ read.value = c.as_slice-in-Ok.ensures ∙ ap (λ (r : Record). r.value) c.index.ensures in
    rw (← c.self.view_is) (ap Some shown ∙ sym found)

pub returns-in-Err : goal.returns-in-Err
returns-in-Err c = rw (← c.self.view_is) (sym (value_at_gap c.self.inside.items.items c.args.key.now c.in-Err.field-0 (rw c.as_slice.ensures.value at c.in-Err.ensures.absent)))
