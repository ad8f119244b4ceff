use Rattle.std.proofs.Common.{◌≡◌, ◌∙◌, ℕ, [], map, eqb, None, Some, List, subst, sym, ap}
use Rattle.gql_graph.specs.Catalog.{CatalogData}
use Rattle.gql_rowcode.specs.FirstBad.{FirstBad}
use Rattle.gql_rowcode.specs.declared.seen.Seen.{Seen}
use Rattle.gql_rowcode.specs.Machinery.Noted.{record_after, noted_of, named_seen}
use Rattle.gql_rowcode.proofs.WalkLemmas.{AreRead, none_read, read_noted, read_fault, read_more, read_all, place_same, record_is}
use Rattle.gql_rowcode.proofs.reading.walk.Goals as goal

pub loop-place-init : goal.loop-place-init
loop-place-init c =
    subst (AreRead c.args.records.now 0 []) (λ i. record { graphs = map named_seen (sym c.new-2.ensures.items i); types = sym c.new.ensures.items i }) (none_read c.args.records.now)

pub after_record-requires : goal.after_record-requires
after_record-requires c = read_noted c.args.records.now c.loop-place.place c.loop-place.last.now (noted_of c.loop-place.seen) c.loop-place.invariant

-- the record of this place can't stand there
pub returns-in-Err-NoForm-clause-bad : goal.returns-in-Err-NoForm-clause-bad
returns-in-Err-NoForm-clause-bad c =
    let r = c.index-records-place.result in
    let none : record_after c.loop-place.last.now (eqb c.loop-place.place 0) (noted_of c.loop-place.seen) r.key r.value ≡ None = rw (← c.as_slice-key.ensures, ← c.as_slice.ensures) (rw c.in-Err-NoForm.field-0-is at c.in-Err-NoForm.ensures.told) in
    let bad = read_fault c.args.records.now c.loop-place.place c.loop-place.last.now (noted_of c.loop-place.seen) c.loop-place.invariant r c.loop-place-test.true c.index-records-place.is none in
    λ i e. subst (FirstBad c.args.records.now) (place_same {A = Seen} c.loop-place.place i e) bad

pub loop-place-preserved : goal.loop-place-preserved
loop-place-preserved c =
    let r = c.index-records-place.result in
    let f = c.in-Ok.ensures.spelled in
    let some : record_after c.loop-place.last.now (eqb c.loop-place.place 0) (noted_of c.loop-place.seen) r.key r.value ≡ Some (noted_of c.in-Ok.next) = rw (← c.as_slice-key.ensures, ← c.as_slice.ensures) c.in-Ok.ensures.told in
    let is = record_is r f.0 (sym c.as_slice-key.ensures ∙ f.2) (sym c.as_slice.ensures ∙ f.3) in
    rw c.as_slice-key.ensures (read_more c.args.records.now c.loop-place.place c.loop-place.last.now (noted_of c.loop-place.seen) c.loop-place.invariant r c.loop-place-test.true c.index-records-place.is (noted_of c.in-Ok.next) some f.0 f.1 is)

pub returns-clause-read : goal.returns-clause-read
returns-clause-read c = read_all c.args.records.now c.loop-place.place c.loop-place.last.now (noted_of c.loop-place.seen) c.loop-place.invariant c.loop-place-test.false
