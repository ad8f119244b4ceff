use Rattle.std.proofs.Common.{◌≡◌, ◌<◌, List, length, refl, sym, subst}
use Rattle.gql_ports.specs.Held.{keys_ascend}
use Rattle.gql_ports.specs.declared.stored.Record.{Record}
use Rattle.gql_rowcode.specs.StandFor.{StandFor}
use Rattle.gql_rowcode.proofs.CatalogLemmas.{sound_catalog}
use Rattle.gql_rowcode.proofs.WritingLemmas.{all_ascend, some_records, stand_for, was_tested}
use Rattle.gql_rowcode.proofs.writing.records.Goals as goal

pub unwrap-requires : goal.unwrap-requires
unwrap-requires c =
    let up = all_ascend c.args.catalog.now c.in_ok-all.all.items c.in_ok-sorted.sorted.items (sound_catalog c.args.catalog.now c.requires) c.in_ok-all.ensures c.in_ok-sorted.ensures.order in
    rw (c.from_vec.ensures, up) refl

pub returns-clause-some : goal.returns-clause-some
returns-clause-some c =
    let sorted = c.in_ok-sorted.sorted.items in
    let up = all_ascend c.args.catalog.now c.in_ok-all.all.items sorted (sound_catalog c.args.catalog.now c.requires) c.in_ok-all.ensures c.in_ok-sorted.ensures.order in
    let same : c.unwrap.result ≡ sorted = was_tested c.from_vec.result (keys_ascend sorted) sorted c.unwrap.result c.from_vec.ensures up c.unwrap.ensures in
    subst (λ (rs : List Record). 0 < length rs) (sym same) (some_records c.args.catalog.now c.in_ok-all.all.items sorted c.in_ok-all.ensures c.in_ok-sorted.ensures.same)

pub returns-clause-stand : goal.returns-clause-stand
returns-clause-stand c =
    let sorted = c.in_ok-sorted.sorted.items in
    let up = all_ascend c.args.catalog.now c.in_ok-all.all.items sorted (sound_catalog c.args.catalog.now c.requires) c.in_ok-all.ensures c.in_ok-sorted.ensures.order in
    let same : c.unwrap.result ≡ sorted = was_tested c.from_vec.result (keys_ascend sorted) sorted c.unwrap.result c.from_vec.ensures up c.unwrap.ensures in
    subst (λ (rs : List Record). StandFor rs c.args.catalog.now) (sym same) (stand_for c.args.catalog.now c.in_ok-all.all.items sorted c.requires c.in_ok-all.ensures c.in_ok-sorted.ensures.same c.in_ok-sorted.ensures.order)
