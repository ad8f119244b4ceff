use Rattle.std.proofs.Common.{◌∙◌, ◌<◌, ◌+◌, ◌≡◌, ◌≢◌, sym, ap, arith, length, Some}
use Rattle.gql_values3.specs.Comparison.{both_equalities}
use Rattle.gql_values3.specs.Meaning.{datum_of}
use Rattle.gql_values3.proofs.ItemLemmas.{depth_le-depth_all}
use Rattle.gql_values3.proofs.EqualityLemmas.{equal_from, equal_step, both_equalities_assoc, both_equalities_true, unequal_lists, equal_lists}
use Rattle.gql_values3.proofs.comparison.+equal.Goals as goal

pub equal3-returns-then-len : goal.equal3-returns-then-len
equal3-returns-then-len t c =
    let different : length c.in-List-List.a ≢ length c.in-List-List.b = omega arith in
    rw (c.in-List-List.is-0, c.in-List-List.is-1) (sym (unequal_lists c.in-List-List.a c.in-List-List.b different))

pub equal3-returns-else-len : goal.equal3-returns-else-len
equal3-returns-else-len t c =
    let same : length c.in-List-List.a ≡ length c.in-List-List.b = omega arith in
    rw (c.in-List-List.is-0, c.in-List-List.is-1)
    (rw (c.as_slice.ensures, c.as_slice-in-List-List.ensures) at c.items_equal3.ensures ∙ sym (equal_lists c.in-List-List.a c.in-List-List.b same))

pub items_equal3-loop-i-init : goal.items_equal3-loop-i-init
items_equal3-loop-i-init t c = both_equalities_true (equal_from datum_of c.args.a.now c.args.b.now 0)

pub items_equal3-equal3-requires : goal.items_equal3-equal3-requires
items_equal3-equal3-requires t c =
    let within : c.loop-i.i < length c.args.a.now = omega arith in
    (omega (arith, depth_le-depth_all datum_of c.args.a.now c.loop-i.i c.index-a-i.result within c.index-a-i.is), tt)

pub items_equal3-loop-i-preserved : goal.items_equal3-loop-i-preserved
items_equal3-loop-i-preserved t c =
    let within : c.loop-i.i < length c.args.a.now = omega arith in
    let within_b : c.loop-i.i < length c.args.b.now = omega arith in
    let later = equal_from datum_of c.args.a.now c.args.b.now (c.loop-i.i + 1) in
    let step = equal_step datum_of c.args.a.now c.args.b.now c.loop-i.i c.index-a-i.result c.index-b-i.result within within_b c.index-a-i.is c.index-b-i.is in
    ap (λ u. both_equalities (Some u) later) c.and3-all.ensures.value ∙ both_equalities_assoc c.loop-i.all c.in_ok-equal3.field-0 later
    ∙ ap (both_equalities (Some c.loop-i.all)) (ap (λ e. both_equalities e later) c.in_ok-equal3.ensures ∙ sym step) ∙ c.loop-i.invariant
