use Rattle.std.proofs.Common.{◌∙◌, ◌<◌, ◌≡◌, min, sym, arith, length}
use Rattle.gql_values3.specs.ValueOrder.{datum_cmp}
use Rattle.gql_values3.proofs.OrderLaws.{data_cmp-data_of}
use Rattle.gql_values3.specs.Meaning.{datum_of}
use Rattle.gql_values3.proofs.ItemLemmas.{from_end, depth_le-depth_all}
use Rattle.gql_values3.proofs.order.+total.Goals as goal

pub items_cmp-total_cmp-order-requires : goal.items_cmp-total_cmp-order-requires
items_cmp-total_cmp-order-requires t c =
    let within : c.loop-i.i < length c.args.a.now = omega arith in
    (omega (arith, depth_le-depth_all datum_of c.args.a.now c.loop-i.i c.index-a-i.result within c.index-a-i.is), tt)

pub items_cmp-returns : goal.items_cmp-returns
items_cmp-returns t c =
    let over : c.loop-i.i ≡ min (length c.args.a.now) (length c.args.b.now) = omega arith in
    c.cmp.ensures ∙ sym (from_end datum_cmp datum_of c.args.a.now c.args.b.now c.loop-i.i over) ∙ c.loop-i.invariant

pub total_cmp-returns-in-List-List : goal.total_cmp-returns-in-List-List
total_cmp-returns-in-List-List t c =
    let seen = sym (data_cmp-data_of c.in-List-List.a c.in-List-List.b) in
    rw (c.in-List-List.is-0, c.in-List-List.is-1) (rw (c.as_slice.ensures, c.as_slice-in-List-List.ensures) at c.items_cmp.ensures ∙ seen)
