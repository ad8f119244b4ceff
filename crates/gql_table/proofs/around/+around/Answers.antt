use Rattle.std.proofs.Common.{arith, ◌<◌, ◌≤◌, ◌+◌, ◌∙◌, length, ap, sym}
use Rattle.gql_ast.specs.Tree.{trees_of, links_of}
use Rattle.gql_ast.specs.Machinery.Height.{highest, highest_link}
use Rattle.gql_ast.specs.RowAggregates.{around_all, around_links}
use Rattle.gql_eval.proofs.PartLemmas.{height_le-highest, height_lt-highest_link}
use Rattle.gql_table.proofs.AroundLemmas.{around_parts, around_sides, replaced_part, replaced_side, counted_part, counted_side, replaced_parts, replaced_sides}
use Rattle.gql_table.proofs.around.+around.Goals as goal

pub in_parts-in_expr-requires : goal.in_parts-in_expr-requires
in_parts-in_expr-requires t c =
    let items = c.as_slice-items.result.now in
    let below : c.loop-i.i < length items = omega arith in
    (omega (arith, height_le-highest items c.loop-i.i c.index-items-i.result below c.index-items-i.is, ap highest c.as_slice-items.ensures), c.requires)

pub in_parts-loop-i-preserved : goal.in_parts-loop-i-preserved
in_parts-loop-i-preserved t c =
    let columns = c.args.walk.now.columns.now in
    let items = c.as_slice-items.result.now in
    let below : c.loop-i.i < length items = omega arith in
    let ends = c.in_ok-in_expr.ensures in
    record {
      replaced =
          ap (λ made. around_parts columns made c.in_expr.new.next items (c.loop-i.i + 1)) c.in_ok-push.ensures.ok
          ∙ replaced_part columns c.loop-i.made _ c.loop-i.next c.in_expr.new.next items c.loop-i.i c.index-items-i.result below c.index-items-i.is ends.replaced ends.counted
          ∙ c.loop-i.invariant.replaced;
      counted =
          counted_part columns c.loop-i.next c.in_expr.new.next items c.loop-i.i c.index-items-i.result below c.index-items-i.is ends.counted
          ∙ c.loop-i.invariant.counted;
    }

pub in_parts-returns-clause-replaced : goal.in_parts-returns-clause-replaced
in_parts-returns-clause-replaced t c =
    let columns = c.args.walk.now.columns.now in
    let items = c.as_slice-items.result.now in
    let above : length items ≤ c.loop-i.i = omega arith in
    sym (replaced_parts columns c.loop-i.made c.loop-i.next items c.loop-i.i above)
    ∙ c.loop-i.invariant.replaced
    ∙ ap (λ es. around_all columns c.args.next.now (trees_of es)) c.as_slice-items.ensures

pub in_sides-in_side-requires : goal.in_sides-in_side-requires
in_sides-in_side-requires t c =
    let items = c.as_slice-items.result.now in
    let below : c.loop-i.i < length items = omega arith in
    (omega (arith, height_lt-highest_link items c.loop-i.i c.index-items-i.result below c.index-items-i.is, ap highest_link c.as_slice-items.ensures), c.requires)

pub in_sides-loop-i-preserved : goal.in_sides-loop-i-preserved
in_sides-loop-i-preserved t c =
    let columns = c.args.walk.now.columns.now in
    let items = c.as_slice-items.result.now in
    let below : c.loop-i.i < length items = omega arith in
    let ends = c.in_ok-in_side.ensures in
    record {
      replaced =
          ap (λ made. around_sides columns made c.in_side.new.next items (c.loop-i.i + 1)) c.in_ok-push.ensures.ok
          ∙ replaced_side columns c.loop-i.made _ c.loop-i.next c.in_side.new.next items c.loop-i.i c.index-items-i.result below c.index-items-i.is ends.replaced ends.counted
          ∙ c.loop-i.invariant.replaced;
      counted =
          counted_side columns c.loop-i.next c.in_side.new.next items c.loop-i.i c.index-items-i.result below c.index-items-i.is ends.counted
          ∙ c.loop-i.invariant.counted;
    }

pub in_sides-returns-clause-replaced : goal.in_sides-returns-clause-replaced
in_sides-returns-clause-replaced t c =
    let columns = c.args.walk.now.columns.now in
    let items = c.as_slice-items.result.now in
    let above : length items ≤ c.loop-i.i = omega arith in
    sym (replaced_sides columns c.loop-i.made c.loop-i.next items c.loop-i.i above)
    ∙ c.loop-i.invariant.replaced
    ∙ ap (λ ls. around_links columns c.args.next.now (links_of ls)) c.as_slice-items.ensures
