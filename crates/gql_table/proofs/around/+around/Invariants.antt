use Rattle.std.proofs.Common.{◌≡◌, [], ◌+◌, ◌*◌}
use Rattle.gql_ast.specs.Meaning.{tree_of}
use Rattle.gql_ast.specs.Machinery.Height.{height_of, highest, highest_link}
use Rattle.gql_table.proofs.AroundLemmas.{around_parts, around_sides, number_behind_parts, number_behind_sides}
use Rattle.gql_table.proofs.around.+around.Given as goal

abbrev pub decreases-in_expr : goal.decreases-in_expr
decreases-in_expr l = 2 * height_of (tree_of l.expr.now)

abbrev pub decreases-in_part : goal.decreases-in_part
decreases-in_part l = 2 * height_of l.part.now + 1

abbrev pub decreases-in_parts : goal.decreases-in_parts
decreases-in_parts l = 2 * highest l.parts.now + 1

abbrev pub decreases-in_sides : goal.decreases-in_sides
decreases-in_sides l = 2 * highest_link l.sides.now + 1

abbrev pub decreases-in_side : goal.decreases-in_side
decreases-in_side l = 2 * height_of (tree_of l.side.now.operand) + 1

abbrev pub invariant-in_parts-loop-i : goal.invariant-in_parts-loop-i
invariant-in_parts-loop-i l = record {
  replaced : around_parts l.walk.columns.now l.made l.next l.items l.i ≡ around_parts l.walk.columns.now [] l.fn.next l.items 0;
  counted : number_behind_parts l.walk.columns.now l.next l.items l.i ≡ number_behind_parts l.walk.columns.now l.fn.next l.items 0;
}

abbrev pub invariant-in_sides-loop-i : goal.invariant-in_sides-loop-i
invariant-in_sides-loop-i l = record {
  replaced : around_sides l.walk.columns.now l.made l.next l.items l.i ≡ around_sides l.walk.columns.now [] l.fn.next l.items 0;
  counted : number_behind_sides l.walk.columns.now l.next l.items l.i ≡ number_behind_sides l.walk.columns.now l.fn.next l.items 0;
}
