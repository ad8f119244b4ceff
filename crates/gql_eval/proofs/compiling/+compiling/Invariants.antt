use Rattle.std.proofs.Common.{◌≡◌, ◌++◌, ◌+◌, ◌*◌, max, map}
use Rattle.gql_ast.specs.Meaning.{tree_of, link_of}
use Rattle.gql_ast.specs.Machinery.Height.{height_of, highest, highest_link}
use Rattle.gql_eval.specs.Machinery.InstructionMeaning.{program_of}
use Rattle.gql_eval.specs.Machinery.Compiled.{compiled_items, compiled_others, compiled_chain, compiled_all, compiled_any}
use Rattle.gql_ast.proofs.PartLemmas.{parts_from, sides_from}
use Rattle.gql_eval.proofs.compiling.+compiling.Given as goal

abbrev pub decreases-compile : goal.decreases-compile
decreases-compile l = 4 * height_of (tree_of l.expr.now)

abbrev pub decreases-operation : goal.decreases-operation
decreases-operation l = 4 * height_of (tree_of l.part.now) + 1

abbrev pub decreases-binary : goal.decreases-binary
decreases-binary l = 4 * max (height_of (tree_of l.a.now)) (height_of (tree_of l.b.now)) + 1

abbrev pub decreases-chain : goal.decreases-chain
decreases-chain l = 4 * max (height_of (tree_of l.first.now)) (highest_link (map link_of l.steps.now)) + 1

abbrev pub decreases-put_truth : goal.decreases-put_truth
decreases-put_truth l = 4 * height_of (tree_of l.side.now) + 1

abbrev pub decreases-all_sides : goal.decreases-all_sides
decreases-all_sides l = 4 * highest_link (map link_of l.steps.now) + 1

abbrev pub decreases-any_sides : goal.decreases-any_sides
decreases-any_sides l = 4 * highest_link (map link_of l.steps.now) + 1

abbrev pub decreases-put_any_side : goal.decreases-put_any_side
decreases-put_any_side l = 4 * height_of (tree_of l.side.now) + 1

abbrev pub invariant-chain-loop-i : goal.invariant-chain-loop-i
invariant-chain-loop-i l = program_of l.program.items ≡ compiled_chain l.columns l.names l.params (sides_from l.steps l.i) ++ program_of l.fn.program.items

abbrev pub invariant-all_sides-loop-i : goal.invariant-all_sides-loop-i
invariant-all_sides-loop-i l = program_of l.program.items ≡ compiled_all l.columns l.names l.params (sides_from l.steps l.i) ++ program_of l.fn.program.items

abbrev pub invariant-any_sides-loop-i : goal.invariant-any_sides-loop-i
invariant-any_sides-loop-i l = program_of l.program.items ≡ compiled_any l.columns l.names l.params (sides_from l.steps l.i) ++ program_of l.fn.program.items

abbrev pub decreases-list : goal.decreases-list
decreases-list l = 4 * highest (map tree_of l.parts.now) + 2

abbrev pub decreases-items : goal.decreases-items
decreases-items l = 4 * highest (map tree_of l.parts.now) + 1

abbrev pub decreases-others : goal.decreases-others
decreases-others l = 4 * highest (map tree_of l.parts.now) + 1

abbrev pub decreases-over_group : goal.decreases-over_group
decreases-over_group l = 4 * height_of (tree_of l.part.now) + 1

abbrev pub invariant-items-loop-i : goal.invariant-items-loop-i
invariant-items-loop-i l = program_of l.program.items ≡ compiled_items l.columns l.names l.params (parts_from l.parts l.i) ++ program_of l.fn.program.items

abbrev pub invariant-others-loop-i : goal.invariant-others-loop-i
invariant-others-loop-i l = program_of l.program.items ≡ compiled_others l.columns l.names l.params (parts_from l.parts l.i) ++ program_of l.fn.program.items
