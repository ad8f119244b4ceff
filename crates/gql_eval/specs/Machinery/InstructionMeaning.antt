-- What the code's instructions mean. A program is kept from its last step on.
use Rattle.std.specs.Prelude.{List}
use Rattle.gql_ast.specs.Meaning.{tree_of}
use Rattle.gql_eval.specs.CowValue.{cow_datum}
use Rattle.gql_eval.specs.Machinery.Steps.{Op, fixed, held_name, held_property, of_one, of_two, join_side, as_truth, join_all, join_any, skip_if, start_list, add_item, end_list, or_else, over_group}
use Rattle.gql_eval.specs.Machinery.Turned.{turned}
use Rattle.gql_eval.specs.declared.instruction.Instruction.{Instruction}
use Rattle.gql_eval.specs.declared.instruction.Instruction.TheVariants as instruction

abbrev pub op_of : Instruction → Op
op_of (instruction.Fixed c) = fixed (cow_datum c)
op_of (instruction.Name o x) = held_name o x.now
op_of (instruction.Property o x p) = held_property o x.now p.now
op_of (instruction.OfOne e) = of_one (tree_of e.now)
op_of (instruction.OfTwo e) = of_two (tree_of e.now)
op_of (instruction.JoinSide op) = join_side op
op_of instruction.AsTruth = as_truth
op_of instruction.JoinAll = join_all
op_of (instruction.JoinAny op) = join_any op
op_of (instruction.SkipIf b n) = skip_if b n
op_of instruction.StartList = start_list
op_of instruction.AddItem = add_item
op_of instruction.EndList = end_list
op_of (instruction.OrElse n) = or_else n
op_of (instruction.OverGroup a q e n) = over_group a q (tree_of e.now) n

abbrev pub program_of : List Instruction → List Op
program_of is = turned op_of is
