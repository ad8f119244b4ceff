use Rattle.std.proofs.Common.{◌≡◌, ◌≤◌, ◌+◌, ◌*◌, length, map, take}
use Rattle.gql_values3.specs.Datum.{Datum}
use Rattle.gql_ast.specs.declared.fault.DataFault.{DataFault}
use Rattle.std.specs.Prelude.{Result}
use Rattle.gql_ast.specs.Meaning.{tree_of}
use Rattle.gql_ast.specs.Scope.{with_item}
use Rattle.gql_ast.specs.Evaluation.{value_of}
use Rattle.gql_eval.specs.Machinery.InstructionMeaning.{program_of}
use Rattle.gql_eval.specs.Machinery.Steps.{ran}
use Rattle.gql_eval.specs.Machinery.Compiled.{arguments_behind}
use Rattle.gql_eval.specs.Machinery.ScopeMeaning.{scope_of}
use Rattle.gql_eval.proofs.EvaluationLemmas.{with_values, each_from}
use Rattle.gql_eval.proofs.+running.Given as goal

abbrev pub decreases-running::value_of_program : goal.decreases-running::value_of_program
decreases-running::value_of_program g l = 8 * length l.program.now + 6

abbrev pub decreases-running::run : goal.decreases-running::run
decreases-running::run g l = 8 * length l.program.now + 5

abbrev pub decreases-running::run_one : goal.decreases-running::run_one
decreases-running::run_one g l = 12

abbrev pub decreases-running::run_alone : goal.decreases-running::run_alone
decreases-running::run_alone g l = 11

abbrev pub decreases-running::run_on : goal.decreases-running::run_on
decreases-running::run_on g l = 8 * length l.program.now + 4

abbrev pub decreases-running::run_instruction : goal.decreases-running::run_instruction
decreases-running::run_instruction g l = 8 * length l.behind.now + 10

abbrev pub decreases-over_groups::put_over_group : goal.decreases-over_groups::put_over_group
decreases-over_groups::put_over_group g l = 8 * length l.steps.now + 9

abbrev pub decreases-over_groups::over_group : goal.decreases-over_groups::over_group
decreases-over_groups::over_group g l = 8 * length l.steps.now + 8

abbrev pub decreases-over_groups::over_items : goal.decreases-over_groups::over_items
decreases-over_groups::over_items g l = 8 * length l.steps.now + 7

abbrev pub invariant-running::run_on-loop-left : goal.invariant-running::run_on-loop-left
invariant-running::run_on-loop-left g l = record {
  within : l.left ≤ length l.program;
  stands : arguments_behind l.scope.columns.now l.scope.names.now l.params (program_of (take l.left l.program));
  so_far : ran (g.V.View.graph l.view) l.params l.scope (program_of (take l.left l.program)) l.stack ≡ ran (g.V.View.graph l.view) l.params l.scope (program_of l.program) l.fn.stack;
}

abbrev pub decreases-running::run_on-loop-left : goal.decreases-running::run_on-loop-left
decreases-running::run_on-loop-left g l = l.left

abbrev pub invariant-over_groups::over_items-loop-i : goal.invariant-over_groups::over_items-loop-i
invariant-over_groups::over_items-loop-i g l =
    let value : Datum → Result Datum DataFault = λ item. value_of (g.V.View.graph l.view) l.params (with_item (scope_of l.scope) l.name item) (tree_of l.part) in
    with_values l.values (each_from value l.items l.i) ≡ each_from value l.items 0
