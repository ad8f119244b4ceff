use Rattle.std.proofs.Common.{◌∷◌, ◌++◌, ◌∙◌, ◌-◌, ◌+◌, ◌<◌, [], sym, ap, arith, append_assoc}
use Rattle.gql_values3.specs.declared.table.ColumnKind.TheVariants as kind
use Rattle.gql_ast.specs.RowAggregates.{result_name}
use Rattle.gql_table.specs.Machinery.GroupPlan.{names_from}
use Rattle.gql_table.proofs.GroupSteps.{names_step}
use Rattle.gql_table.proofs.group_items.result_names.Goals as goal

pub loop-i-preserved : goal.loop-i-preserved
loop-i-preserved c =
    let at = c.loop-i in
    let below : at.i < c.args.count = omega arith in
    let rest = names_from (at.i + 1) (c.args.count - (at.i + 1)) in
    rw (c.in_ok-push.ensures.ok, c.in_ok-push_number.ensures, c.new-name.ensures)
    (append_assoc at.names ((result_name at.i, kind.Plain) ∷ []) rest ∙ ap (λ l. at.names ++ l) (sym (names_step at.i c.args.count below)) ∙ at.invariant)
