use Rattle.std.proofs.Common.{◌∙◌, ◌&&◌, ap}
use Rattle.gql_values3.specs.declared.table.ColumnKind.TheVariants as kind
use Rattle.gql_ast.specs.ClauseColumns.{ColumnList}
use Rattle.gql_ast.specs.InsertColumns.{with_variable}
use Rattle.gql_ast.specs.Endpoints.{wrong_endpoint}
use Rattle.gql_change.specs.Changing.{is_empty}
use Rattle.gql_change.proofs.EndpointLemmas.{right_step}
use Rattle.gql_change.proofs.questions.ask_step.Goals as goal

pub returns-clause-behind : goal.returns-clause-behind
returns-clause-behind c =
    let edge = c.in_ok-behind_edge.ensures.behind in
    let node = c.in_ok-behind_node.ensures.behind in
    let step = c.args.step.now in (
      node.0 ∙ ap (λ (cs : ColumnList). with_variable cs kind.Node step.node.variable) edge.0,
      node.1 ∙ (λ i. edge.1 i && is_empty (wrong_endpoint (edge.0 i) kind.Node step.node.variable)) ∙ right_step c.args.so_far.1 c.args.so_far.0 step,
    )
