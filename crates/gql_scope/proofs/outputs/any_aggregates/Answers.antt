use Rattle.std.proofs.Common.{◌∙◌, ap, sym, not}
use Rattle.std.specs.List.{list_any}
use Rattle.gql_ast.specs.Projections.{is_key, output_trees}
use Rattle.gql_scope.proofs.ProjectionLemmas.{names_are_keys}
use Rattle.gql_scope.proofs.outputs.any_aggregates.Goals as goal

pub returns-in-All : goal.returns-in-All
returns-in-All c =
    names_are_keys c.args.scope.now c.args.scope.now
    ∙ ap (λ is. list_any (λ e. not (is_key c.args.scope.now e)) (output_trees c.args.scope.now is)) (sym c.in-All.is)
