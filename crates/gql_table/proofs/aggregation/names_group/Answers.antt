use Rattle.std.proofs.Common.{◌≡◌, ◌∙◌, map, ap, Some, None, is_some}
use Rattle.gql_values3.specs.Meaning.{datum_of}
use Rattle.gql_ast.specs.Meaning.{tree_of}
use Rattle.gql_ast.specs.Scope.{row_scope, group_of}
use Rattle.gql_eval.specs.Machinery.ScopeMeaning.{scope_of, rest_of}
use Rattle.gql_eval.proofs.ScopeLemmas.{append_none}
use Rattle.gql_table.proofs.ReturnLemmas.{map_long}
use Rattle.gql_table.proofs.AggregationLemmas.{over_group_is}
use Rattle.gql_table.proofs.aggregation.names_group.Goals as goal

pub returns-in-Some : goal.returns-in-Some
unfolding scope_of rest_of
returns-in-Some c =
    let row = map datum_of c.args.blank.now in
    let found : Some c.in-Some.field-0.now ≡ group_of (row_scope c.args.columns.now row) (tree_of c.args.expr.now) = rw append_none at c.in-Some.ensures in
    ap is_some found ∙ over_group_is c.args.columns.now row (tree_of c.args.expr.now) (map_long datum_of c.args.blank.now ∙ c.requires)

pub returns-in-None : goal.returns-in-None
unfolding scope_of rest_of
returns-in-None c =
    let row = map datum_of c.args.blank.now in
    let found : None ≡ group_of (row_scope c.args.columns.now row) (tree_of c.args.expr.now) = rw append_none at c.in-None.ensures in
    ap is_some found ∙ over_group_is c.args.columns.now row (tree_of c.args.expr.now) (map_long datum_of c.args.blank.now ∙ c.requires)
