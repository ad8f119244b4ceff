use Rattle.std.proofs.Common.{◌≡◌, ◌∷◌, ◌++◌, ◌∙◌, [], List, map, cond, sym, ap, subst, true, false}
use Rattle.std.specs.Prelude.{IfOk}
use Rattle.gql_ast.specs.Tree.{Tree}
use Rattle.gql_ast.specs.Meaning.{tree_of}
use Rattle.gql_ast.specs.Projections.{has_none}
use Rattle.gql_ast.specs.RowAggregates.{RowAggregate}
use Rattle.gql_eval.specs.Preparation.{Preparation}
use Rattle.gql_table.specs.Machinery.AggregateMeaning.{aggregate_meant}
use Rattle.gql_table.specs.Machinery.Preparations.{prepared_under}
use Rattle.gql_table.specs.Machinery.GroupPlan.{noted_trees}
use Rattle.gql_table.specs.Machinery.GroupMeaning.{item_meant}
use Rattle.gql_table.proofs.prepared_items.prepare_noted.Goals as goal

pub returns-in_ok-push : goal.returns-in_ok-push
returns-in_ok-push c =
    let item = c.args.item.now in
    let under : Tree → Preparation = prepared_under c.args.columns.now c.args.params.now in
    let k : has_none (item_meant item).aggregates ≡ true = sym c.is_key.ensures ∙ c.if-is_key.true in
    c.in_ok-push.ensures.items ∙ (λ i. c.new-noted.ensures.items i ++ c.in_ok-key.ensures i ∷ [])
    ∙ sym (ap (λ b. map under (cond b (tree_of item.expr.now ∷ []) (map (λ (a : RowAggregate). a.argument) (item_meant item).aggregates))) k)

pub returns-else-is_key : goal.returns-else-is_key
returns-else-is_key c =
    let item = c.args.item.now in
    let under : Tree → Preparation = prepared_under c.args.columns.now c.args.params.now in
    let k : has_none (item_meant item).aggregates ≡ false = sym c.is_key.ensures ∙ c.if-is_key.false in
    let same : map under (map (λ (a : RowAggregate). a.argument) (map aggregate_meant c.as_slice.result.now)) ≡ map under (noted_trees (item_meant item)) =
    ap (λ l. map under (map (λ (a : RowAggregate). a.argument) (map aggregate_meant l))) c.as_slice.ensures.value
    ∙ sym (ap (λ b. map under (cond b (tree_of item.expr.now ∷ []) (map (λ (a : RowAggregate). a.argument) (item_meant item).aggregates))) k) in
    subst (λ (l : List Preparation). IfOk c.prepare_arguments.result (λ noted. noted.items ≡ l)) same c.prepare_arguments.ensures
