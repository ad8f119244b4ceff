use Rattle.std.proofs.Common.{◌<◌, ◌+◌, [], ◌∙◌, ap, length, drop, arith}
use Rattle.gql_scope.specs.ColumnFaults.{faults_in_list}
use Rattle.gql_expr_checks.specs.Refusals.{refusal_of_first}
use Rattle.gql_ast.specs.declared.refusal.Refusal.TheVariants as refusal
use Rattle.gql_expr_checks.specs.Machinery.Seen.{seen_names}
use Rattle.gql_expr_checks.proofs.RefusalLemmas.{gives_fault}
use Rattle.gql_scope.proofs.ProjectionLemmas.{item_stops, item_goes_on}
use Rattle.gql_scope.proofs.column_faults.check_listed.Goals as goal

pub returns-in_err-check_item : goal.returns-in_err-check_item
returns-in_err-check_item c =
    let s = c.args.scope.now in
    let items = c.args.items.now in
    let whole = refusal_of_first refusal.Column (faults_in_list s [] items) in
    let below : c.loop-item.item-index < length items = omega arith in
    gives_fault c.from_residual.result c.in_err-check_item.field-0.0 whole c.from_residual.ensures.0 c.from_residual.ensures.1
    (item_stops s (seen_names c.loop-item.seen) items c.loop-item.item-index c.item-item.result whole below c.item-item.is c.loop-item.invariant c.in_err-check_item.field-0.0 c.in_err-check_item.ensures.faults)

pub loop-item-preserved : goal.loop-item-preserved
loop-item-preserved c =
    let s = c.args.scope.now in
    let items = c.args.items.now in
    let whole = refusal_of_first refusal.Column (faults_in_list s [] items) in
    let below : c.loop-item.item-index < length items = omega arith in
    ap (λ ns. refusal_of_first refusal.Column (faults_in_list s ns (drop (c.loop-item.item-index + 1) items))) c.in_ok-check_item.ensures.noted
    ∙ item_goes_on s (seen_names c.loop-item.seen) items c.loop-item.item-index c.item-item.result whole below c.item-item.is c.loop-item.invariant c.in_ok-check_item.ensures.faults
