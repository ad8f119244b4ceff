use Rattle.std.proofs.Common.{◌<◌, length, arith}
use Rattle.std.specs.Option.{option_or}
use Rattle.gql_ast.specs.ClauseColumns.{let_columns}
use Rattle.gql_expr_checks.specs.Refusals.{refusal_of_first, misuse_if}
use Rattle.gql_scope.specs.Misuses.{misused_let}
use Rattle.gql_scope.specs.UnknownNames.{unknown_in_let}
use Rattle.gql_ast.specs.declared.refusal.Refusal.TheVariants as refusal
use Rattle.gql_expr_checks.proofs.RefusalLemmas.{gives_fault}
use Rattle.gql_scope.proofs.LetLemmas.{names_stop, names_go_on, misuses_keep, columns_go_on}
use Rattle.gql_scope.proofs.unknown_names.check_let.Goals as goal

pub returns-in_err-check_let_item-clause-names : goal.returns-in_err-check_let_item-clause-names
returns-in_err-check_let_item-clause-names c =
    let is = c.args.items.now in
    let e = c.in_err-check_let_item.field-0.0 in
    let below : c.loop-item.item-index < length is = omega arith in
    let whole = refusal_of_first refusal.Variable (unknown_in_let c.args.scope.now is) in
    gives_fault c.from_residual.result e whole c.from_residual.ensures.0 c.from_residual.ensures.1
    (names_stop is c.loop-item.item-index c.item-item.result c.loop-item.scope below c.item-item.is whole c.loop-item.invariant.names e c.in_err-check_let_item.ensures.names)

pub loop-item-preserved : goal.loop-item-preserved
loop-item-preserved c =
    let is = c.args.items.now in
    let i = c.loop-item.item-index in
    let x = c.item-item.result in
    let before = c.loop-item.scope in
    let after = c.check_let_item.new.scope in
    let below : i < length is = omega arith in
    record {
      names = names_go_on is i x before below c.item-item.is (refusal_of_first refusal.Variable (unknown_in_let c.args.scope.now is)) c.loop-item.invariant.names
          c.in_ok-check_let_item.ensures.names after c.in_ok-check_let_item.ensures.columns;
      misuses = misuses_keep is i x before below c.item-item.is (option_or c.args.misuses.now (misuse_if (misused_let c.args.scope.now is))) c.loop-item.misuses c.check_let_item.new.misuses
          c.loop-item.invariant.misuses c.in_ok-check_let_item.ensures.misuses after c.in_ok-check_let_item.ensures.columns;
      columns = columns_go_on is i x before below c.item-item.is (let_columns c.args.scope.now is) c.loop-item.invariant.columns after c.in_ok-check_let_item.ensures.columns;
    }
