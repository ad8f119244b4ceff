use Rattle.std.proofs.Common.{◌≡◌, Some, sym, subst, arith}
use Rattle.gql_lexer.specs.SymbolPlaces.{comma}
use Rattle.gql_ast.specs.Tree.{link}
use Rattle.gql_ast.specs.Meaning.{tree_of}
use Rattle.gql_front.specs.Gives.{Fails}
use Rattle.gql_front.proofs.Found.{no_operator, no_operand, one_step}
use Rattle.gql_front.proofs.Loops.{with_front}
use Rattle.gql_exprs.specs.Machinery.LeafReaders.{comma_op, operand}
use Rattle.gql_exprs.specs.Machinery.Readers.{operator_in, side_of, steps_of, read_expr}
use Rattle.gql_exprs.proofs.ChainLoops.{symbol_none, symbol_some}
use Rattle.gql_exprs.proofs.ExprLoops.{steps_from, steps_stop, steps_next, list_from, others_from, others_stop, others_next}
use Rattle.gql_exprs.proofs.+expr.Goals as goal

pub brackets::list-more-preserved : goal.brackets::list-more-preserved
brackets::list-more-preserved t c =
    let rest = c.more.rest.now in
    let x = tree_of c.in-Ok-expression.expr in
    let behind = c.in-Ok-expression.behind.now in
    let one = one_step comma_op read_expr operand rest tt c.in-Ok.behind.now x behind (symbol_some comma rest c.in-Ok.behind.now c.in-Ok.ensures.given) c.in-Ok-expression.ensures.given in
    record {
      so_far = subst (λ z. list_from c.args.start.now ≡ Some (with_front z (others_from behind))) (sym c.in_ok-push-in-Ok-expression.ensures.ok)
          (others_next c.more.exprs rest x behind (list_from c.args.start.now) one c.more.invariant.so_far);
      within = omega (arith, c.in-Ok-expression.ensures.shorter, c.in-Ok.ensures.shorter, c.more.invariant.within);
    }

pub brackets::list-returns-in-Err-Syntax : goal.brackets::list-returns-in-Err-Syntax
brackets::list-returns-in-Err-Syntax t c =
    let rest = c.more.rest.now in
    let none = subst (λ e. Fails e (read_expr c.in-Ok.behind.now)) c.in-Err-Syntax.field-0-is c.in-Err-Syntax.ensures.given in
    record {
      given = others_stop c.more.exprs rest (list_from c.args.start.now)
          (no_operand comma_op read_expr operand rest tt c.in-Ok.behind.now (symbol_some comma rest c.in-Ok.behind.now c.in-Ok.ensures.given) none) c.more.invariant.so_far;
      shorter = c.more.invariant.within;
    }

pub brackets::list-returns : goal.brackets::list-returns
brackets::list-returns t c =
    let rest = c.more.rest.now in
    record {
      given = others_stop c.more.exprs rest (list_from c.args.start.now) (no_operator comma_op read_expr operand rest (symbol_none comma rest c.in_default.ensures.given)) c.more.invariant.so_far;
      shorter = c.more.invariant.within;
    }

pub levels::steps-more-preserved : goal.levels::steps-more-preserved
levels::steps-more-preserved t c =
    let k = c.args.kind in
    let rest = c.more.rest.now in
    let o = c.in-Ok.operator in
    let x = tree_of c.in-Ok-side.operand in
    let behind = c.in-Ok-side.behind.now in
    let one = one_step (operator_in k) (side_of k read_expr) link rest o c.in-Ok.behind.now x behind c.in-Ok.ensures.given c.in-Ok-side.ensures.given in
    record {
      so_far = subst (λ z. with_front z (steps_from k behind) ≡ steps_from k c.args.start.now) (sym c.in_ok-push-in-Ok-side.ensures.ok)
          (steps_next k c.more.steps rest (link o x) behind (steps_from k c.args.start.now) one c.more.invariant.so_far);
      within = omega (arith, c.in-Ok-side.ensures.shorter, c.in-Ok.ensures.shorter, c.more.invariant.within);
    }

pub levels::steps-returns-in-Err-Syntax : goal.levels::steps-returns-in-Err-Syntax
unfolding steps_of
levels::steps-returns-in-Err-Syntax t c =
    let k = c.args.kind in
    let rest = c.more.rest.now in
    let none = subst (λ e. Fails e (side_of k read_expr c.in-Ok.behind.now)) c.in-Err-Syntax.field-0-is c.in-Err-Syntax.ensures.given in
    record {
      given = steps_stop k c.more.steps rest (steps_from k c.args.start.now)
          (no_operand (operator_in k) (side_of k read_expr) link rest c.in-Ok.operator c.in-Ok.behind.now c.in-Ok.ensures.given none) c.more.invariant.so_far;
      shorter = c.more.invariant.within;
    }

pub levels::steps-returns : goal.levels::steps-returns
unfolding steps_of
levels::steps-returns t c =
    let k = c.args.kind in
    let rest = c.more.rest.now in
    record {
      given = steps_stop k c.more.steps rest (steps_from k c.args.start.now) (no_operator (operator_in k) (side_of k read_expr) link rest c.in_default.ensures.given) c.more.invariant.so_far;
      shorter = c.more.invariant.within;
    }
