use Rattle.std.proofs.Common.{◌≡◌, Some, None, sym, subst, arith}
use Rattle.gql_front.specs.Gives.{Fails}
use Rattle.gql_front.specs.Reading.{is_sign, after}
use Rattle.gql_front.proofs.Loops.{with_front}
use Rattle.gql_ast.specs.LabelMeaning.{label_of}
use Rattle.gql_exprs.specs.Machinery.LabelReaders.{operand, symbol_of, side_of, sides_of, read_label}
use Rattle.gql_exprs.proofs.ChainLoops.{no_symbol, no_side, one_side}
use Rattle.gql_exprs.proofs.LabelChains.{sides_from, side_shrinks}
use Rattle.gql_exprs.proofs.labels.+labels.Goals as goal

pub sides-more-preserved : goal.sides-more-preserved
sides-more-preserved t c =
    let k = c.args.kind in
    let rest = c.more.rest.now in
    let x = label_of c.in-Ok-side.expr in
    let behind = c.in-Ok-side.behind.now in
    let here = subst (λ n. after (is_sign n) rest ≡ Some c.in-Ok.behind.now) c.symbol_of.ensures c.in-Ok.ensures.given in
    record {
      so_far = subst (λ z. with_front z (sides_from k behind) ≡ sides_from k c.args.start.now) (sym c.in_ok-push-in-Ok-side.ensures.ok)
          (one_side (symbol_of k) (side_of k read_label) operand (side_shrinks k) c.more.others rest (sides_from k c.args.start.now) c.more.invariant.so_far c.in-Ok.behind.now x behind here c.in-Ok-side.ensures.given);
      within = omega (arith, c.in-Ok-side.ensures.shorter, c.in-Ok.ensures.shorter, c.more.invariant.within);
    }

pub sides-returns-in-Err-Syntax : goal.sides-returns-in-Err-Syntax
unfolding sides_of
sides-returns-in-Err-Syntax t c =
    let k = c.args.kind in
    let rest = c.more.rest.now in
    let here = subst (λ n. after (is_sign n) rest ≡ Some c.in-Ok.behind.now) c.symbol_of.ensures c.in-Ok.ensures.given in
    record {
      given = no_side (symbol_of k) (side_of k read_label) operand (side_shrinks k) c.more.others rest (sides_from k c.args.start.now) c.more.invariant.so_far c.in-Ok.behind.now here
          (subst (λ e. Fails e (side_of k read_label c.in-Ok.behind.now)) c.in-Err-Syntax.field-0-is c.in-Err-Syntax.ensures.given);
      shorter = c.more.invariant.within;
    }

pub sides-returns : goal.sides-returns
unfolding sides_of
sides-returns t c =
    let k = c.args.kind in
    record {
      given = no_symbol (symbol_of k) (side_of k read_label) operand (side_shrinks k) c.more.others c.more.rest.now (sides_from k c.args.start.now) c.more.invariant.so_far
          (subst (λ n. after (is_sign n) c.more.rest.now ≡ None) c.symbol_of.ensures c.in_default.ensures.given);
      shorter = c.more.invariant.within;
    }
