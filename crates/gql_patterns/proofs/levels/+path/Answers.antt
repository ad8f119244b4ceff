use Rattle.std.proofs.Common.{◌≡◌, Some, None, sym, subst, arith}
use Rattle.gql_ast.specs.PatternMeaning.{pattern_of}
use Rattle.gql_front.specs.Gives.{Fails}
use Rattle.gql_front.specs.Reading.{is_sign, after}
use Rattle.gql_front.proofs.Loops.{with_front}
use Rattle.gql_exprs.proofs.ChainLoops.{no_symbol, no_side, one_side}
use Rattle.gql_parts.specs.Machinery.PartReaders.{taken}
use Rattle.gql_patterns.specs.Machinery.PathReaders.{symbol_of, factor_of, factors_of, term_of, sides_of, read_path}
use Rattle.gql_patterns.proofs.PathLoops.{factors_from, factors_stop, factors_go_on, term_shrinks, sides_from}
use Rattle.gql_patterns.proofs.levels.+path.Goals as goal

pub factors-more-preserved : goal.factors-more-preserved
factors-more-preserved t c =
    let rest = c.more.rest.now in
    let x = pattern_of c.in-Ok.expr in
    let behind = c.in-Ok.behind.now in
    record {
      so_far = subst (λ z. with_front z (factors_from behind) ≡ factors_from c.args.start.now) (sym c.in_ok-push-in-Ok.ensures.ok)
          (factors_go_on c.more.others rest (factors_from c.args.start.now) c.more.invariant.so_far x behind c.in-Ok.ensures.given);
      within = omega (arith, c.in-Ok.ensures.shorter, c.more.invariant.within);
    }

pub factors-returns-in-Err-Syntax : goal.factors-returns-in-Err-Syntax
unfolding factors_of
factors-returns-in-Err-Syntax t c =
    record {
      given = factors_stop c.more.others c.more.rest.now (factors_from c.args.start.now) c.more.invariant.so_far
          (subst (λ e. Fails e (factor_of read_path c.more.rest.now)) c.in-Err-Syntax.field-0-is c.in-Err-Syntax.ensures.given);
      shorter = c.more.invariant.within;
    }

pub sides-more-preserved : goal.sides-more-preserved
sides-more-preserved t c =
    let k = c.args.chain in
    let rest = c.more.rest.now in
    let x = pattern_of c.in-Ok-term.expr in
    let behind = c.in-Ok-term.behind.now in
    let here = subst (λ n. after (is_sign n) rest ≡ Some c.in-Ok.behind.now) c.symbol_of.ensures c.in-Ok.ensures.given in
    record {
      so_far = subst (λ z. with_front z (sides_from k behind) ≡ sides_from k c.args.start.now) (sym c.in_ok-push-in-Ok-term.ensures.ok)
          (one_side (symbol_of k) (term_of read_path) taken term_shrinks c.more.others rest (sides_from k c.args.start.now) c.more.invariant.so_far c.in-Ok.behind.now x behind here c.in-Ok-term.ensures.given);
      within = omega (arith, c.in-Ok-term.ensures.shorter, c.in-Ok.ensures.shorter, c.more.invariant.within);
    }

pub sides-returns-in-Err-Syntax : goal.sides-returns-in-Err-Syntax
unfolding sides_of
sides-returns-in-Err-Syntax t c =
    let k = c.args.chain in
    let rest = c.more.rest.now in
    let here = subst (λ n. after (is_sign n) rest ≡ Some c.in-Ok.behind.now) c.symbol_of.ensures c.in-Ok.ensures.given in
    record {
      given = no_side (symbol_of k) (term_of read_path) taken term_shrinks c.more.others rest (sides_from k c.args.start.now) c.more.invariant.so_far c.in-Ok.behind.now here
          (subst (λ e. Fails e (term_of read_path c.in-Ok.behind.now)) c.in-Err-Syntax.field-0-is c.in-Err-Syntax.ensures.given);
      shorter = c.more.invariant.within;
    }

pub sides-returns : goal.sides-returns
unfolding sides_of
sides-returns t c =
    let k = c.args.chain in
    record {
      given = no_symbol (symbol_of k) (term_of read_path) taken term_shrinks c.more.others c.more.rest.now (sides_from k c.args.start.now) c.more.invariant.so_far
          (subst (λ n. after (is_sign n) c.more.rest.now ≡ None) c.symbol_of.ensures c.in_default.ensures.given);
      shorter = c.more.invariant.within;
    }
