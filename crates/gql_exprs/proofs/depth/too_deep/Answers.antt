use Rattle.std.proofs.Common.{sym, ◌∙◌, arith}
use Rattle.gql_exprs.proofs.DepthLemmas.{too_deep_from-past}
use Rattle.gql_exprs.proofs.depth.too_deep.Goals as goal

pub returns-then-count-gt-MOST_DEEP : goal.returns-then-count-gt-MOST_DEEP
returns-then-count-gt-MOST_DEEP c =
    sym (too_deep_from-past c.loop-lexeme.count c.loop-lexeme.lexeme-index c.args.lexemes.now c.lexeme-item.result c.loop-lexeme.invariant.within c.loop-lexeme-test.true c.lexeme-item.is (omega (arith, c.count_behind-count.ensures)))
    ∙ c.loop-lexeme.invariant.so_far
