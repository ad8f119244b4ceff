use Rattle.std.proofs.Common.{◌∙◌, sym, arith}
use Rattle.gql_lexer.proofs.SymbolLemmas.{stands, minus-greater, minus-alone}
use Rattle.gql_lexer.proofs.FrontLemmas.{dash-line}
use Rattle.gql_lexer.proofs.front.minus.Goals as goal

pub returns-then-second-eq62 : goal.returns-then-second-eq62
returns-then-second-eq62 c = c.sign.ensures ∙ minus-greater c.args.rest.now c.requires.some_bytes c.requires.first (sym c.byte_at-second.ensures ∙ c.if-second-eq62.true)

pub returns-else-second-eq62 : goal.returns-else-second-eq62
returns-else-second-eq62 c = c.sign-else-second-eq62.ensures ∙ minus-alone c.args.rest.now c.requires.some_bytes c.requires.first (λ e. c.if-second-eq45.false (c.byte_at-second.ensures ∙ e)) (λ e. c.if-second-eq62.false (c.byte_at-second.ensures ∙ e))

pub line_comment-requires : goal.line_comment-requires
line_comment-requires c = stands c.args.rest.now 45 (sym c.byte_at-second.ensures ∙ c.if-second-eq45.true) (omega arith)

pub returns-then-second-eq45 : goal.returns-then-second-eq45
returns-then-second-eq45 c =
    let there = sym c.byte_at-second.ensures ∙ c.if-second-eq45.true in
    c.line_comment.ensures ∙ dash-line c.args.rest.now (stands c.args.rest.now 45 there (omega arith)) c.requires.first there
