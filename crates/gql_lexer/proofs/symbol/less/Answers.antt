use Rattle.std.proofs.Common.{◌∙◌, sym}
use Rattle.gql_lexer.proofs.SymbolLemmas.{less-minus-greater, less-minus, less-tilde, less-greater, less-equals, less-alone}
use Rattle.gql_lexer.proofs.symbol.less.Goals as goal

pub returns-then-byte_at-eq62 : goal.returns-then-byte_at-eq62
returns-then-byte_at-eq62 c = c.sign.ensures ∙ less-minus-greater c.args.rest.now c.requires.some_bytes c.requires.first (sym c.byte_at-second.ensures ∙ c.if-second-eq45.true) (sym c.byte_at.ensures ∙ c.if-byte_at-eq62.true)

pub returns-else-byte_at-eq62 : goal.returns-else-byte_at-eq62
returns-else-byte_at-eq62 c = c.sign-else-byte_at-eq62.ensures ∙ less-minus c.args.rest.now c.requires.some_bytes c.requires.first (sym c.byte_at-second.ensures ∙ c.if-second-eq45.true) (λ e. c.if-byte_at-eq62.false (c.byte_at.ensures ∙ e))

pub returns-then-second-eq126 : goal.returns-then-second-eq126
returns-then-second-eq126 c = c.sign-then-second-eq126.ensures ∙ less-tilde c.args.rest.now c.requires.some_bytes c.requires.first (sym c.byte_at-second.ensures ∙ c.if-second-eq126.true)

pub returns-then-second-eq62 : goal.returns-then-second-eq62
returns-then-second-eq62 c = c.sign-then-second-eq62.ensures ∙ less-greater c.args.rest.now c.requires.some_bytes c.requires.first (sym c.byte_at-second.ensures ∙ c.if-second-eq62.true)

pub returns-then-second-eq61 : goal.returns-then-second-eq61
returns-then-second-eq61 c = c.sign-then-second-eq61.ensures ∙ less-equals c.args.rest.now c.requires.some_bytes c.requires.first (sym c.byte_at-second.ensures ∙ c.if-second-eq61.true)

pub returns : goal.returns
returns c = c.sign-2.ensures ∙ less-alone c.args.rest.now c.requires.some_bytes c.requires.first (λ e. c.if-second-eq45.false (c.byte_at-second.ensures ∙ e)) (λ e. c.if-second-eq126.false (c.byte_at-second.ensures ∙ e)) (λ e. c.if-second-eq62.false (c.byte_at-second.ensures ∙ e)) (λ e. c.if-second-eq61.false (c.byte_at-second.ensures ∙ e))
