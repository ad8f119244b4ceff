use Rattle.std.proofs.Common.{◌∙◌, sym}
use Rattle.gql_lexer.proofs.SymbolLemmas.{tilde-greater, tilde-alone}
use Rattle.gql_lexer.proofs.symbol.tilde.Goals as goal

pub returns-then-byte_at-eq62 : goal.returns-then-byte_at-eq62
returns-then-byte_at-eq62 c = c.sign.ensures ∙ tilde-greater c.args.rest.now c.requires.some_bytes c.requires.first (sym c.byte_at.ensures ∙ c.if-byte_at-eq62.true)

pub returns-else-byte_at-eq62 : goal.returns-else-byte_at-eq62
returns-else-byte_at-eq62 c = c.sign-else-byte_at-eq62.ensures ∙ tilde-alone c.args.rest.now c.requires.some_bytes c.requires.first (λ e. c.if-byte_at-eq62.false (c.byte_at.ensures ∙ e))
