use Rattle.std.proofs.Common.{◌∙◌, sym}
use Rattle.gql_lexer.proofs.SymbolLemmas.{greater-equals, greater-alone}
use Rattle.gql_lexer.proofs.symbol.greater.Goals as goal

pub returns-then-byte_at-eq61 : goal.returns-then-byte_at-eq61
returns-then-byte_at-eq61 c = c.sign.ensures ∙ greater-equals c.args.rest.now c.requires.some_bytes c.requires.first (sym c.byte_at.ensures ∙ c.if-byte_at-eq61.true)

pub returns-else-byte_at-eq61 : goal.returns-else-byte_at-eq61
returns-else-byte_at-eq61 c = c.sign-else-byte_at-eq61.ensures ∙ greater-alone c.args.rest.now c.requires.some_bytes c.requires.first (λ e. c.if-byte_at-eq61.false (c.byte_at.ensures ∙ e))
