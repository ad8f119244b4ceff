use Rattle.std.proofs.Common.{◌∙◌, sym}
use Rattle.gql_lexer.proofs.SymbolLemmas.{colon-colon, colon-alone}
use Rattle.gql_lexer.proofs.symbol.colon.Goals as goal

pub returns-then-byte_at-eq58 : goal.returns-then-byte_at-eq58
returns-then-byte_at-eq58 c = c.sign.ensures ∙ colon-colon c.args.rest.now c.requires.some_bytes c.requires.first (sym c.byte_at.ensures ∙ c.if-byte_at-eq58.true)

pub returns-else-byte_at-eq58 : goal.returns-else-byte_at-eq58
returns-else-byte_at-eq58 c = c.sign-else-byte_at-eq58.ensures ∙ colon-alone c.args.rest.now c.requires.some_bytes c.requires.first (λ e. c.if-byte_at-eq58.false (c.byte_at.ensures ∙ e))
