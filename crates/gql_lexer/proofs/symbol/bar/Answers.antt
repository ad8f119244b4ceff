use Rattle.std.proofs.Common.{◌∙◌, sym}
use Rattle.gql_lexer.proofs.SymbolLemmas.{bar-bar, bar-plus-bar, bar-plus, bar-alone}
use Rattle.gql_lexer.proofs.symbol.bar.Goals as goal

pub returns-then-second-eq124 : goal.returns-then-second-eq124
returns-then-second-eq124 c = c.sign.ensures ∙ bar-bar c.args.rest.now c.requires.some_bytes c.requires.first (sym c.byte_at-second.ensures ∙ c.if-second-eq124.true)

pub returns-then-byte_at-eq124 : goal.returns-then-byte_at-eq124
returns-then-byte_at-eq124 c = c.sign-then-byte_at-eq124.ensures ∙ bar-plus-bar c.args.rest.now c.requires.some_bytes c.requires.first (sym c.byte_at-second.ensures ∙ c.if-second-eq43.true) (sym c.byte_at.ensures ∙ c.if-byte_at-eq124.true)

pub returns-else-byte_at-eq124 : goal.returns-else-byte_at-eq124
returns-else-byte_at-eq124 c = c.sign-else-byte_at-eq124.ensures ∙ bar-plus c.args.rest.now c.requires.some_bytes c.requires.first (sym c.byte_at-second.ensures ∙ c.if-second-eq43.true) (λ e. c.if-byte_at-eq124.false (c.byte_at.ensures ∙ e))

pub returns : goal.returns
returns c = c.sign-2.ensures ∙ bar-alone c.args.rest.now c.requires.some_bytes c.requires.first (λ e. c.if-second-eq124.false (c.byte_at-second.ensures ∙ e)) (λ e. c.if-second-eq43.false (c.byte_at-second.ensures ∙ e))
