use Rattle.std.proofs.Common.{◌∙◌, sym, subst, Option, List, ℕ}
use Rattle.gql_lexer.specs.Gives.{Gives}
use Rattle.gql_lexer.proofs.QuoteLemmas.{plain-text}
use Rattle.gql_lexer.proofs.quotes.undone.Goals as goal

pub returns-then-is_plain : goal.returns-then-is_plain
returns-then-is_plain c =
    let P : Option (List ℕ) → Type 0 = Gives c.copied.result in
    subst P (plain-text c.args.quote c.args.text.now c.utf8.text (sym c.is_plain.ensures ∙ c.if-is_plain.true)) c.copied.ensures
