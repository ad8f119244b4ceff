use Rattle.std.proofs.Common.{sym, subst, Some, List, ℕ}
use Rattle.gql_lexer.specs.declared.front.Shape.{Shape}
use Rattle.gql_lexer.specs.Lexemes.{name_or_word, lexeme_of}
use Rattle.gql_lexer.specs.Gives.{Gives}
use Rattle.gql_lexer.proofs.lexeme.meaning.Goals as goal

pub returns-in-Plain : goal.returns-in-Plain
returns-in-Plain c =
    let P : List ℕ → Type 0 = λ text. Gives c.plain.result (Some (name_or_word text)) in
    let Q : Shape → Type 0 = λ shape. Gives c.plain.result (lexeme_of shape c.args.bytes.now) in
    subst Q (sym c.in-Plain.is) (subst P c.as_text.ensures c.plain.ensures)
