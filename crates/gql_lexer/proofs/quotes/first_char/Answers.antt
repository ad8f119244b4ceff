use Rattle.std.proofs.Common.{◌∙◌, ◌∷◌, ◌++◌, length, sym, ap}
use Rattle.std.specs.Str.{chars}
use Rattle.std.specs.Char.{encode_utf8}
use Rattle.std.proofs.lemmas.Str.{chars_past_char}
use Rattle.gql_lexer.proofs.QuoteLemmas.{shorter, chars-empty}
use Rattle.gql_lexer.proofs.quotes.first_char.Goals as goal

pub returns-in-Some : goal.returns-in-Some
returns-in-Some c =
    let cut = sym c.chars-rest.ensures.rest ∙ c.in-Some.ensures.steps.0 in
    let text = chars_past_char c.args.text.now c.next.new.self.rest.now c.in-Some.first c.utf8.text cut in
    (text ∙ ap (λ r. c.in-Some.first ∷ chars r) (sym c.as_str.ensures), shorter c.args.text.now c.as_str.result.now c.in-Some.first (cut ∙ ap (λ r. encode_utf8 c.in-Some.first ++ r) (sym c.as_str.ensures)), c.as_str.utf8)

pub returns-in-None : goal.returns-in-None
returns-in-None c = chars-empty c.args.text.now (sym (ap length c.chars-rest.ensures.rest) ∙ c.in-None.ensures.steps.0.0)
