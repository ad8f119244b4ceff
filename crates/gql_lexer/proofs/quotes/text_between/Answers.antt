use Rattle.std.proofs.Common.{◌∙◌, ap, subst, Option, List, ℕ}
use Rattle.std.specs.Option.{option_map}
use Rattle.std.specs.Str.{chars, encode_utf8_all}
use Rattle.gql_lexer.specs.Quotes.{unescaped}
use Rattle.gql_lexer.specs.Gives.{Gives}
use Rattle.gql_lexer.proofs.QuoteLemmas.{text-utf8, text-no_utf8}
use Rattle.gql_lexer.proofs.quotes.text_between.Goals as goal

pub returns-in-Ok : goal.returns-in-Ok
returns-in-Ok c =
    let P : Option (List ℕ) → Type 0 = Gives c.undone.result in
    subst P (ap (λ t. option_map encode_utf8_all (unescaped c.args.quote 0 (chars t))) c.in-Ok.ensures.cases.0 ∙ text-utf8 c.args.quote c.args.bytes.now c.in-Ok.ensures.cases.1) c.undone.ensures

pub returns-in-Err : goal.returns-in-Err
returns-in-Err c = text-no_utf8 c.args.quote c.args.bytes.now c.in-Err.ensures.cases.0
