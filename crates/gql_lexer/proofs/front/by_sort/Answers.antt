use Rattle.std.proofs.Common.{◌∙◌, ap, sym, arith}
use Rattle.gql_lexer.specs.Forms.{form}
use Rattle.gql_lexer.specs.declared.front.Shape.TheVariants.{Digits}
use Rattle.gql_lexer.proofs.FrontLemmas.{digits-there, idle-here}
use Rattle.gql_lexer.proofs.front.by_sort.Goals as goal

pub returns-then-is_ascii_digit : goal.returns-then-is_ascii_digit
returns-then-is_ascii_digit c =
    c.new.ensures ∙ ap (form Digits) c.digits_length.ensures.value
    ∙ digits-there c.args.rest.now c.requires.some_bytes (omega (arith, c.type_inv.rest 0)) (sym c.is_ascii_digit.ensures.value ∙ c.if-is_ascii_digit.true)

pub returns : goal.returns
returns c =
    c.new-2.ensures ∙ idle-here c.args.rest.now c.requires.some_bytes (omega (arith, c.if-first-ge128.false)) c.requires.no_blank c.requires.no_letter c.requires.no_symbol
    (sym c.is_ascii_digit.ensures.value ∙ c.if-is_ascii_digit.false) c.if-first-eq39.false c.if-first-eq34.false c.if-first-eq96.false c.if-first-eq36.false
