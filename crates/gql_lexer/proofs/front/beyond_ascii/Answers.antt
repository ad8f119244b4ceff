use Rattle.std.proofs.Common.{◌∙◌, arith}
use Rattle.gql_lexer.proofs.FrontLemmas.{letters-some, letters-none, beyond-letter}
use Rattle.gql_lexer.proofs.front.beyond_ascii.Goals as goal

pub returns-in-Some : goal.returns-in-Some
returns-in-Some c =
    c.new.ensures ∙ letters-some c.args.rest.now c.in-Some.size c.requires.some_bytes (omega (arith, c.type_inv.rest 0)) (beyond-letter _ c.requires.first) c.in-Some.ensures.value c.in-Some.ensures.bounds.0

pub returns-in-None : goal.returns-in-None
returns-in-None c =
    c.new-in-None.ensures ∙ letters-none c.args.rest.now c.requires.some_bytes (omega (arith, c.type_inv.rest 0)) (beyond-letter _ c.requires.first) c.in-None.ensures.value
