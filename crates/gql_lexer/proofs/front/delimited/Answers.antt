use Rattle.std.proofs.Common.{◌∙◌, ap, Some, arith}
use Rattle.std.proofs.lemmas.Bool.Decides.{nat_tests}
use Rattle.gql_lexer.proofs.FrontLemmas.{ticked-here}
use Rattle.gql_lexer.proofs.FormLemmas.{ticked-within}
use Rattle.gql_lexer.proofs.front.delimited.Goals as goal

pub returns-then-rest-eq96-clause-value : goal.returns-then-rest-eq96-clause-value
returns-then-rest-eq96-clause-value c = ap Some c.between.ensures ∙ ticked-here c.args.rest.now (grind (arith, nat_tests)) c.if-rest-eq96.true

pub returns-then-rest-eq96-clause-bounds : goal.returns-then-rest-eq96-clause-bounds
returns-then-rest-eq96-clause-bounds c =
    ticked-within c.args.rest.now c.between.result (ap Some c.between.ensures ∙ ticked-here c.args.rest.now (grind (arith, nat_tests)) c.if-rest-eq96.true)
