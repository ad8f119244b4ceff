use Rattle.std.proofs.Common.{◌∙◌, arith}
use Rattle.gql_lexer.proofs.LengthLemmas.{ascii-stop}
use Rattle.gql_lexer.proofs.lengths.continue_length.Goals as goal

pub returns-then-at-rest-clause-value : goal.returns-then-at-rest-clause-value
returns-then-at-rest-clause-value c =
    ascii-stop c.args.rest.now c.ascii_end-at.result c.ascii_end-at.ensures.bounds.1 (λ h. absurd (omega (arith, h, c.if-at-rest.true))) ∙ c.ascii_end-at.ensures.value

pub returns-then-rest-at-lt128-clause-value : goal.returns-then-rest-at-lt128-clause-value
returns-then-rest-at-lt128-clause-value c =
    ascii-stop c.args.rest.now c.ascii_end-at.result c.ascii_end-at.ensures.bounds.1 (λ h. (c.if-rest-at-lt128.true, c.ascii_end-at.ensures.ends h)) ∙ c.ascii_end-at.ensures.value
