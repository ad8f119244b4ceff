use Rattle.std.proofs.Common.{◌∙◌, sym}
use Rattle.gql_lexer.specs.Lengths.{may_start}
use Rattle.gql_lexer.proofs.LengthLemmas.{first-passes, first-fails, first-missing, first-bounds}
use Rattle.gql_lexer.proofs.lengths.starting.Goals as goal

pub returns-then-may_start-clause-value : goal.returns-then-may_start-clause-value
returns-then-may_start-clause-value c =
    first-passes may_start c.args.rest.now c.in-Some-default.first c.decode.result.1 (sym c.in-Some-default.is-0 ∙ c.decode.ensures.char) c.decode.ensures.size (sym c.may_start.ensures ∙ c.if-may_start.true)

pub returns-then-may_start-clause-bounds : goal.returns-then-may_start-clause-bounds
returns-then-may_start-clause-bounds c =
    (first-bounds c.args.rest.now c.in-Some-default.first c.decode.result.1 (sym c.in-Some-default.is-0 ∙ c.decode.ensures.char) c.decode.ensures.size)

pub returns-else-may_start-clause-value : goal.returns-else-may_start-clause-value
returns-else-may_start-clause-value c =
    first-fails may_start c.args.rest.now c.in-Some-default.first (sym c.in-Some-default.is-0 ∙ c.decode.ensures.char) (sym c.may_start.ensures ∙ c.if-may_start.false)

pub returns-in-None-default-clause-value : goal.returns-in-None-default-clause-value
returns-in-None-default-clause-value c = first-missing may_start c.args.rest.now (sym c.in-None-default.is-0 ∙ c.decode.ensures.char)
