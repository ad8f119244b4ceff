use Rattle.std.proofs.Common.{◌∙◌, sym}
use Rattle.unicode_ident.specs.Ident.{is_xid_continue}
use Rattle.gql_lexer.proofs.LengthLemmas.{first-passes, first-fails, first-missing, first-bounds}
use Rattle.gql_lexer.proofs.lengths.continuing.Goals as goal

pub returns-then-is_xid_continue-clause-value : goal.returns-then-is_xid_continue-clause-value
returns-then-is_xid_continue-clause-value c =
    first-passes is_xid_continue c.args.rest.now c.in-Some-default.first c.decode.result.1 (sym c.in-Some-default.is-0 ∙ c.decode.ensures.char) c.decode.ensures.size (sym c.is_xid_continue.ensures.value ∙ c.if-is_xid_continue.true)

pub returns-then-is_xid_continue-clause-bounds : goal.returns-then-is_xid_continue-clause-bounds
returns-then-is_xid_continue-clause-bounds c =
    (first-bounds c.args.rest.now c.in-Some-default.first c.decode.result.1 (sym c.in-Some-default.is-0 ∙ c.decode.ensures.char) c.decode.ensures.size)

pub returns-else-is_xid_continue-clause-value : goal.returns-else-is_xid_continue-clause-value
returns-else-is_xid_continue-clause-value c =
    first-fails is_xid_continue c.args.rest.now c.in-Some-default.first (sym c.in-Some-default.is-0 ∙ c.decode.ensures.char) (sym c.is_xid_continue.ensures.value ∙ c.if-is_xid_continue.false)

pub returns-in-None-default-clause-value : goal.returns-in-None-default-clause-value
returns-in-None-default-clause-value c = first-missing is_xid_continue c.args.rest.now (sym c.in-None-default.is-0 ∙ c.decode.ensures.char)
