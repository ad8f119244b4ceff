use Rattle.std.proofs.Common.{◌∙◌, ap, sym, drop, arith}
use Rattle.gql_lexer.specs.Forms.{front}
use Rattle.gql_lexer.proofs.FrontLemmas.{first-of}
use Rattle.gql_lexer.proofs.FrontLemmas.{blank-here, ascii-letters}
use Rattle.gql_lexer.proofs.front.by_first.Goals as goal

pub returns-in-Alone : goal.returns-in-Alone
returns-in-Alone c = c.new.ensures ∙ c.in-Alone.ensures (drop 1 c.args.rest.now) ∙ ap front (sym (first-of c.args.rest.now c.requires))

pub returns-in-Blank : goal.returns-in-Blank
returns-in-Blank c = c.new-in-Blank.ensures ∙ blank-here c.args.rest.now c.requires (omega (arith, c.type_inv.rest 0)) c.in-Blank.ensures

pub returns-in-Letter : goal.returns-in-Letter
returns-in-Letter c =
    c.new-in-Letter.ensures
    ∙ ascii-letters c.args.rest.now c.continue_length.result c.requires (omega (arith, c.type_inv.rest 0)) c.in-Letter.ensures c.continue_length.ensures.value c.continue_length.ensures.bounds.0
