use Rattle.std.proofs.Common.{◌∙◌, ◌+◌, ap, sym, arith}
use Rattle.gql_lexer.proofs.SymbolLemmas.{stands, slash-alone}
use Rattle.std.specs.Option.{option_map}
use Rattle.std.proofs.lemmas.List.{take_rest}
use Rattle.gql_lexer.specs.declared.front.Shape.TheVariants.{Gap}
use Rattle.gql_lexer.specs.Forms.{closed}
use Rattle.gql_lexer.proofs.FrontLemmas.{slash-line, slash-block}
use Rattle.gql_lexer.proofs.front.slash.Goals as goal

pub returns : goal.returns
returns c = c.sign.ensures ∙ slash-alone c.args.rest.now c.requires.some_bytes c.requires.first (λ e. c.if-second-eq47.false (c.byte_at-second.ensures ∙ e)) (λ e. c.if-second-eq42.false (c.byte_at-second.ensures ∙ e))

pub line_comment-requires : goal.line_comment-requires
line_comment-requires c = stands c.args.rest.now 47 (sym c.byte_at-second.ensures ∙ c.if-second-eq47.true) (omega arith)

pub returns-then-second-eq47 : goal.returns-then-second-eq47
returns-then-second-eq47 c =
    let there = sym c.byte_at-second.ensures ∙ c.if-second-eq47.true in
    c.line_comment.ensures ∙ slash-line c.args.rest.now (stands c.args.rest.now 47 there (omega arith)) c.requires.first there

pub returns-then-second-eq42 : goal.returns-then-second-eq42
returns-then-second-eq42 c =
    let there = sym c.byte_at-second.ensures ∙ c.if-second-eq42.true in
    c.closed.ensures ∙ ap (λ o. closed Gap (option_map (λ n. n + 4) o) c.args.rest.now) (rw take_rest at c.block_length.ensures.value)
    ∙ slash-block c.args.rest.now (stands c.args.rest.now 42 there (omega arith)) c.requires.first there
