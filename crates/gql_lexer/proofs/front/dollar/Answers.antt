use Rattle.std.proofs.Common.{◌∙◌, ap, ◌+◌}
use Rattle.std.proofs.lemmas.List.{take_rest}
use Rattle.gql_lexer.specs.Forms.{form}
use Rattle.gql_lexer.proofs.FrontLemmas.{front-dollar, front-dollar_alone}
use Rattle.gql_lexer.proofs.front.dollar.Goals as goal

pub returns-in-Some : goal.returns-in-Some
returns-in-Some c =
    c.new.ensures ∙ ap (λ shape. form shape (c.in-Some.name.size + 1)) c.dollar_shape.ensures
    ∙ front-dollar c.args.rest.now c.in-Some.name c.requires.some_bytes c.requires.first (rw take_rest at c.in-Some.ensures.value)

pub returns-in-None : goal.returns-in-None
returns-in-None c = c.new-in-None.ensures ∙ front-dollar_alone c.args.rest.now c.requires.some_bytes c.requires.first (rw take_rest at c.in-None.ensures.value)
