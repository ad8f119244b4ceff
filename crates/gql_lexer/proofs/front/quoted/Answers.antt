use Rattle.std.proofs.Common.{◌∙◌}
use Rattle.gql_lexer.proofs.FrontLemmas.{front-quoted}
use Rattle.gql_lexer.proofs.front.quoted.Goals as goal

pub returns : goal.returns
returns c = c.between.ensures ∙ front-quoted c.args.rest.now c.requires.some_bytes c.requires.first
