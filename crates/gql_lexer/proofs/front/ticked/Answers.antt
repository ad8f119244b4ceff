use Rattle.std.proofs.Common.{◌∙◌}
use Rattle.gql_lexer.proofs.FrontLemmas.{front-ticked}
use Rattle.gql_lexer.proofs.front.ticked.Goals as goal

pub returns : goal.returns
returns c = c.between.ensures ∙ front-ticked c.args.rest.now c.requires.some_bytes c.requires.first
