use Rattle.gql_lexer.proofs.FormLemmas.{front-bounds, front-tells}
use Rattle.gql_lexer.proofs.front.longest_form.Goals as goal

pub returns-clause-bounds : goal.returns-clause-bounds
returns-clause-bounds c = front-bounds c.args.rest.now c.by_first.result c.requires c.by_first.ensures

pub returns-clause-tells : goal.returns-clause-tells
returns-clause-tells c = front-tells c.args.rest.now c.by_first.result c.requires c.by_first.ensures
