use Rattle.gql_lexer.proofs.LawLemmas.{open-single, open-double, open-ticked, open-block}
use Rattle.gql_lexer.proofs.laws.what_is_open_is_bad.Goals as goal

pub returns : goal.returns
returns c = record { single = open-single; double = open-double; ticked = open-ticked; block = open-block }
