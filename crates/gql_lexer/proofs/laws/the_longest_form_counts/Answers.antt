use Rattle.gql_lexer.proofs.LawLemmas.{none-longer, is-a-form}
use Rattle.gql_lexer.proofs.laws.the_longest_form_counts.Goals as goal

pub returns : goal.returns
returns c = record { longest = none-longer; stands = is-a-form }
