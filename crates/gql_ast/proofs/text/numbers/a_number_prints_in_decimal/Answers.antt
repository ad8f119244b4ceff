use Rattle.gql_ast.proofs.NumberLemmas.{number_text-decimal}
use Rattle.gql_ast.proofs.text.numbers.a_number_prints_in_decimal.Goals as goal

pub returns : goal.returns
returns c = number_text-decimal
