-- OR or XOR of two truths.
use Rattle.gql_values3.specs.Truth.{either, one_of}
use Rattle.gql_values3.specs.declared.truth.Truth.{Truth}
use Rattle.gql_ast.specs.declared.words.Operator.{Operator}
use Rattle.gql_ast.specs.declared.words.Operator.TheVariants as operator

abbrev pub joined_truth : Operator → Truth → Truth → Truth
joined_truth operator.Xor t u = one_of t u
joined_truth _ t u = either t u
