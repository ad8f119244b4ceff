-- The least or the greatest of data, as the end of the total order says that is asked for.
use Rattle.std.specs.Prelude.{List}
use Rattle.gql_values3.specs.Datum.{Datum}
use Rattle.gql_ast.specs.Aggregates.{lesser, greater, least_of, greatest_of, least, greatest}
use Rattle.gql_eval.specs.declared.aggregates.Extreme.{Extreme}
use Rattle.gql_eval.specs.declared.aggregates.Extreme.TheVariants as extreme

-- of two; the first where they are equal
abbrev pub further : Extreme → Datum → Datum → Datum
further extreme.Least d e = lesser d e
further extreme.Greatest d e = greater d e

-- of one and others
abbrev pub furthest_of : Extreme → Datum → List Datum → Datum
furthest_of extreme.Least d ds = least_of d ds
furthest_of extreme.Greatest d ds = greatest_of d ds

-- of all; NULL of nothing
abbrev pub extreme_of : Extreme → List Datum → Datum
extreme_of extreme.Least ds = least ds
extreme_of extreme.Greatest ds = greatest ds
