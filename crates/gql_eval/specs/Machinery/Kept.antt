-- What an aggregate keeps of values that are not NULL.
use Rattle.std.specs.Prelude.{List}
use Rattle.gql_values3.specs.Datum.{Datum}
use Rattle.gql_ast.specs.Aggregates.{distinct}
use Rattle.gql_ast.specs.declared.words.SetQuantifier.{SetQuantifier}
use Rattle.gql_ast.specs.declared.words.SetQuantifier.TheVariants as quantifier

-- DISTINCT drops equal values
abbrev pub kept : SetQuantifier → List Datum → List Datum
kept quantifier.All ds = ds
kept quantifier.Distinct ds = distinct ds
