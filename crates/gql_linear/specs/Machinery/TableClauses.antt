-- Which clauses act over tables alone.
use Rattle.std.specs.Prelude.{Bool, true, false}
use Rattle.gql_ast.specs.declared.clause.Clause.{Clause}
use Rattle.gql_ast.specs.declared.clause.Clause.TheVariants as clause

-- all but MATCH and those that change data
abbrev pub is_over_tables : Clause → Bool
is_over_tables (clause.Match m) = false
is_over_tables (clause.Change c) = false
is_over_tables _ = true
