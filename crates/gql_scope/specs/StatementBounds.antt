-- E05 BOUNDS of a statement: the numbers at fault in the patterns of its MATCH clauses, in the order of the text. It is asked
-- before all other codes that stand in this crate, and before the graph is looked for.
use Rattle.std.specs.Prelude.{ℕ, ℤ, List, [], Option, None, option_map}
use Rattle.std.specs.List.{flat_map}
use Rattle.gql_ast.specs.declared.clause.Clause.{Clause}
use Rattle.gql_ast.specs.declared.clause.Clause.TheVariants as clause
use Rattle.gql_ast.specs.declared.statement.Statement.{Statement}
use Rattle.gql_ast.specs.declared.statement.Statement.TheVariants as statement
use Rattle.gql_expr_checks.specs.First.{first}
use Rattle.gql_norm.specs.NormalForm.{normal_form}
use Rattle.gql_norm.specs.Bounds.{bounds_at_fault}
use Rattle.gql_degrees.specs.FirstFaults.{told_number}

-- of a clause: none but MATCH has bounds
abbrev pub bounds_in_clause : Clause → List ℕ
bounds_in_clause (clause.Match m) = bounds_at_fault (normal_form m.pattern)
bounds_in_clause _ = []

-- the first of them, as it is told
abbrev pub first_bound : List Clause → Option ℤ
first_bound cs = option_map told_number (first (flat_map bounds_in_clause cs))

-- of a statement: none but a query has a MATCH
abbrev pub bound_of_statement : Statement → Option ℤ
bound_of_statement (statement.Query q) = first_bound q.clauses
bound_of_statement _ = None
