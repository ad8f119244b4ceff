-- What an aggregate over rows means that the code found in an expression.
use Rattle.std.specs.Prelude.{true, Option, Some, None}
use Rattle.std.specs.Option.{option_copied}
use Rattle.gql_values3.specs.Datum.{boolean}
use Rattle.gql_ast.specs.Tree.{Tree, constant}
use Rattle.gql_ast.specs.Meaning.{tree_of}
use Rattle.gql_ast.specs.RowAggregates.{RowAggregate}
use Rattle.gql_ast.specs.declared.expr.Expr.{Expr}
use Rattle.gql_table.specs.declared.row_aggregates.AggregateRef.{AggregateRef}

-- the argument; COUNT(*), which has none, counts a value that each row has
abbrev pub argument_meant : Option Expr → Tree
argument_meant None = constant (boolean true)
argument_meant (Some e) = tree_of e

-- the aggregate over rows
abbrev pub aggregate_meant : AggregateRef → RowAggregate
aggregate_meant a = record { makes = a.makes; quantifier = a.quantifier; argument = argument_meant (option_copied a.argument) }
