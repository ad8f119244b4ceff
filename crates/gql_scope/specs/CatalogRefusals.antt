-- Static refusals of statements about graphs and graph types: those of the text of a graph type, and no others.
use Rattle.std.specs.Prelude.{map, Option, None}
use Rattle.std.specs.Option.{option_or}
use Rattle.gql_ast.specs.declared.graph_type.TypeBody.{TypeBody}
use Rattle.gql_ast.specs.declared.refusal.ColumnRef.TheVariants as column
use Rattle.gql_ast.specs.declared.refusal.Refusal.{Refusal}
use Rattle.gql_ast.specs.declared.refusal.Refusal.TheVariants as refusal
use Rattle.gql_ast.specs.declared.statement.CatalogStatement.{CatalogStatement}
use Rattle.gql_ast.specs.declared.statement.CatalogStatement.TheVariants as catalog
use Rattle.gql_expr_checks.specs.Refusals.{refusal_of_first}
use Rattle.gql_type.specs.BodyFaults.{wrong_aliases, repeated_names}

-- E08, an alias that is unknown or declared twice; then E16, a property that stands twice in one element
abbrev pub type_refusal : TypeBody → Option Refusal
type_refusal body =
    option_or (refusal_of_first refusal.Variable (wrong_aliases body)) (refusal_of_first refusal.Column (map column.Property (repeated_names body.elements)))

-- of CREATE GRAPH TYPE, also with IF NOT EXISTS
abbrev pub catalog_refusal : CatalogStatement → Option Refusal
catalog_refusal (catalog.CreateType lenient name body) = type_refusal body
catalog_refusal _ = None
