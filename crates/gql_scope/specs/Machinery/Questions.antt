-- What is asked of the nodes and edges of an INSERT and of their maps, and the first refusal among them in the order of the text.
use Rattle.std.specs.Prelude.{List, [], ◌∷◌, ◌++◌, Option, None}
use Rattle.std.specs.Option.{option_or}
use Rattle.gql_values3.specs.declared.table.ColumnKind.{ColumnKind}
use Rattle.gql_ast.specs.ClauseColumns.{ColumnList}
use Rattle.gql_scope.specs.ColumnFaults.{faults_in_map}
use Rattle.gql_ast.specs.InsertColumns.{Spots, with_variable}
use Rattle.gql_scope.specs.Misuses.{misused_map}
use Rattle.gql_expr_checks.specs.Refusals.{refusal_of_first, misuse_if}
use Rattle.gql_scope.specs.UnknownNames.{misplaced, unknown_in_map}
use Rattle.gql_scope.specs.UnsetParameters.{parameters_of_map}
use Rattle.gql_expr_checks.specs.ExprParameters.{unset}
use Rattle.gql_ast.specs.Endpoints.{wrong_endpoint}
use Rattle.gql_ast.specs.declared.change.Fill.{Fill}
use Rattle.gql_ast.specs.declared.filler.MapItem.{MapItem}
use Rattle.gql_ast.specs.declared.refusal.Refusal.{Refusal}
use Rattle.gql_ast.specs.declared.refusal.Refusal.TheVariants as refusal
use Rattle.gql_scope.specs.declared.insert_maps.MapQuestion.{MapQuestion}
use Rattle.gql_scope.specs.declared.insert_maps.MapQuestion.TheVariants as map_question

-- what is refused of a node or an edge by E08, under the incoming columns and those so far, and by E09
abbrev pub unknown_at : ColumnList → ColumnList → ColumnKind → Fill → Option Refusal
unknown_at incoming columns k f = refusal_of_first refusal.Variable (misplaced columns k f f.variable ++ unknown_in_map incoming f.map)

abbrev pub wrong_at : ColumnList → ColumnKind → Fill → Option Refusal
wrong_at columns k f = refusal_of_first refusal.Kind (wrong_endpoint columns k f.variable)

-- the first under columns that grow by each variable
abbrev pub first_in_spots : (ColumnList → ColumnKind → Fill → Option Refusal) → ColumnList → Spots → Option Refusal
first_in_spots asks columns [] = None
first_in_spots asks columns (s ∷ ss) = option_or (asks columns s.0 s.1) (first_in_spots asks (with_variable columns s.0 s.1.variable) ss)

-- the refusal of a map
abbrev pub map_refusal : MapQuestion → Option (List MapItem) → Option Refusal
map_refusal (map_question.Misuse scope) m = misuse_if (misused_map scope.now m)
map_refusal map_question.Repeated m = refusal_of_first refusal.Column (faults_in_map m)
map_refusal (map_question.Parameter params) m = refusal_of_first refusal.Parameter (unset params.now (parameters_of_map m))

-- the first among the maps
abbrev pub first_in_maps : MapQuestion → Spots → Option Refusal
first_in_maps q [] = None
first_in_maps q (s ∷ ss) = option_or (map_refusal q s.1.map) (first_in_maps q ss)
