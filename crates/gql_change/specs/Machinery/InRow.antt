-- What a prepared part of a clause gives in a row.
use Rattle.std.specs.Prelude.{ℕ, List, [], Result, Ok}
use Rattle.gql_values3.specs.Datum.{Datum}
use Rattle.gql_values3.specs.PropertyGraph.{PropertyGraph}
use Rattle.gql_ast.specs.Meaning.{tree_of}
use Rattle.gql_ast.specs.Scope.{row_scope}
use Rattle.gql_ast.specs.Faults.{◌>>=◌}
use Rattle.gql_ast.specs.Evaluation.{value_of}
use Rattle.gql_ast.specs.ClauseColumns.{ColumnList}
use Rattle.gql_ast.specs.declared.expr.Expr.{Expr}
use Rattle.gql_ast.specs.declared.fault.DataFault.{DataFault}
use Rattle.gql_eval.specs.Preparation.{Preparation}
use Rattle.gql_change.specs.Storing.{stored}

-- over a graph, and in a row
abbrev pub InRow : Type 0 → Type 0
InRow A = PropertyGraph → List Datum → Result A DataFault

-- a property's name, and the expression whose value it gets
pub record NamedPreparation : Type 0 where
  pub name : List ℕ
  pub value : Preparation

-- the property, prepared under columns and with parameters
abbrev pub named_preparation : ColumnList → List (List ℕ × Datum) → List ℕ → Expr → NamedPreparation
named_preparation columns params x e = record { name = x; value = record { columns = columns; names = []; params = params; tree = tree_of e } }

-- the value of an expression
abbrev pub value_in : Preparation → InRow Datum
value_in p g row = value_of g p.params (row_scope p.columns row) p.tree

-- a property that an element may keep
abbrev pub property_in : NamedPreparation → InRow (List ℕ × Datum)
property_in p g row = value_in p.value g row >>= λ d. stored d >>= λ kept. Ok (p.name, kept)
