-- What stands in a node or an edge of a pattern, as plain data.
use Rattle.std.specs.Prelude.{ℕ, List, Option}
use Rattle.gql_ast.specs.Label.{Label}
use Rattle.gql_ast.specs.Tree.{Tree}

-- what the properties must be, each by its name, or what must hold
pub data ConditionTree : Type 0 where
  properties : List (List ℕ × Tree) → ConditionTree
  holds : Tree → ConditionTree

-- the variable, the labels and the condition, each if it is there
pub record FillerTree : Type 0 where
  pub variable : Option (List ℕ)
  pub labels : Option Label
  pub condition : Option ConditionTree
