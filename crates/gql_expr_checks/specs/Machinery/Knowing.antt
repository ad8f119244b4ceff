-- When a map knows a list of columns: each name by what its first column holds.
use Rattle.std.specs.Prelude.{◌≡◌, ℕ, List, find, option_map, Option}
use Rattle.gql_values3.specs.Texts.{same_text}
use Rattle.gql_values3.specs.declared.table.ColumnKind.{ColumnKind}
use Rattle.gql_ast.specs.ClauseColumns.{ColumnList}

-- what the first column of a name holds, where there is one
abbrev pub first_kind : ColumnList → List ℕ → Option ColumnKind
first_kind columns x = option_map (λ (c : List ℕ × ColumnKind). c.1) (find (λ (c : List ℕ × ColumnKind). same_text x c.0) columns)

-- a look-up finds what the first column of a name holds
abbrev pub Knows : (List ℕ → Option ColumnKind) → ColumnList → Type 0
Knows look_up columns = (x : List ℕ) → look_up x ≡ first_kind columns x
