-- What the code's scope means.
use Rattle.std.specs.Prelude.{ℕ, zero, suc, List, [], ◌∷◌, ◌++◌, map, Option, Some, None}
use Rattle.gql_values3.specs.Datum.{Datum}
use Rattle.gql_values3.specs.declared.table.ColumnKind.{ColumnKind}
use Rattle.gql_values3.specs.Meaning.{datum_of}
use Rattle.gql_ast.specs.Scope.{Scope as Entries, Entry, row_scope, holds_group}
use Rattle.gql_eval.specs.Bound.{match_scope}
use Rattle.gql_eval.specs.declared.scope.Item.{Item}
use Rattle.gql_eval.specs.declared.scope.Scope.{Scope}

-- a name and the value that it stands for
abbrev pub item_entry : Item → Entry
item_entry i = record { name = i.name.now; is_group = i.is_group; datum = datum_of i.value.now }

-- the entry of the column of a place, where the row has a value for it
abbrev pub column_entry : List (List ℕ × ColumnKind) → List Datum → ℕ → Option Entry
column_entry [] ds i = None
column_entry (c ∷ cs) [] i = None
column_entry (c ∷ cs) (d ∷ ds) zero = Some (record { name = c.0; is_group = holds_group c.1; datum = d })
column_entry (c ∷ cs) (d ∷ ds) (suc i) = column_entry cs ds i

-- the row under its columns, and then the names of a match
unfoldable pub rest_of : Scope → Entries
rest_of s = row_scope s.columns.now (map datum_of s.row.now) ++ match_scope s.names.now s.bound.now

-- the items in front, and then the rest
unfoldable pub scope_of : Scope → Entries
scope_of s = map item_entry s.front.now ++ rest_of s
