-- What a name of known places stands for in a scope, and whether that is a group.
use Rattle.std.specs.Prelude.{ℕ, zero, suc, Bool, false, List, [], ◌∷◌, map, Option, Some, None, option_map, unwrap_or}
use Rattle.gql_values3.specs.Datum.{Datum, null}
use Rattle.gql_values3.specs.Meaning.{datum_of}
use Rattle.gql_values3.specs.declared.table.Binding.{Binding}
use Rattle.gql_values3.specs.declared.table.ColumnKind.{ColumnKind}
use Rattle.gql_ast.specs.Scope.{Entry, entry_of, holds_group}
use Rattle.gql_eval.specs.Bound.{bound_datum, is_bound_group}
use Rattle.gql_eval.specs.Machinery.ScopeMeaning.{item_entry}
use Rattle.gql_eval.specs.declared.places.Places.{Places}
use Rattle.gql_eval.specs.declared.scope.Scope.{Scope}

-- the value of a row at a place, where there is one
abbrev pub value_there : List Datum → Option ℕ → Option Datum
value_there ds None = None
value_there [] (Some i) = None
value_there (d ∷ ds) (Some zero) = Some d
value_there (d ∷ ds) (Some (suc i)) = value_there ds (Some i)

-- an item in front, then a value of the row, then a name of the match
abbrev pub first_held : Option Entry → Option Datum → Datum → Datum
first_held (Some e) o d = e.datum
first_held None (Some v) d = v
first_held None None d = d

-- what stands at a place among what the names of a match stand for, where there is something
abbrev pub binding_there : List Binding → Option ℕ → Option Binding
binding_there bs None = None
binding_there [] (Some i) = None
binding_there (b ∷ bs) (Some zero) = Some b
binding_there (b ∷ bs) (Some (suc i)) = binding_there bs (Some i)

-- its value, or NULL
abbrev pub bound_there : List Binding → Option ℕ → Datum
bound_there bs o = unwrap_or (option_map bound_datum (binding_there bs o)) null

-- what a name of these places stands for
abbrev pub held_at : Scope → Places → List ℕ → Datum
held_at s p x = first_held (entry_of (map item_entry s.front.now) x) (value_there (map datum_of s.row.now) p.column) (bound_there s.bound.now p.bound)

-- an item in front, then a column of the row, then a name of the match
abbrev pub first_group : Option Entry → Option Bool → Bool → Bool
first_group (Some e) o b = e.is_group
first_group None (Some b) c = b
first_group None None c = c

-- whether a column of a place that the row has a value for is a group
abbrev pub column_group : List (List ℕ × ColumnKind) → List Datum → Option ℕ → Option Bool
column_group cs ds None = None
column_group [] ds (Some i) = None
column_group (c ∷ cs) [] (Some i) = None
column_group (c ∷ cs) (d ∷ ds) (Some zero) = Some (holds_group c.1)
column_group (c ∷ cs) (d ∷ ds) (Some (suc i)) = column_group cs ds (Some i)

-- whether what stands at a place among what the names of a match stand for is a group
abbrev pub bound_group : List Binding → Option ℕ → Bool
bound_group bs o = unwrap_or (option_map is_bound_group (binding_there bs o)) false

-- whether a name of these places stands for a group
abbrev pub is_group_at : Scope → Places × List ℕ → Bool
is_group_at s h = first_group (entry_of (map item_entry s.front.now) h.1) (column_group s.columns.now (map datum_of s.row.now) h.0.column) (bound_group s.bound.now h.0.bound)
