-- What the names of a match stand for.
use Rattle.std.specs.Prelude.{ℕ, Bool, true, false, List, map, zip}
use Rattle.gql_values3.specs.Datum.{Datum, null, list, node, edge, data_of}
use Rattle.gql_values3.specs.declared.element.Elem.{Elem}
use Rattle.gql_values3.specs.declared.element.Elem.TheVariants as elem
use Rattle.gql_values3.specs.declared.table.Binding.{Binding}
use Rattle.gql_values3.specs.declared.table.Binding.TheVariants as binding
use Rattle.gql_ast.specs.Scope.{Scope, Entry}

-- a node or an edge as a value
abbrev pub elem_datum : Elem → Datum
elem_datum (elem.Node n) = node n.0
elem_datum (elem.Edge e) = edge e.0

-- nothing is NULL, and the elements of a repetition are a list
abbrev pub bound_datum : Binding → Datum
bound_datum binding.Unbound = null
bound_datum (binding.One e) = elem_datum e
bound_datum (binding.Many es) = list (data_of (map elem_datum es))

-- the elements of a repetition are a group
abbrev pub is_bound_group : Binding → Bool
is_bound_group (binding.Many es) = true
is_bound_group _ = false

-- a name with what it stands for, as an entry of a scope
abbrev pub bound_entry : List ℕ × Binding → Entry
bound_entry b = record { name = b.0; is_group = is_bound_group b.1; datum = bound_datum b.1 }

-- the scope of a match
abbrev pub bound_scope : List (List ℕ × Binding) → Scope
bound_scope bs = map bound_entry bs

-- the same where names and what they stand for are two lists; what one of them has no partner for is not seen
abbrev pub match_scope : List (List ℕ) → List Binding → Scope
match_scope ns bs = bound_scope (zip ns bs)
