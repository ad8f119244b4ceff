-- Clauses that change data, and the last clause of a query.
use Rattle.std.specs.Prelude.{Bool, true, false, List, [], ◌∷◌}
use Rattle.gql_ast.specs.declared.clause.Clause.{Clause}
use Rattle.gql_ast.specs.declared.clause.Clause.TheVariants as clause

-- the clause changes data
abbrev pub is_change : Clause → Bool
is_change (clause.Change c) = true
is_change _ = false

-- the last clause changes data
abbrev pub ends_in_change : List Clause → Bool
ends_in_change [] = false
ends_in_change (c ∷ []) = is_change c
ends_in_change (c ∷ d ∷ cs) = ends_in_change (d ∷ cs)
