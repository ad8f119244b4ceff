-- What is refused of the text of a graph type: aliases that are unknown or declared twice (E08), names of properties that stand twice (E16).
use Rattle.std.specs.Prelude.{ℕ, List, [], ◌∷◌, ◌++◌, map, Option, Some, None, if◌then◌else◌}
use Rattle.gql_ast.specs.declared.graph_type.TypeProperty.{TypeProperty}
use Rattle.gql_ast.specs.declared.graph_type.ElementBody.{ElementBody}
use Rattle.gql_ast.specs.declared.graph_type.TypeElement.{TypeElement}
use Rattle.gql_ast.specs.declared.graph_type.TypeElement.TheVariants as element
use Rattle.gql_ast.specs.declared.graph_type.TypeBody.{TypeBody}
use Rattle.gql_type.specs.Conformance.{contains_name}

-- the names of such as stand before, or of the same list before
abbrev pub repeated : List (List ℕ) → List (List ℕ) → List (List ℕ)
repeated before [] = []
repeated before (x ∷ xs) = if contains_name before x then x ∷ repeated before xs else repeated (x ∷ before) xs

-- the alias of a node type
abbrev pub alias_in : TypeElement → List (List ℕ)
alias_in (element.Node (Some alias) body) = alias ∷ []
alias_in (element.Node None body) = []
alias_in (element.Edge first arrow body second) = []

-- the aliases that are declared, in the order of the text
abbrev pub aliases_in : List TypeElement → List (List ℕ)
aliases_in [] = []
aliases_in (e ∷ es) = alias_in e ++ aliases_in es

-- the aliases that an edge type uses, in the order of the text
abbrev pub used_in : TypeElement → List (List ℕ)
used_in (element.Node alias body) = []
used_in (element.Edge first arrow body second) = first ∷ second ∷ []

-- the names that are not among the known ones
abbrev pub unknown : List (List ℕ) → List (List ℕ) → List (List ℕ)
unknown known [] = []
unknown known (x ∷ xs) = if contains_name known x then unknown known xs else x ∷ unknown known xs

-- of elements behind some aliases, those at fault in the order of the text; an alias is known wherever it is declared
abbrev pub aliases_at_fault : List (List ℕ) → List (List ℕ) → List TypeElement → List (List ℕ)
aliases_at_fault known before [] = []
aliases_at_fault known before (e ∷ es) = repeated before (alias_in e) ++ unknown known (used_in e) ++ aliases_at_fault known (alias_in e ++ before) es

-- E08: the first is refused
abbrev pub wrong_aliases : TypeBody → List (List ℕ)
wrong_aliases body = aliases_at_fault (aliases_in body.elements) [] body.elements

-- the labels and properties of a node type or an edge type
abbrev pub content_in : TypeElement → ElementBody
content_in (element.Node alias body) = body
content_in (element.Edge first arrow body second) = body

-- the names of the properties that stand in braces; without braces there are none
abbrev pub names_given : Option (List TypeProperty) → List (List ℕ)
names_given None = []
names_given (Some ps) = map (λ (p : TypeProperty). p.name) ps

-- E16: of the names that stand twice in one element, the first is refused
abbrev pub repeated_names : List TypeElement → List (List ℕ)
repeated_names [] = []
repeated_names (e ∷ es) = repeated [] (names_given (content_in e).properties) ++ repeated_names es

-- the first of some names, where there is one
abbrev pub first_name : List (List ℕ) → Option (List ℕ)
first_name [] = None
first_name (x ∷ xs) = Some x
