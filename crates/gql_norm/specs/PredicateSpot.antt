-- The predicates of a path pattern, in the order of the text: where each acts, and what it asks. A predicate of an element acts
-- at the element, and a condition in parentheses where these close.
use Rattle.std.specs.Prelude.{ℕ, ◌+◌, List, [], ◌∷◌, ◌++◌, map, Option, Some, None}
use Rattle.std.specs.List.{flat_map}
use Rattle.gql_ast.specs.Tree.{Tree}
use Rattle.gql_ast.specs.Scope.{names_in}
use Rattle.gql_norm.specs.NormalPattern.{Predicate, PropertyIs, Holds, ElementPattern, Part, Node, Edge, Concat, Union, Alt, Quant, Opt, ModeScope, Sides, NoSide, Side}
use Rattle.gql_norm.specs.Places.{size}

-- the place where predicates act, the quantifiers around it, the innermost first, the properties that a map names, and the
-- expressions that are evaluated
pub record PredicateSpot : Type 0 where
  pub place : ℕ
  pub quants : List ℕ
  pub properties : List (List ℕ)
  pub trees : List Tree

-- the expression that a predicate evaluates
abbrev pub tree_in : Predicate → Tree
tree_in (PropertyIs p e) = e
tree_in (Holds e) = e

-- the property that it names, if it stands in a map
abbrev pub property_in : Predicate → List (List ℕ)
property_in (PropertyIs p e) = p ∷ []
property_in (Holds e) = []

-- the expression of a condition, if there is one
abbrev pub trees_in : Option Tree → List Tree
trees_in None = []
trees_in (Some e) = e ∷ []

-- what acts at place a under these quantifiers: the predicates of an element
abbrev pub predicates_of_element : ℕ → List ℕ → ElementPattern → PredicateSpot
predicates_of_element a qs w = record { place = a; quants = qs; properties = flat_map property_in w.predicates; trees = map tree_in w.predicates }

-- the same of a scope that closes: its condition, if it has one
abbrev pub predicates_of_scope : ℕ → List ℕ → Option Tree → PredicateSpot
predicates_of_scope a qs c = record { place = a; quants = qs; properties = []; trees = trees_in c }

-- the names of the expressions
abbrev pub names_of : PredicateSpot → List (List ℕ)
names_of q = flat_map names_in q.trees

-- of a part that is entered at place a under the quantifiers around
unfoldable mutual
  pub predicates_in : Part → ℕ → List ℕ → List PredicateSpot
  predicates_in (Node w) a qs = predicates_of_element a qs w ∷ []
  predicates_in (Edge d w) a qs = predicates_of_element a qs w ∷ []
  predicates_in (Concat p r) a qs = predicates_in p a qs ++ predicates_in r (a + size p) qs
  predicates_in (Union p r) a qs = predicates_in p (a + 1) qs ++ predicates_in r (a + size p + 2) qs
  predicates_in (Alt ss) a qs = predicates_in_sides ss (a + 1) qs
  predicates_in (Quant b l n) a qs = predicates_in b (a + 2) (a ∷ qs)
  predicates_in (Opt b) a qs = predicates_in b (a + 1) qs
  predicates_in (ModeScope m b c) a qs = predicates_in b (a + 1) qs ++ predicates_of_scope (a + size b + 1) qs c ∷ []

  pub predicates_in_sides : Sides → ℕ → List ℕ → List PredicateSpot
  predicates_in_sides NoSide b qs = []
  predicates_in_sides (Side p ss) b qs = predicates_in p b qs ++ predicates_in_sides ss (b + size p + 1) qs
