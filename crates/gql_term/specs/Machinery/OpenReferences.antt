-- References that cross an unprotected quantifier, told without places: a name is barred where something in front of the
-- reference declares it under such a quantifier that is not around the reference.
use Rattle.std.specs.Prelude.{ℕ, Bool, false, ◌&&◌, ◌||◌, List, [], ◌∷◌, map, find, flat_map, Option, Some, None}
use Rattle.std.specs.List.{list_any}
use Rattle.std.specs.Option.{option_or}
use Rattle.gql_values3.specs.Texts.{same_text}
use Rattle.gql_ast.specs.Scope.{names_in}
use Rattle.gql_ast.specs.Tree.{Tree}
use Rattle.gql_norm.specs.NormalPattern.{ElementPattern, Part, Node, Edge, Concat, Union, Alt, Quant, Opt, ModeScope, Sides, NoSide, Side, NormalPath}
use Rattle.gql_norm.specs.PredicateSpot.{tree_in, trees_in}
use Rattle.gql_norm.specs.Termination.{protects}
use Rattle.gql_term.specs.Machinery.OpenEnds.{is_open}

-- the variable of an element has this name
abbrev pub is_variable : Option (List ℕ) → List ℕ → Bool
is_variable None x = false
is_variable (Some y) x = same_text x y

-- a part declares a name under an unprotected quantifier, whether one is around the part already or not
abbrev mutual
  pub declares_open : Part → Bool → Bool → List ℕ → Bool
  declares_open (Node w) safe under x = under && is_variable w.variable x
  declares_open (Edge d w) safe under x = under && is_variable w.variable x
  declares_open (Concat p r) safe under x = declares_open p safe under x || declares_open r safe under x
  declares_open (Union p r) safe under x = declares_open p safe under x || declares_open r safe under x
  declares_open (Alt ss) safe under x = declares_open_side ss safe under x
  declares_open (Quant b l n) safe under x = declares_open b safe (is_open safe n || under) x
  declares_open (Opt b) safe under x = declares_open b safe under x
  declares_open (ModeScope m b c) safe under x = declares_open b (safe || protects m) under x

  pub declares_open_side : Sides → Bool → Bool → List ℕ → Bool
  declares_open_side NoSide safe under x = false
  declares_open_side (Side p ss) safe under x = declares_open p safe under x || declares_open_side ss safe under x

-- a test of names, and the one behind a part, which bars the names that the part declares under an unprotected quantifier
abbrev pub Barred : Type 0
Barred = List ℕ → Bool

abbrev pub none_barred : Barred
none_barred x = false

abbrev pub barred_behind : Barred → Bool → Part → Barred
barred_behind barred safe p x = barred x || declares_open p safe false x

abbrev pub barred_behind_all : Barred → Bool → List Part → Barred
barred_behind_all barred safe ps x = barred x || list_any (λ p. declares_open p safe false x) ps

-- the names of an element's predicates, and of a condition
abbrev pub names_of_element : ElementPattern → List (List ℕ)
names_of_element w = flat_map names_in (map tree_in w.predicates)

abbrev pub names_of_condition : Option Tree → List (List ℕ)
names_of_condition c = flat_map names_in (trees_in c)

-- the first reference to a name that is barred where it stands
abbrev mutual
  pub first_barred : Part → Bool → Barred → Option (List ℕ)
  first_barred (Node w) safe barred = find barred (names_of_element w)
  first_barred (Edge d w) safe barred = find barred (names_of_element w)
  first_barred (Concat p r) safe barred = option_or (first_barred p safe barred) (first_barred r safe (barred_behind barred safe p))
  first_barred (Union p r) safe barred = option_or (first_barred p safe barred) (first_barred r safe barred)
  first_barred (Alt ss) safe barred = first_barred_side ss safe barred
  first_barred (Quant b l n) safe barred = first_barred b safe barred
  first_barred (Opt b) safe barred = first_barred b safe barred
  first_barred (ModeScope m b c) safe barred =
      option_or (first_barred b (safe || protects m) barred) (find (barred_behind barred (safe || protects m) b) (names_of_condition c))

  pub first_barred_side : Sides → Bool → Barred → Option (List ℕ)
  first_barred_side NoSide safe barred = None
  first_barred_side (Side p ss) safe barred = option_or (first_barred p safe barred) (first_barred_side ss safe barred)

-- of a part in parentheses, which a scope protects or not, and of their condition
abbrev pub scope_barred : Part → Option Tree → Bool → Barred → Option (List ℕ)
scope_barred p c safe barred = option_or (first_barred p safe barred) (find (barred_behind barred safe p) (names_of_condition c))

-- of parts in a row, of parts beside each other, and of path patterns
abbrev pub first_barred_row : List Part → Bool → Barred → Option (List ℕ)
first_barred_row [] safe barred = None
first_barred_row (p ∷ ps) safe barred = option_or (first_barred p safe barred) (first_barred_row ps safe (barred_behind barred safe p))

abbrev pub first_barred_beside : List Part → Bool → Barred → Option (List ℕ)
first_barred_beside [] safe barred = None
first_barred_beside (p ∷ ps) safe barred = option_or (first_barred p safe barred) (first_barred_beside ps safe barred)

abbrev pub first_barred_path : List NormalPath → Option (List ℕ)
first_barred_path [] = None
first_barred_path (p ∷ ps) = option_or (first_barred p.body false none_barred) (first_barred_path ps)
