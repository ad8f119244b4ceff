-- Degrees of the variables of a path pattern: how many elements a match has under a name.
use Rattle.std.specs.Prelude.{ℕ, Bool, true, false, List, [], ◌∷◌, Option, Some, None, option_map, if◌then◌else◌}
use Rattle.gql_values3.specs.Texts.{same_text}
use Rattle.gql_norm.specs.declared.degree.Degree.{Degree}
use Rattle.gql_norm.specs.declared.degree.Degree.TheVariants.{Singleton, Conditional, Group}
use Rattle.gql_norm.specs.NormalPattern.{Part, Node, Edge, Concat, Union, Alt, Quant, Opt, ModeScope, Sides, NoSide, Side}

-- of two declarations in a row the wider counts; none but singletons may stand so
abbrev pub wider : Degree → Degree → Degree
wider Group b = Group
wider a Group = Group
wider Conditional b = Conditional
wider Singleton b = b

-- the same, where either part may not declare the name
abbrev pub joint : Option Degree → Option Degree → Option Degree
joint None b = b
joint a None = a
joint (Some a) (Some b) = Some (wider a b)

-- beside each other: group if it is group in some side, else singleton if it is singleton in every side, else conditional
abbrev pub beside : Option Degree → Option Degree → Option Degree
beside None None = None
beside (Some Group) b = Some Group
beside a (Some Group) = Some Group
beside (Some Singleton) (Some Singleton) = Some Singleton
beside a b = Some Conditional

-- the same of the sides of a `|+|`
abbrev pub beside_all : List (Option Degree) → Option Degree
beside_all [] = None
beside_all (d ∷ []) = d
beside_all (d ∷ e ∷ ds) = beside d (beside_all (e ∷ ds))

-- under `?` a singleton becomes conditional, and under a quantifier every variable becomes group
abbrev pub under_optional : Degree → Degree
under_optional Singleton = Conditional
under_optional d = d

-- an element declares its own variable alone, as a singleton
abbrev pub element_degree : Option (List ℕ) → List ℕ → Option Degree
element_degree None x = None
element_degree (Some y) x = if same_text x y then Some Singleton else None

-- the degree of a name in a part; None where the part does not declare it
abbrev mutual
  pub degree_of : Part → List ℕ → Option Degree
  degree_of (Node w) x = element_degree w.variable x
  degree_of (Edge d w) x = element_degree w.variable x
  degree_of (Concat p r) x = joint (degree_of p x) (degree_of r x)
  degree_of (Union p r) x = beside (degree_of p x) (degree_of r x)
  degree_of (Alt ss) x = beside_all (degrees_of ss x)
  degree_of (Quant b l n) x = option_map (λ (d : Degree). Group) (degree_of b x)
  degree_of (Opt b) x = option_map under_optional (degree_of b x)
  degree_of (ModeScope m b c) x = degree_of b x

  pub degrees_of : Sides → List ℕ → List (Option Degree)
  degrees_of NoSide x = []
  degrees_of (Side p ss) x = degree_of p x ∷ degrees_of ss x

-- the name is declared, and a match has just one element under it
abbrev pub is_singleton : Option Degree → Bool
is_singleton (Some Singleton) = true
is_singleton _ = false

-- the name is declared, and a match has a list of elements under it
abbrev pub is_group : Option Degree → Bool
is_group (Some Group) = true
is_group _ = false
