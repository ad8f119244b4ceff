-- The walk of one name over a pattern, and what it finds: the name's degree, its first place, and the least place at fault.
use Rattle.std.specs.Prelude.{ℕ, ◌+◌, min, nat_lt, Bool, true, false, not, ◌&&◌, ◌||◌, List, [], ◌∷◌, ◌++◌, Option, Some, None, option_map, if◌then◌else◌}
use Rattle.gql_ast.specs.ClauseColumns.{ColumnList, is_column}
use Rattle.gql_values3.specs.declared.table.ColumnKind.{ColumnKind}
use Rattle.gql_expr_checks.specs.Machinery.Knowing.{first_kind}
use Rattle.gql_norm.specs.declared.degree.Degree.{Degree}
use Rattle.gql_norm.specs.declared.degree.Degree.TheVariants.{Singleton, Conditional, Group}
use Rattle.gql_norm.specs.Degree.{element_degree, joint, beside, under_optional}
use Rattle.gql_norm.specs.NormalPattern.{Part, Node, Edge, Concat, Union, Alt, Quant, Opt, ModeScope, Sides, NoSide, Side, NormalPath}
use Rattle.gql_norm.specs.JoinDefects.{Spot, column_degree}
use Rattle.gql_degrees.specs.Machinery.KindWalk.{declared_in_all_paths}

-- the lesser of two places, each if it is there; and the former of two
abbrev pub sooner : Option ℕ → Option ℕ → Option ℕ
sooner None b = b
sooner (Some a) None = Some a
sooner (Some a) (Some b) = Some (min a b)

abbrev pub former : Option ℕ → Option ℕ → Option ℕ
former None b = b
former (Some a) b = Some a

-- which degrees a name has in parts before
pub record Before : Type 0 where
  pub singleton : Bool
  pub conditional : Bool
  pub group : Bool

abbrev pub none_before : Before
none_before = record { singleton = false; conditional = false; group = false }

abbrev pub and_degree : Before → Option Degree → Before
and_degree b None = b
and_degree b (Some Singleton) = record { singleton = true; conditional = b.conditional; group = b.group }
and_degree b (Some Conditional) = record { singleton = b.singleton; conditional = true; group = b.group }
and_degree b (Some Group) = record { singleton = b.singleton; conditional = b.conditional; group = true }

-- what is found in a part: the degree there, the places of the first declaration and of the first fault, and the place behind
pub record Walked : Type 0 where
  pub degree : Option Degree
  pub first : Option ℕ
  pub fault : Option ℕ
  pub behind : ℕ

abbrev pub nothing : ℕ → Walked
nothing a = record { degree = None; first = None; fault = None; behind = a }

abbrev pub lone : Option (List ℕ) → List ℕ → ℕ → Walked
lone v x a = record { degree = element_degree v x; first = option_map (λ (d : Degree). a) (element_degree v x); fault = None; behind = a + 1 }

-- one part and then another, and one beside another
abbrev pub in_turn : Walked → Walked → Walked
in_turn v w = record { degree = joint v.degree w.degree; first = former v.first w.first; fault = sooner v.fault w.fault; behind = w.behind }

abbrev pub side_by : Walked → Walked → Walked
side_by v w = record { degree = beside v.degree w.degree; first = former v.first w.first; fault = sooner v.fault w.fault; behind = w.behind }

-- behind the end of what was opened
abbrev pub closed : Walked → Walked
closed w = record { degree = w.degree; first = w.first; fault = w.fault; behind = w.behind + 1 }

abbrev pub all_group : Walked → Walked
all_group w = record { degree = option_map (λ (d : Degree). Group) w.degree; first = w.first; fault = w.fault; behind = w.behind }

abbrev pub all_optional : Walked → Walked
all_optional w = record { degree = option_map under_optional w.degree; first = w.first; fault = w.fault; behind = w.behind }

-- a place, if the name is at fault
abbrev pub place_if : Bool → Option ℕ → Option ℕ
place_if b place = if b then place else None

module _ (faulty : Degree → Degree → Bool) where
  -- a degree against those before, and against one
  abbrev pub is_behind_fault : Before → Option Degree → Bool
  is_behind_fault b None = false
  is_behind_fault b (Some d) = (b.singleton && faulty Singleton d) || ((b.conditional && faulty Conditional d) || (b.group && faulty Group d))

  abbrev pub are_both_faulty : Option Degree → Option Degree → Bool
  are_both_faulty (Some a) (Some b) = faulty a b
  are_both_faulty _ _ = false

  abbrev pub against : Before → Walked → Walked
  against b w = record { degree = w.degree; first = w.first; fault = sooner w.fault (place_if (is_behind_fault b w.degree) w.first); behind = w.behind }

  -- Of a part that is entered at a place. Parts in a row stand behind those before; within a part nothing stands before.
  abbrev mutual
    pub walked : List ℕ → Part → ℕ → Before → Walked
    walked x (Node w) a b = against b (lone w.variable x a)
    walked x (Edge d w) a b = against b (lone w.variable x a)
    walked x (Concat p r) a b =
        in_turn (against b (walked x p a none_before)) (walked x r (walked x p a none_before).behind (and_degree b (walked x p a none_before).degree))
    walked x (Union p r) a b =
        against b (closed (side_by (walked x p (a + 1) none_before) (walked x r ((walked x p (a + 1) none_before).behind + 1) none_before)))
    walked x (Alt ss) a b = against b (walked_sides x ss (a + 1))
    walked x (Quant c l n) a b = against b (closed (all_group (walked x c (a + 2) none_before)))
    walked x (Opt c) a b = against b (closed (all_optional (walked x c (a + 1) none_before)))
    walked x (ModeScope m c w) a b = against b (closed (walked x c (a + 1) none_before))

    -- of sides whose number is told
    pub walked_sides : List ℕ → Sides → ℕ → Walked
    walked_sides x NoSide a = nothing a
    walked_sides x (Side p NoSide) a = closed (walked x p a none_before)
    walked_sides x (Side p (Side r ss)) a = side_by (closed (walked x p a none_before)) (walked_sides x (Side r ss) (closed (walked x p a none_before)).behind)

  -- of path patterns
  abbrev pub walked_paths : List ℕ → List NormalPath → ℕ → Before → Walked
  walked_paths x [] a b = nothing a
  walked_paths x (p ∷ ps) a b =
      in_turn (against b (walked x p.body a none_before))
      (walked_paths x ps ((walked x p.body a none_before).behind + 1) (and_degree b (walked x p.body a none_before).degree))

  -- with a column
  abbrev pub with_column : Option ColumnKind → Walked → Option ℕ
  with_column k w = sooner w.fault (place_if (are_both_faulty (option_map column_degree k) w.degree) w.first)

  abbrev pub place_of_fault : ColumnList → List NormalPath → List ℕ → Option ℕ
  place_of_fault columns ps x = with_column (first_kind columns x) (walked_paths x ps 0 none_before)

-- names that may be at fault: those declared a second time and those that are columns, each once
abbrev pub suspects : ColumnList → ColumnList → ColumnList → ColumnList → ColumnList
suspects columns seen named [] = named
suspects columns seen named (d ∷ ds) =
    if (is_column seen d.0 || is_column columns d.0) && not (is_column named d.0)
    then suspects columns (seen ++ d ∷ []) (named ++ d ∷ []) ds
    else suspects columns (seen ++ d ∷ []) named ds

-- the name at the least place
abbrev pub sooner_named : Option Spot → Option ℕ → List ℕ → Option Spot
sooner_named best None x = best
sooner_named None (Some a) x = Some (a, x)
sooner_named (Some s) (Some a) x = if nat_lt a s.0 then Some (a, x) else Some s

abbrev pub first_among : (List ℕ → Option ℕ) → Option Spot → ColumnList → Option Spot
first_among place best [] = best
first_among place best (c ∷ cs) = first_among place (sooner_named best (place c.0) c.0) cs

abbrev pub first_joined : (Degree → Degree → Bool) → ColumnList → List NormalPath → Option (List ℕ)
first_joined faulty columns ps =
    option_map (λ (s : Spot). s.1) (first_among (place_of_fault faulty columns ps) None (suspects columns [] [] (declared_in_all_paths ps)))
