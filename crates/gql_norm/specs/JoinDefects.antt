-- E10 GROUP_JOIN and E11 COND_JOIN: a name is declared in two parts of a concatenation, in two path patterns, or in a pattern
-- and as an incoming column, and one of these is a group; or none is, and one in the pattern is conditional. Here stand the
-- names at fault with their places: the first declaration in the later part, or the first one of the whole pattern where
-- the other declaration is a column.
use Rattle.std.specs.Prelude.{ℕ, suc, ◌+◌, Bool, true, false, nat_le, List, [], ◌∷◌, ◌++◌, find, Option, Some, None, option_map, if◌then◌else◌}
use Rattle.std.specs.List.{flat_map}
use Rattle.gql_values3.specs.Texts.{same_text}
use Rattle.gql_values3.specs.declared.table.ColumnKind.{ColumnKind}
use Rattle.gql_ast.specs.Scope.{holds_group}
use Rattle.gql_ast.specs.ClauseColumns.{ColumnList}
use Rattle.gql_norm.specs.NormalPattern.{Part, Node, Edge, Concat, Union, Alt, Quant, Opt, ModeScope, Sides, NoSide, Side, NormalPath, NormalPattern}
use Rattle.gql_norm.specs.Places.{size}
use Rattle.gql_norm.specs.Declaration.{Declared, all_declared}
use Rattle.gql_norm.specs.declared.degree.Degree.{Degree}
use Rattle.gql_norm.specs.declared.degree.Degree.TheVariants.{Singleton, Group}
use Rattle.gql_norm.specs.Degree.{degree_of}
use Rattle.gql_norm.specs.NewColumns.{degree_in_paths}

-- of two degrees one is group, which E10 refuses
abbrev pub has_group : Degree → Degree → Bool
has_group Group b = true
has_group a Group = true
has_group a b = false

-- none is group, and one is conditional, which E11 refuses
abbrev pub has_conditional : Degree → Degree → Bool
has_conditional Group b = false
has_conditional a Group = false
has_conditional Singleton Singleton = false
has_conditional a b = true

-- a name at fault and its place, the places of a later path pattern being greater than those of the ones before
abbrev pub Spot : Type 0
Spot = ℕ × List ℕ

-- the place of a name's first declaration
abbrev pub first_place : List ℕ → List Declared → Option ℕ
first_place x ds = option_map (λ (d : Declared). d.place) (find (λ (d : Declared). same_text x d.name) ds)

-- all declarations of path patterns, the first of which is entered at place a
abbrev pub declared_in_paths : List NormalPath → ℕ → List Declared
declared_in_paths [] a = []
declared_in_paths (p ∷ ps) a = all_declared p.body a ++ declared_in_paths ps (a + suc (size p.body))

-- a column counts as a group or a singleton
abbrev pub column_degree : ColumnKind → Degree
column_degree k = if holds_group k then Group else Singleton

-- the degree of the column of this name, if there is one
abbrev pub degree_of_column : ColumnList → List ℕ → Option Degree
degree_of_column columns x = option_map (λ (c : List ℕ × ColumnKind). column_degree c.1) (find (λ (c : List ℕ × ColumnKind). same_text x c.0) columns)

module _ (faulty : Degree → Degree → Bool) where
  -- a name that is declared with these two degrees
  abbrev pub spot_by : List ℕ → Option Degree → Option Degree → Option ℕ → List Spot
  spot_by x (Some a) (Some b) (Some place) = if faulty a b then (place, x) ∷ [] else []
  spot_by x _ _ _ = []

  -- a name with the degree that it has elsewhere, against a part that is entered at place a
  abbrev pub spot_in : List ℕ → Option Degree → Part → ℕ → List Spot
  spot_in x d p a = spot_by x d (degree_of p x) (first_place x (all_declared p a))

  -- the same against each of the parts in a row
  abbrev pub spots_in_row : List ℕ → Option Degree → Part → ℕ → List Spot
  spots_in_row x d (Concat p r) a = spot_in x d p a ++ spots_in_row x d r (a + size p)
  spots_in_row x d p a = spot_in x d p a

  abbrev mutual
    -- the names at fault that are declared in two parts of a concatenation, wherever it stands in a part that is entered at place a
    pub spots_in : Part → ℕ → List Spot
    spots_in (Node w) a = []
    spots_in (Edge d w) a = []
    spots_in (Concat p r) a =
        spots_in p a ++ spots_in r (a + size p)
        ++ flat_map (λ (d : Declared). spots_in_row d.name (degree_of p d.name) r (a + size p)) (all_declared p a)
    spots_in (Union p r) a = spots_in p (a + 1) ++ spots_in r (a + size p + 2)
    spots_in (Alt ss) a = spots_in_sides ss (a + 1)
    spots_in (Quant b l n) a = spots_in b (a + 2)
    spots_in (Opt b) a = spots_in b (a + 1)
    spots_in (ModeScope m b c) a = spots_in b (a + 1)

    pub spots_in_sides : Sides → ℕ → List Spot
    spots_in_sides NoSide b = []
    spots_in_sides (Side p ss) b = spots_in p b ++ spots_in_sides ss (b + size p + 1)

  -- a name of one path pattern against the later ones, the first of which is entered at place a
  abbrev pub spots_in_later : List ℕ → Option Degree → List NormalPath → ℕ → List Spot
  spots_in_later x d [] a = []
  spots_in_later x d (p ∷ ps) a = spot_in x d p.body a ++ spots_in_later x d ps (a + suc (size p.body))

  -- of path patterns by themselves, and each against the later ones
  abbrev pub spots_in_paths : List NormalPath → ℕ → List Spot
  spots_in_paths [] a = []
  spots_in_paths (p ∷ ps) a =
      spots_in p.body a
      ++ flat_map (λ (d : Declared). spots_in_later d.name (degree_of p.body d.name) ps (a + suc (size p.body))) (all_declared p.body a)
      ++ spots_in_paths ps (a + suc (size p.body))

  -- of a name of the pattern as a whole, against a column
  abbrev pub spots_at_columns : ColumnList → List NormalPath → List Spot
  spots_at_columns columns ps =
      flat_map (λ (d : Declared). spot_by d.name (degree_of_column columns d.name) (degree_in_paths ps d.name) (first_place d.name (declared_in_paths ps 0))) (declared_in_paths ps 0)

-- the name at the least place
abbrev pub earlier : Spot → Spot → Spot
earlier s t = if nat_le s.0 t.0 then s else t

-- the same of a list, if it has any
abbrev pub earliest : List Spot → Option Spot
earliest [] = None
earliest (s ∷ ss) = Some (least s ss)
  where
    least : Spot → List Spot → Spot
    least t [] = t
    least t (u ∷ us) = least (earlier t u) us

-- the name that E10 refuses in a MATCH over these columns, if there is one
abbrev pub joined_group : ColumnList → NormalPattern → Option (List ℕ)
joined_group columns p = option_map (λ (s : Spot). s.1) (earliest (spots_in_paths has_group p.paths 0 ++ spots_at_columns has_group columns p.paths))

-- the same of the name that E11 refuses
abbrev pub joined_conditional : ColumnList → NormalPattern → Option (List ℕ)
joined_conditional columns p = option_map (λ (s : Spot). s.1) (earliest (spots_in_paths has_conditional p.paths 0 ++ spots_at_columns has_conditional columns p.paths))
