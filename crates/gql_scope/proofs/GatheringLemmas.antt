-- The names of path patterns gathered by a walk are the columns of the definition. Key idea: a name is a group over all path
-- patterns just where one of its declarations stands under a quantifier.
use Rattle.std.proofs.Common.{◌≡◌, ℕ, Bool, true, false, cond, ◌||◌, List, [], ◌∷◌, ◌++◌, flat_map, Option, Some, None, refl, ap, sym, ◌∙◌, append_assoc}
use Rattle.std.proofs.Math.Bool.{or-false}
use Rattle.std.proofs.lemmas.List.{map-append}
use Rattle.gql_values3.specs.Texts.{same_text}
use Rattle.gql_values3.specs.declared.table.ColumnKind.{ColumnKind}
use Rattle.gql_values3.specs.declared.table.ColumnKind.TheVariants as kind
use Rattle.gql_ast.specs.ClauseColumns.{ColumnList, is_column}
use Rattle.gql_norm.specs.NormalPattern.{Part, Node, Edge, Concat, Union, Alt, Quant, Opt, ModeScope, Sides, NoSide, Side, in_a_row, side_by_side, sides_of, NormalPath}
use Rattle.gql_norm.specs.declared.degree.Degree.{Degree}
use Rattle.gql_norm.specs.declared.degree.Degree.TheVariants.{Singleton, Conditional, Group}
use Rattle.gql_norm.specs.Degree.{beside_all, element_degree, degree_of, degrees_of, is_group}
use Rattle.gql_norm.specs.NewColumns.{of_degree, path_name_column, degree_in_paths, columns_by, new_among}
use Rattle.gql_norm.specs.Machinery.ColumnGrowth.{with_columns, declared_variable, declared_in, declared_in_sides, by_degrees}
use Rattle.gql_norm.proofs.ColumnLemmas.{columns_of_path, with_columns_new}
use Rattle.gql_norm.proofs.KnownDegrees.{known_in_both, degree_known, joint_group, beside_group, optional_group, repeated_group}
use Rattle.gql_scope.specs.Machinery.Gathering.{Gathered, none_yet, with_variable, with_part, with_sides, with_parts, with_path_name, with_path, with_paths, as_group, columns_of}

-- parts in a row, beside each other, and told
pub with_row : (around : Bool) (g : Gathered) (p : Part) (ps : List Part) → with_part around g (in_a_row p ps) ≡ with_parts around g (p ∷ ps)
with_row around g p [] = refl
with_row around g p (r ∷ rs) = with_row around (with_part around g p) r rs

pub with_beside : (around : Bool) (g : Gathered) (p : Part) (ps : List Part) → with_part around g (side_by_side p ps) ≡ with_parts around g (p ∷ ps)
with_beside around g p [] = refl
with_beside around g p (r ∷ rs) = with_beside around (with_part around g p) r rs

pub with_told : (around : Bool) (g : Gathered) (ps : List Part) → with_sides around g (sides_of ps) ≡ with_parts around g ps
with_told around g [] = refl
with_told around g (p ∷ ps) = with_told around (with_part around g p) ps

-- the variables that stand under a quantifier, in a part or around it
abbrev grouped_variable : Bool → ColumnKind → Option (List ℕ) → ColumnList
grouped_variable true k v = declared_variable k v
grouped_variable false k v = []

abbrev mutual
  grouped : Bool → Part → ColumnList
  grouped around (Node w) = grouped_variable around kind.Node w.variable
  grouped around (Edge d w) = grouped_variable around kind.Edge w.variable
  grouped around (Concat p r) = grouped around p ++ grouped around r
  grouped around (Union p r) = grouped around p ++ grouped around r
  grouped around (Alt ss) = grouped_sides around ss
  grouped around (Quant b l n) = grouped true b
  grouped around (Opt b) = grouped around b
  grouped around (ModeScope m b c) = grouped around b

  grouped_sides : Bool → Sides → ColumnList
  grouped_sides around NoSide = []
  grouped_sides around (Side p ss) = grouped around p ++ grouped_sides around ss

mutual
  grouped_all : (p : Part) → grouped true p ≡ declared_in p
  grouped_all (Node w) = refl
  grouped_all (Edge d w) = refl
  grouped_all (Concat p r) = λ i. grouped_all p i ++ grouped_all r i
  grouped_all (Union p r) = λ i. grouped_all p i ++ grouped_all r i
  grouped_all (Alt ss) = grouped_all_sides ss
  grouped_all (Quant b l n) = grouped_all b
  grouped_all (Opt b) = grouped_all b
  grouped_all (ModeScope m b c) = grouped_all b

  grouped_all_sides : (ss : Sides) → grouped_sides true ss ≡ declared_in_sides ss
  grouped_all_sides NoSide = refl
  grouped_all_sides (Side p ss) = λ i. grouped_all p i ++ grouped_all_sides ss i

-- What the walk adds stands behind what it had.
abbrev added : Gathered → ColumnList → ColumnList → Gathered
added g xs ys = record { names = g.names ++ xs; groups = g.groups ++ ys }

no_more : (xs : ColumnList) → xs ≡ xs ++ []
no_more [] = refl
no_more (x ∷ xs) = ap (λ ys. x ∷ ys) (no_more xs)

added_none : (g : Gathered) → g ≡ added g [] []
added_none g = λ i. record { names = no_more g.names i; groups = no_more g.groups i }

added_names : (g : Gathered) (xs : ColumnList) → record { names = g.names ++ xs; groups = g.groups } ≡ added g xs []
added_names g xs = λ i. record { names = g.names ++ xs; groups = no_more g.groups i }

added_both : (g : Gathered) (xs ys vs ws : ColumnList) → added (added g xs ys) vs ws ≡ added g (xs ++ vs) (ys ++ ws)
added_both g xs ys vs ws = λ i. record { names = append_assoc g.names xs vs i; groups = append_assoc g.groups ys ws i }

variable_added : (around : Bool) (g : Gathered) (k : ColumnKind) (v : Option (List ℕ)) → with_variable around g k v ≡ added g (declared_variable k v) (grouped_variable around k v)
variable_added true g k None = added_none g
variable_added false g k None = added_none g
variable_added true g k (Some x) = refl
variable_added false g k (Some x) = added_names g ((x, k) ∷ [])

-- one piece behind another
both_added : (g : Gathered) (f h : Gathered → Gathered) (xs ys vs ws : ColumnList) → ((s : Gathered) → f s ≡ added s xs ys) → ((s : Gathered) → h s ≡ added s vs ws)
    → h (f g) ≡ added g (xs ++ vs) (ys ++ ws)
both_added g f h xs ys vs ws first second = second (f g) ∙ ap (λ s. added s vs ws) (first g) ∙ added_both g xs ys vs ws

mutual
  part_added : (around : Bool) (p : Part) (g : Gathered) → with_part around g p ≡ added g (declared_in p) (grouped around p)
  part_added around (Node w) g = variable_added around g kind.Node w.variable
  part_added around (Edge d w) g = variable_added around g kind.Edge w.variable
  part_added around (Concat p r) g =
      both_added g (λ s. with_part around s p) (λ s. with_part around s r) (declared_in p) (grouped around p) (declared_in r) (grouped around r) (part_added around p) (part_added around r)
  part_added around (Union p r) g =
      both_added g (λ s. with_part around s p) (λ s. with_part around s r) (declared_in p) (grouped around p) (declared_in r) (grouped around r) (part_added around p) (part_added around r)
  part_added around (Alt ss) g = sides_added around ss g
  part_added around (Quant b l n) g = part_added true b g
  part_added around (Opt b) g = part_added around b g
  part_added around (ModeScope m b c) g = part_added around b g

  sides_added : (around : Bool) (ss : Sides) (g : Gathered) → with_sides around g ss ≡ added g (declared_in_sides ss) (grouped_sides around ss)
  sides_added around NoSide g = added_none g
  sides_added around (Side p ss) g =
      both_added g (λ s. with_part around s p) (λ s. with_sides around s ss) (declared_in p) (grouped around p) (declared_in_sides ss) (grouped_sides around ss) (part_added around p) (sides_added around ss)

-- the names of path patterns, and the groups among them
abbrev named_in : NormalPath → ColumnList
named_in p = path_name_column p.name ++ declared_in p.body

abbrev grouped_in : NormalPath → ColumnList
grouped_in p = grouped false p.body

name_added : (g : Gathered) (n : Option (List ℕ)) → with_path_name g n ≡ added g (path_name_column n) []
name_added g None = added_none g
name_added g (Some x) = added_names g ((x, kind.Path) ∷ [])

path_added : (p : NormalPath) (g : Gathered) → with_path g p ≡ added g (named_in p) (grouped_in p)
path_added p g =
    both_added g (λ s. with_path_name s p.name) (λ s. with_part false s p.body) (path_name_column p.name) [] (declared_in p.body) (grouped_in p)
    (λ s. name_added s p.name) (part_added false p.body)

paths_added : (ps : List NormalPath) (g : Gathered) → with_paths g ps ≡ added g (flat_map named_in ps) (flat_map grouped_in ps)
paths_added [] g = added_none g
paths_added (p ∷ ps) g =
    both_added g (λ s. with_path s p) (λ s. with_paths s ps) (named_in p) (grouped_in p) (flat_map named_in ps) (flat_map grouped_in ps) (path_added p) (paths_added ps)

-- It is a group where it stands under a quantifier.
beside_all_group : (o : Option Degree) (os : List (Option Degree)) → is_group (beside_all (o ∷ os)) ≡ (is_group o || is_group (beside_all os))
beside_all_group o [] = sym (or-false (is_group o))
beside_all_group o (p ∷ os) = beside_group o (beside_all (p ∷ os))

element_no_group : (o : Option (List ℕ)) (x : List ℕ) → is_group (element_degree o x) ≡ false
element_no_group None x = refl
element_no_group (Some y) x = by (same_text x y)
  where
    by : (b : Bool) → is_group (cond b (Some Singleton) None) ≡ false
    by true = refl
    by false = refl

mutual
  group_known : (p : Part) (x : List ℕ) → is_group (degree_of p x) ≡ is_column (grouped false p) x
  group_known (Node w) x = element_no_group w.variable x
  group_known (Edge d w) x = element_no_group w.variable x
  group_known (Concat p r) x =
      joint_group (degree_of p x) (degree_of r x)
      ∙ known_in_both (grouped false p) (grouped false r) x (is_group (degree_of p x)) (is_group (degree_of r x)) (group_known p x) (group_known r x)
  group_known (Union p r) x =
      beside_group (degree_of p x) (degree_of r x)
      ∙ known_in_both (grouped false p) (grouped false r) x (is_group (degree_of p x)) (is_group (degree_of r x)) (group_known p x) (group_known r x)
  group_known (Alt ss) x = groups_known ss x
  group_known (Quant b l n) x = repeated_group (degree_of b x) ∙ degree_known b x ∙ ap (λ cs. is_column cs x) (sym (grouped_all b))
  group_known (Opt b) x = optional_group (degree_of b x) ∙ group_known b x
  group_known (ModeScope m b c) x = group_known b x

  groups_known : (ss : Sides) (x : List ℕ) → is_group (beside_all (degrees_of ss x)) ≡ is_column (grouped_sides false ss) x
  groups_known NoSide x = refl
  groups_known (Side p ss) x =
      beside_all_group (degree_of p x) (degrees_of ss x)
      ∙ known_in_both (grouped false p) (grouped_sides false ss) x (is_group (degree_of p x)) (is_group (beside_all (degrees_of ss x))) (group_known p x) (groups_known ss x)

group_in_paths : (ps : List NormalPath) (x : List ℕ) → is_group (degree_in_paths ps x) ≡ is_column (flat_map grouped_in ps) x
group_in_paths [] x = refl
group_in_paths (p ∷ ps) x =
    joint_group (degree_of p.body x) (degree_in_paths ps x)
    ∙ known_in_both (grouped_in p) (flat_map grouped_in ps) x (is_group (degree_of p.body x)) (is_group (degree_in_paths ps x)) (group_known p.body x) (group_in_paths ps x)

-- So what a name holds is told by whether it is among the groups.
of_degree_group : (d : Option Degree) (k : ColumnKind) → of_degree d k ≡ as_group (is_group d) k
of_degree_group None k = refl
of_degree_group (Some Singleton) k = refl
of_degree_group (Some Conditional) k = refl
of_degree_group (Some Group) kind.Plain = refl
of_degree_group (Some Group) kind.Node = refl
of_degree_group (Some Group) kind.Edge = refl
of_degree_group (Some Group) kind.Nodes = refl
of_degree_group (Some Group) kind.Edges = refl
of_degree_group (Some Group) kind.Path = refl

by_groups : (ps : List NormalPath) (names : ColumnList) → columns_of (flat_map grouped_in ps) names ≡ by_degrees ps names
by_groups ps [] = refl
by_groups ps (c ∷ cs) = λ i. (c.0, told i) ∷ by_groups ps cs i
  where
    told : as_group (is_column (flat_map grouped_in ps) c.0) c.1 ≡ of_degree (degree_in_paths ps c.0) c.1
    told = ap (λ b. as_group b c.1) (sym (group_in_paths ps c.0)) ∙ sym (of_degree_group (degree_in_paths ps c.0) c.1)

path_is_one : (d : Option Degree) → of_degree d kind.Path ≡ kind.Path
path_is_one None = refl
path_is_one (Some Singleton) = refl
path_is_one (Some Conditional) = refl
path_is_one (Some Group) = refl

path_name_by_degree : (ps : List NormalPath) (n : Option (List ℕ)) → by_degrees ps (path_name_column n) ≡ path_name_column n
path_name_by_degree ps None = refl
path_name_by_degree ps (Some x) = ap (λ k. (x, k) ∷ []) (path_is_one (degree_in_paths ps x))

path_by_degrees : (all : List NormalPath) (p : NormalPath) → by_degrees all (named_in p) ≡ columns_by (degree_in_paths all) p
path_by_degrees all p =
    map-append (λ (c : List ℕ × ColumnKind). (c.0, of_degree (degree_in_paths all c.0) c.1)) (path_name_column p.name) (declared_in p.body)
    ∙ ap (λ cs. cs ++ by_degrees all (declared_in p.body)) (path_name_by_degree all p.name)
    ∙ sym (columns_of_path all p)

paths_by_degrees : (all ps : List NormalPath) → by_degrees all (flat_map named_in ps) ≡ flat_map (columns_by (degree_in_paths all)) ps
paths_by_degrees all [] = refl
paths_by_degrees all (p ∷ ps) =
    map-append (λ (c : List ℕ × ColumnKind). (c.0, of_degree (degree_in_paths all c.0) c.1)) (named_in p) (flat_map named_in ps)
    ∙ (λ i. path_by_degrees all p i ++ paths_by_degrees all ps i)

gathered : (ps : List NormalPath) → columns_of (with_paths none_yet ps).groups (with_paths none_yet ps).names ≡ flat_map (columns_by (degree_in_paths ps)) ps
gathered ps =
    ap (λ (g : Gathered). columns_of g.groups g.names) (paths_added ps none_yet)
    ∙ by_groups ps (flat_map named_in ps)
    ∙ paths_by_degrees ps ps

pub gathered_columns : (columns : ColumnList) (ps : List NormalPath)
    → with_columns columns (columns_of (with_paths none_yet ps).groups (with_paths none_yet ps).names) ≡ columns ++ new_among columns (flat_map (columns_by (degree_in_paths ps)) ps)
gathered_columns columns ps =
    ap (λ cs. with_columns columns cs) (gathered ps) ∙ with_columns_new columns (flat_map (columns_by (degree_in_paths ps)) ps)
