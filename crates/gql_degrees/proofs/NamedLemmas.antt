-- The names that a part declares, with their places: in the order of the text, each at a place of its own.
use Rattle.std.proofs.Common.{◌≡◌, ℕ, suc, ◌+◌, ◌≤◌, Bool, true, false, ◌||◌, List, [], ◌∷◌, ◌++◌, map, is_some, Option, Some, None, refl, sym, ap, ◌∙◌, arith}
use Rattle.std.proofs.Math.Bool.{or-false}
use Rattle.std.specs.Prelude.{nat_le, option_map, if◌then◌else◌}
use Rattle.std.proofs.lemmas.List.{map-append}
use Rattle.std.proofs.lemmas.Bool.{le-leb}
use Rattle.gql_values3.specs.Texts.{same_text}
use Rattle.gql_values3.specs.declared.table.ColumnKind.{ColumnKind}
use Rattle.gql_values3.specs.declared.table.ColumnKind.TheVariants as kind
use Rattle.gql_norm.specs.declared.degree.Degree.{Degree}
use Rattle.gql_norm.specs.declared.degree.Degree.TheVariants.{Singleton, Group}
use Rattle.gql_norm.specs.NormalPattern.{Part, Node, Edge, Concat, Union, Alt, Quant, Opt, ModeScope, Sides, NoSide, Side, NormalPath}
use Rattle.gql_norm.specs.Places.{size, size_all}
use Rattle.gql_norm.specs.Degree.{element_degree, beside_all, under_optional, degree_of, degrees_of}
use Rattle.gql_norm.specs.Declaration.{Declared, visible, visible_sides, declaration, all_declared}
use Rattle.gql_norm.specs.JoinDefects.{Spot, first_place, declared_in_paths}
use Rattle.gql_degrees.specs.Machinery.JoinWalk.{former}
use Rattle.gql_degrees.proofs.PlaceLemmas.{first_named, spot_of, first_append, first_place-spots}
use Rattle.gql_norm.proofs.VisibleLemmas.{left_behind}
use Rattle.gql_norm.proofs.KnownDegrees.{joint_known, beside_known}

abbrev pub variable_at : Option (List ℕ) → ℕ → List Spot
variable_at None a = []
variable_at (Some y) a = (a, y) ∷ []

abbrev mutual
  pub named_in : Part → ℕ → List Spot
  named_in (Node w) a = variable_at w.variable a
  named_in (Edge d w) a = variable_at w.variable a
  named_in (Concat p r) a = named_in p a ++ named_in r (a + size p)
  named_in (Union p r) a = named_in p (a + 1) ++ named_in r (a + size p + 2)
  named_in (Alt ss) a = named_in_sides ss (a + 1)
  named_in (Quant b l n) a = named_in b (a + 2)
  named_in (Opt b) a = named_in b (a + 1)
  named_in (ModeScope m b c) a = named_in b (a + 1)

  pub named_in_sides : Sides → ℕ → List Spot
  named_in_sides NoSide b = []
  named_in_sides (Side p ss) b = named_in p b ++ named_in_sides ss (b + size p + 1)

abbrev pub named_in_paths : List NormalPath → ℕ → List Spot
named_in_paths [] a = []
named_in_paths (p ∷ ps) a = named_in p.body a ++ named_in_paths ps (a + suc (size p.body))

one_named : (k : ColumnKind) (a : ℕ) (qs : List ℕ) (v : Option (List ℕ)) (x : ℕ) → a + 1 ≤ x → map spot_of (declaration k a qs v (nat_le a x)) ≡ variable_at v a
one_named k a qs None x h = ap (λ b. map spot_of (declaration k a qs None b)) (le-leb a x (omega arith))
one_named k a qs (Some y) x h = ap (λ b. map spot_of (declaration k a qs (Some y) b)) (le-leb a x (omega arith))

both_named : (xs ys : List Declared) (ss ts : List Spot) → map spot_of xs ≡ ss → map spot_of ys ≡ ts → map spot_of (xs ++ ys) ≡ ss ++ ts
both_named xs ys ss ts h k = map-append spot_of xs ys ∙ (λ i. h i ++ k i)

mutual
  unfolding size visible

  pub all_named : (p : Part) (a : ℕ) (qs : List ℕ) (x : ℕ) → a + size p ≤ x → map spot_of (visible p a qs x) ≡ named_in p a
  all_named (Node w) a qs x h = one_named kind.Node a qs w.variable x h
  all_named (Edge d w) a qs x h = one_named kind.Edge a qs w.variable x h
  all_named (Concat p r) a qs x h =
      both_named (visible p a qs x) (visible r (a + size p) qs x) (named_in p a) (named_in r (a + size p)) (all_named p a qs x (omega arith)) (all_named r (a + size p) qs x (omega arith))
  all_named (Union p r) a qs x h =
      ap (λ b. map spot_of (if b then visible r (a + size p + 2) qs x else visible p (a + 1) qs x ++ visible r (a + size p + 2) qs x)) (left_behind (a + size p + 2) (size r) x (omega arith))
      ∙ both_named (visible p (a + 1) qs x) (visible r (a + size p + 2) qs x) (named_in p (a + 1)) (named_in r (a + size p + 2)) (all_named p (a + 1) qs x (omega arith)) (all_named r (a + size p + 2) qs x (omega arith))
  all_named (Alt ss) a qs x h = all_named_sides ss (a + 1) qs x (omega arith)
  all_named (Quant b l n) a qs x h = all_named b (a + 2) (a ∷ qs) x (omega arith)
  all_named (Opt b) a qs x h = all_named b (a + 1) qs x (omega arith)
  all_named (ModeScope m b c) a qs x h = all_named b (a + 1) qs x (omega arith)

  all_named_sides : (ss : Sides) (b : ℕ) (qs : List ℕ) (x : ℕ) → b + size_all ss ≤ x → map spot_of (visible_sides ss b qs x) ≡ named_in_sides ss b
  all_named_sides NoSide b qs x h = refl
  all_named_sides (Side p ss) b qs x h =
      ap (λ c. map spot_of (if c then visible_sides ss (b + size p + 1) qs x else visible p b qs x ++ visible_sides ss (b + size p + 1) qs x)) (left_behind (b + size p + 1) (size_all ss) x (omega arith))
      ∙ both_named (visible p b qs x) (visible_sides ss (b + size p + 1) qs x) (named_in p b) (named_in_sides ss (b + size p + 1)) (all_named p b qs x (omega arith)) (all_named_sides ss (b + size p + 1) qs x (omega arith))

pub declared_named : (p : Part) (a : ℕ) → map spot_of (all_declared p a) ≡ named_in p a
declared_named p a = all_named p a [] (a + size p) (omega arith)

pub declared_named_paths : (ps : List NormalPath) (a : ℕ) → map spot_of (declared_in_paths ps a) ≡ named_in_paths ps a
declared_named_paths [] a = refl
declared_named_paths (p ∷ ps) a =
    both_named (all_declared p.body a) (declared_in_paths ps (a + suc (size p.body))) (named_in p.body a) (named_in_paths ps (a + suc (size p.body)))
    (declared_named p.body a) (declared_named_paths ps (a + suc (size p.body)))

pub first_place_is : (x : List ℕ) (p : Part) (a : ℕ) → first_place x (all_declared p a) ≡ first_named x (named_in p a)
first_place_is x p a = first_place-spots x (all_declared p a) ∙ ap (first_named x) (declared_named p a)

pub first_place_in_paths : (x : List ℕ) (ps : List NormalPath) (a : ℕ) → first_place x (declared_in_paths ps a) ≡ first_named x (named_in_paths ps a)
first_place_in_paths x ps a = first_place-spots x (declared_in_paths ps a) ∙ ap (first_named x) (declared_named_paths ps a)

-- a name that is declared has a degree, and no other has one
some_former : (a b : Option ℕ) → is_some (former a b) ≡ (is_some a || is_some b)
some_former None b = refl
some_former (Some a) b = refl

some_first : (x : List ℕ) (ss ts : List Spot) (b c : Bool) → is_some (first_named x ss) ≡ b → is_some (first_named x ts) ≡ c → is_some (first_named x (ss ++ ts)) ≡ (b || c)
some_first x ss ts b c h k = ap is_some (first_append x ss ts) ∙ some_former (first_named x ss) (first_named x ts) ∙ (λ i. h i || k i)

some_group : (d : Option Degree) → is_some d ≡ is_some (option_map (λ (e : Degree). Group) d)
some_group None = refl
some_group (Some d) = refl

some_optional : (d : Option Degree) → is_some d ≡ is_some (option_map under_optional d)
some_optional None = refl
some_optional (Some d) = refl

some_element : (x : List ℕ) (v : Option (List ℕ)) (a : ℕ) → is_some (first_named x (variable_at v a)) ≡ is_some (element_degree v x)
some_element x None a = refl
some_element x (Some y) a = by (same_text x y)
  where
    by : (b : Bool) → is_some (option_map (λ (s : Spot). s.0) (if b then Some (a, y) else None)) ≡ is_some (if b then Some Singleton else None)
    by true = refl
    by false = refl

mutual
  pub named_some : (x : List ℕ) (p : Part) (a : ℕ) → is_some (first_named x (named_in p a)) ≡ is_some (degree_of p x)
  named_some x (Node w) a = some_element x w.variable a
  named_some x (Edge d w) a = some_element x w.variable a
  named_some x (Concat p r) a =
      some_first x (named_in p a) (named_in r (a + size p)) (is_some (degree_of p x)) (is_some (degree_of r x)) (named_some x p a) (named_some x r (a + size p))
      ∙ sym (joint_known (degree_of p x) (degree_of r x))
  named_some x (Union p r) a =
      some_first x (named_in p (a + 1)) (named_in r (a + size p + 2)) (is_some (degree_of p x)) (is_some (degree_of r x)) (named_some x p (a + 1)) (named_some x r (a + size p + 2))
      ∙ sym (beside_known (degree_of p x) (degree_of r x))
  named_some x (Alt ss) a = named_some_sides x ss (a + 1)
  named_some x (Quant b l n) a = named_some x b (a + 2) ∙ some_group (degree_of b x)
  named_some x (Opt b) a = named_some x b (a + 1) ∙ some_optional (degree_of b x)
  named_some x (ModeScope m b c) a = named_some x b (a + 1)

  named_some_sides : (x : List ℕ) (ss : Sides) (b : ℕ) → is_some (first_named x (named_in_sides ss b)) ≡ is_some (beside_all (degrees_of ss x))
  named_some_sides x NoSide b = refl
  named_some_sides x (Side p NoSide) b = some_first x (named_in p b) [] (is_some (degree_of p x)) false (named_some x p b) refl ∙ or-false (is_some (degree_of p x))
  named_some_sides x (Side p (Side r ss)) b =
      some_first x (named_in p b) (named_in_sides (Side r ss) (b + size p + 1)) (is_some (degree_of p x)) (is_some (beside_all (degrees_of (Side r ss) x))) (named_some x p b) (named_some_sides x (Side r ss) (b + size p + 1))
      ∙ sym (beside_known (degree_of p x) (beside_all (degrees_of (Side r ss) x)))
