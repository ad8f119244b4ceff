-- A name has a degree where it is declared, and is a group where it is declared under a quantifier.
use Rattle.std.proofs.Common.{◌≡◌, ℕ, Bool, true, false, ◌||◌, ◌&&◌, List, [], ◌∷◌, ◌++◌, Option, Some, None, is_some, flat_map, refl, sym, ◌∙◌}
use Rattle.std.proofs.Math.Bool.{or-false}
use Rattle.std.specs.Prelude.{if◌then◌else◌}
use Rattle.std.proofs.lemmas.List.Folds.{list_any-append}
use Rattle.gql_values3.specs.Texts.{same_text}
use Rattle.gql_norm.specs.NormalPattern.{Part, Node, Edge, Concat, Union, Alt, Quant, Opt, ModeScope, Sides, NoSide, Side, NormalPath}
use Rattle.gql_norm.specs.declared.degree.Degree.{Degree}
use Rattle.gql_norm.specs.declared.degree.Degree.TheVariants.{Singleton, Group}
use Rattle.gql_norm.specs.Degree.{degree_of, degrees_of, element_degree, beside_all, under_optional, is_group}
use Rattle.gql_norm.specs.NewColumns.{degree_in_paths}
use Rattle.gql_norm.proofs.KnownDegrees.{joint_known, beside_known, mapped_known, joint_group, beside_group, optional_group, repeated_group}
use Rattle.gql_pattern_checks.proofs.HoldLemmas.{has, has_group}
use Rattle.gql_pattern_checks.proofs.PlaceLemmas.{Entries, entry_of, entries_of, entries_of_sides}

one_has : (g : Bool) (v : Option (List ℕ)) (x : List ℕ) → is_some (element_degree v x) ≡ has (entry_of g v) x
one_has g None x = refl
one_has g (Some y) x = by (same_text x y)
  where
    by : (b : Bool) → is_some (if b then Some Singleton else None) ≡ (b || false)
    by true = refl
    by false = refl

one_group : (v : Option (List ℕ)) (x : List ℕ) → is_group (element_degree v x) ≡ has_group (entry_of false v) x
one_group None x = refl
one_group (Some y) x = by (same_text x y)
  where
    by : (b : Bool) → is_group (if b then Some Singleton else None) ≡ ((b && false) || false)
    by true = refl
    by false = refl

one_true : (v : Option (List ℕ)) (x : List ℕ) → has_group (entry_of true v) x ≡ has (entry_of true v) x
one_true None x = refl
one_true (Some y) x = by (same_text x y)
  where
    by : (b : Bool) → ((b && true) || false) ≡ (b || false)
    by true = refl
    by false = refl

has_two : (xs ys : Entries) (x : List ℕ) → has (xs ++ ys) x ≡ (has xs x || has ys x)
has_two xs ys x = list_any-append (λ (e : List ℕ × Bool). same_text x e.0) xs ys

pub has_group_two : (xs ys : Entries) (x : List ℕ) → has_group (xs ++ ys) x ≡ (has_group xs x || has_group ys x)
has_group_two xs ys x = list_any-append (λ (e : List ℕ × Bool). same_text x e.0 && e.1) xs ys

-- under a quantifier all are groups
mutual
  all_groups : (p : Part) (x : List ℕ) → has_group (entries_of true p) x ≡ has (entries_of true p) x
  all_groups (Node w) x = one_true w.variable x
  all_groups (Edge d w) x = one_true w.variable x
  all_groups (Concat p r) x = has_group_two (entries_of true p) (entries_of true r) x ∙ (λ i. all_groups p x i || all_groups r x i) ∙ sym (has_two (entries_of true p) (entries_of true r) x)
  all_groups (Union p r) x = has_group_two (entries_of true p) (entries_of true r) x ∙ (λ i. all_groups p x i || all_groups r x i) ∙ sym (has_two (entries_of true p) (entries_of true r) x)
  all_groups (Alt ss) x = all_groups_in_sides ss x
  all_groups (Quant b l n) x = all_groups b x
  all_groups (Opt b) x = all_groups b x
  all_groups (ModeScope m b c) x = all_groups b x

  all_groups_in_sides : (ss : Sides) (x : List ℕ) → has_group (entries_of_sides true ss) x ≡ has (entries_of_sides true ss) x
  all_groups_in_sides NoSide x = refl
  all_groups_in_sides (Side p ss) x = has_group_two (entries_of true p) (entries_of_sides true ss) x ∙ (λ i. all_groups p x i || all_groups_in_sides ss x i) ∙ sym (has_two (entries_of true p) (entries_of_sides true ss) x)

mutual
  declares : (g : Bool) (p : Part) (x : List ℕ) → is_some (degree_of p x) ≡ has (entries_of g p) x
  declares g (Node w) x = one_has g w.variable x
  declares g (Edge d w) x = one_has g w.variable x
  declares g (Concat p r) x = joint_known (degree_of p x) (degree_of r x) ∙ (λ i. declares g p x i || declares g r x i) ∙ sym (has_two (entries_of g p) (entries_of g r) x)
  declares g (Union p r) x = beside_known (degree_of p x) (degree_of r x) ∙ (λ i. declares g p x i || declares g r x i) ∙ sym (has_two (entries_of g p) (entries_of g r) x)
  declares g (Alt ss) x = side_declares g ss x
  declares g (Quant b l n) x = mapped_known (λ (d : Degree). Group) (degree_of b x) ∙ declares true b x
  declares g (Opt b) x = mapped_known under_optional (degree_of b x) ∙ declares g b x
  declares g (ModeScope m b c) x = declares g b x

  side_declares : (g : Bool) (ss : Sides) (x : List ℕ) → is_some (beside_all (degrees_of ss x)) ≡ has (entries_of_sides g ss) x
  side_declares g NoSide x = refl
  side_declares g (Side p NoSide) x = declares g p x ∙ sym (or-false (has (entries_of g p) x)) ∙ sym (has_two (entries_of g p) [] x)
  side_declares g (Side p (Side r ss)) x =
      beside_known (degree_of p x) (beside_all (degrees_of (Side r ss) x)) ∙ (λ i. declares g p x i || side_declares g (Side r ss) x i)
      ∙ sym (has_two (entries_of g p) (entries_of_sides g (Side r ss)) x)

mutual
  groups : (p : Part) (x : List ℕ) → is_group (degree_of p x) ≡ has_group (entries_of false p) x
  groups (Node w) x = one_group w.variable x
  groups (Edge d w) x = one_group w.variable x
  groups (Concat p r) x = joint_group (degree_of p x) (degree_of r x) ∙ (λ i. groups p x i || groups r x i) ∙ sym (has_group_two (entries_of false p) (entries_of false r) x)
  groups (Union p r) x = beside_group (degree_of p x) (degree_of r x) ∙ (λ i. groups p x i || groups r x i) ∙ sym (has_group_two (entries_of false p) (entries_of false r) x)
  groups (Alt ss) x = side_groups ss x
  groups (Quant b l n) x = repeated_group (degree_of b x) ∙ declares true b x ∙ sym (all_groups b x)
  groups (Opt b) x = optional_group (degree_of b x) ∙ groups b x
  groups (ModeScope m b c) x = groups b x

  side_groups : (ss : Sides) (x : List ℕ) → is_group (beside_all (degrees_of ss x)) ≡ has_group (entries_of_sides false ss) x
  side_groups NoSide x = refl
  side_groups (Side p NoSide) x = groups p x ∙ sym (or-false (has_group (entries_of false p) x)) ∙ sym (has_group_two (entries_of false p) [] x)
  side_groups (Side p (Side r ss)) x =
      beside_group (degree_of p x) (beside_all (degrees_of (Side r ss) x)) ∙ (λ i. groups p x i || side_groups (Side r ss) x i)
      ∙ sym (has_group_two (entries_of false p) (entries_of_sides false (Side r ss)) x)

-- the same over path patterns
abbrev pub entries_in_paths : List NormalPath → Entries
entries_in_paths ps = flat_map (λ (p : NormalPath). entries_of false p.body) ps

pub groups_in_paths : (ps : List NormalPath) (x : List ℕ) → is_group (degree_in_paths ps x) ≡ has_group (entries_in_paths ps) x
groups_in_paths [] x = refl
groups_in_paths (p ∷ ps) x =
    joint_group (degree_of p.body x) (degree_in_paths ps x) ∙ (λ i. groups p.body x i || groups_in_paths ps x i)
    ∙ sym (has_group_two (entries_of false p.body) (entries_in_paths ps) x)
