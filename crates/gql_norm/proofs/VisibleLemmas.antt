-- Which places lie inside a part, and what may be named there: nothing of a part in front of it, and all of it behind it.
use Rattle.std.proofs.Common.{◌≡◌, ℕ, ◌+◌, ◌≤◌, ◌<◌, true, false, List, [], ◌∷◌, ◌++◌, Option, Some, None, refl, sym, ap, ◌∙◌, arith}
use Rattle.std.specs.Prelude.{nat_le, if◌then◌else◌}
use Rattle.std.proofs.lemmas.Bool.{le-leb, lt-leb}
use Rattle.std.proofs.lemmas.Bool.Decides.{nat_tests}
use Rattle.gql_values3.specs.declared.table.ColumnKind.{ColumnKind}
use Rattle.gql_values3.specs.declared.table.ColumnKind.TheVariants as kind
use Rattle.gql_norm.specs.NormalPattern.{Part, Node, Edge, Concat, Union, Alt, Quant, Opt, ModeScope, Sides, NoSide, Side}
use Rattle.gql_norm.specs.Places.{size, size_all, is_inside}
use Rattle.gql_norm.specs.Declaration.{Declared, declaration, visible, visible_sides}

pub not_entered : (entry others x : ℕ) → x < entry → is_inside entry others x ≡ false
not_entered entry others x h = grind (arith, nat_tests)

pub left_behind : (entry others x : ℕ) → entry + others ≤ x → is_inside entry others x ≡ false
left_behind entry others x h = grind (arith, nat_tests)

pub within : (entry others x : ℕ) → entry ≤ x → x < entry + others → is_inside entry others x ≡ true
within entry others x h k = grind (arith, nat_tests)

none_declared : (k : ColumnKind) (a : ℕ) (qs : List ℕ) (v : Option (List ℕ)) → declaration k a qs v false ≡ []
none_declared k a qs None = refl
none_declared k a qs (Some y) = refl

both_none : (xs ys : List Declared) → xs ≡ [] → ys ≡ [] → (xs ++ ys) ≡ []
both_none xs ys h k = λ i. h i ++ k i

mutual
  unfolding size visible

  pub unseen : (p : Part) (a : ℕ) (qs : List ℕ) (x : ℕ) → x < a → visible p a qs x ≡ []
  unseen (Node w) a qs x h = ap (declaration kind.Node a qs w.variable) (lt-leb a x h) ∙ none_declared kind.Node a qs w.variable
  unseen (Edge d w) a qs x h = ap (declaration kind.Edge a qs w.variable) (lt-leb a x h) ∙ none_declared kind.Edge a qs w.variable
  unseen (Concat p r) a qs x h = both_none (visible p a qs x) (visible r (a + size p) qs x) (unseen p a qs x h) (unseen r (a + size p) qs x (omega arith))
  unseen (Union p r) a qs x h =
      ap (λ b. if b then visible r (a + size p + 2) qs x else visible p (a + 1) qs x ++ visible r (a + size p + 2) qs x) (not_entered (a + size p + 2) (size r) x (omega arith))
      ∙ both_none (visible p (a + 1) qs x) (visible r (a + size p + 2) qs x) (unseen p (a + 1) qs x (omega arith)) (unseen r (a + size p + 2) qs x (omega arith))
  unseen (Alt ss) a qs x h = unseen_sides ss (a + 1) qs x (omega arith)
  unseen (Quant b l n) a qs x h = unseen b (a + 2) (a ∷ qs) x (omega arith)
  unseen (Opt b) a qs x h = unseen b (a + 1) qs x (omega arith)
  unseen (ModeScope m b c) a qs x h = unseen b (a + 1) qs x (omega arith)

  pub unseen_sides : (ss : Sides) (b : ℕ) (qs : List ℕ) (x : ℕ) → x < b → visible_sides ss b qs x ≡ []
  unseen_sides NoSide b qs x h = refl
  unseen_sides (Side p ss) b qs x h =
      ap (λ c. if c then visible_sides ss (b + size p + 1) qs x else visible p b qs x ++ visible_sides ss (b + size p + 1) qs x) (not_entered (b + size p + 1) (size_all ss) x (omega arith))
      ∙ both_none (visible p b qs x) (visible_sides ss (b + size p + 1) qs x) (unseen p b qs x h) (unseen_sides ss (b + size p + 1) qs x (omega arith))

both_same : (xs ys us vs : List Declared) → xs ≡ us → ys ≡ vs → (xs ++ ys) ≡ (us ++ vs)
both_same xs ys us vs h k = λ i. h i ++ k i

one_same : (k : ColumnKind) (a : ℕ) (qs : List ℕ) (v : Option (List ℕ)) (x y : ℕ) → a + 1 ≤ x → a + 1 ≤ y → declaration k a qs v (nat_le a x) ≡ declaration k a qs v (nat_le a y)
one_same k a qs v x y h j = ap (declaration k a qs v) (le-leb a x (omega arith) ∙ sym (le-leb a y (omega arith)))

mutual
  unfolding size visible

  pub stable : (p : Part) (a : ℕ) (qs : List ℕ) (x y : ℕ) → a + size p ≤ x → a + size p ≤ y → visible p a qs x ≡ visible p a qs y
  stable (Node w) a qs x y h k = one_same kind.Node a qs w.variable x y h k
  stable (Edge d w) a qs x y h k = one_same kind.Edge a qs w.variable x y h k
  stable (Concat p r) a qs x y h k = both_same _ _ _ _ (stable p a qs x y (omega arith) (omega arith)) (stable r (a + size p) qs x y (omega arith) (omega arith))
  stable (Union p r) a qs x y h k =
      ap (λ b. if b then visible r (a + size p + 2) qs x else visible p (a + 1) qs x ++ visible r (a + size p + 2) qs x) (left_behind (a + size p + 2) (size r) x (omega arith))
      ∙ both_same _ _ _ _ (stable p (a + 1) qs x y (omega arith) (omega arith)) (stable r (a + size p + 2) qs x y (omega arith) (omega arith))
      ∙ sym (ap (λ b. if b then visible r (a + size p + 2) qs y else visible p (a + 1) qs y ++ visible r (a + size p + 2) qs y) (left_behind (a + size p + 2) (size r) y (omega arith)))
  stable (Alt ss) a qs x y h k = stable_sides ss (a + 1) qs x y (omega arith) (omega arith)
  stable (Quant b l n) a qs x y h k = stable b (a + 2) (a ∷ qs) x y (omega arith) (omega arith)
  stable (Opt b) a qs x y h k = stable b (a + 1) qs x y (omega arith) (omega arith)
  stable (ModeScope m b c) a qs x y h k = stable b (a + 1) qs x y (omega arith) (omega arith)

  stable_sides : (ss : Sides) (b : ℕ) (qs : List ℕ) (x y : ℕ) → b + size_all ss ≤ x → b + size_all ss ≤ y → visible_sides ss b qs x ≡ visible_sides ss b qs y
  stable_sides NoSide b qs x y h k = refl
  stable_sides (Side p ss) b qs x y h k =
      ap (λ c. if c then visible_sides ss (b + size p + 1) qs x else visible p b qs x ++ visible_sides ss (b + size p + 1) qs x) (left_behind (b + size p + 1) (size_all ss) x (omega arith))
      ∙ both_same _ _ _ _ (stable p b qs x y (omega arith) (omega arith)) (stable_sides ss (b + size p + 1) qs x y (omega arith) (omega arith))
      ∙ sym (ap (λ c. if c then visible_sides ss (b + size p + 1) qs y else visible p b qs y ++ visible_sides ss (b + size p + 1) qs y) (left_behind (b + size p + 1) (size_all ss) y (omega arith)))
