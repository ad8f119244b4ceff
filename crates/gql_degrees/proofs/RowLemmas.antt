-- A name in a row of parts, or in path patterns: where its degree is at fault with one before.
use Rattle.std.proofs.Common.{◌≡◌, ℕ, suc, ◌+◌, Bool, true, false, ◌||◌, ◌&&◌, List, [], ◌∷◌, map, flat_map, is_some, Option, Some, None, refl, sym, ap, ◌∙◌}
use Rattle.std.proofs.Math.Bool.{or-false}
use Rattle.std.specs.Prelude.{if◌then◌else◌}
use Rattle.gql_values3.specs.Texts.{same_text}
use Rattle.gql_norm.specs.declared.degree.Degree.{Degree}
use Rattle.gql_norm.specs.declared.degree.Degree.TheVariants.{Singleton, Conditional, Group}
use Rattle.gql_norm.specs.NormalPattern.{Part, Node, Edge, Concat, Union, Alt, Quant, Opt, ModeScope, NormalPath}
use Rattle.gql_norm.specs.Places.{size}
use Rattle.gql_norm.specs.Degree.{degree_of}
use Rattle.gql_norm.specs.Declaration.{Declared, all_declared}
use Rattle.gql_norm.specs.JoinDefects.{first_place, spot_by, spot_in, spots_in_row, spots_in_later}
use Rattle.gql_degrees.specs.Machinery.JoinWalk.{sooner, place_if, Before, none_before, and_degree, is_behind_fault, are_both_faulty}
use Rattle.gql_degrees.proofs.PlaceLemmas.{sooner_cross, place_if-none, place_if-either, least_of, least_append, least_of_each, first_named, spot_of}
use Rattle.gql_degrees.proofs.NamedLemmas.{named_in, first_place_is, declared_named, named_some}
use Rattle.gql_expr_checks.proofs.KnowingLemmas.{same_text-refl}

-- the least place of a row, and of path patterns, whose degree passes a test
module _ (q : Option Degree → Bool) (x : List ℕ) where
  abbrev pub row_by : Part → ℕ → Option ℕ
  row_by (Concat p r) a = sooner (place_if (q (degree_of p x)) (first_named x (named_in p a))) (row_by r (a + size p))
  row_by p a = place_if (q (degree_of p x)) (first_named x (named_in p a))

  abbrev pub later_by : List NormalPath → ℕ → Option ℕ
  later_by [] a = None
  later_by (p ∷ ps) a = sooner (place_if (q (degree_of p.body x)) (first_named x (named_in p.body a))) (later_by ps (a + suc (size p.body)))

-- no test passes
abbrev never : Option Degree → Bool
never d = false

pub row_never : (x : List ℕ) (p : Part) (a : ℕ) → row_by never x p a ≡ None
row_never x (Concat p r) a = row_never x r (a + size p)
row_never x (Node w) a = refl
row_never x (Edge d w) a = refl
row_never x (Union p r) a = refl
row_never x (Alt ss) a = refl
row_never x (Quant b l n) a = refl
row_never x (Opt b) a = refl
row_never x (ModeScope m b c) a = refl

pub later_never : (x : List ℕ) (ps : List NormalPath) (a : ℕ) → later_by never x ps a ≡ None
later_never x [] a = refl
later_never x (p ∷ ps) a = later_never x ps (a + suc (size p.body))

-- one of two tests passes
module _ (q r : Option Degree → Bool) (x : List ℕ) where
  abbrev either : Option Degree → Bool
  either d = q d || r d

  either_here : (p : Part) (a : ℕ) → place_if (either (degree_of p x)) (first_named x (named_in p a))
      ≡ sooner (place_if (q (degree_of p x)) (first_named x (named_in p a))) (place_if (r (degree_of p x)) (first_named x (named_in p a)))
  either_here p a = place_if-either (q (degree_of p x)) (r (degree_of p x)) (first_named x (named_in p a))

  pub row_either : (p : Part) (a : ℕ) → row_by either x p a ≡ sooner (row_by q x p a) (row_by r x p a)
  row_either (Concat p s) a =
      (λ i. sooner (either_here p a i) (row_either s (a + size p) i))
      ∙ sooner_cross (place_if (q (degree_of p x)) (first_named x (named_in p a))) (place_if (r (degree_of p x)) (first_named x (named_in p a))) (row_by q x s (a + size p)) (row_by r x s (a + size p))
  row_either (Node w) a = either_here (Node w) a
  row_either (Edge d w) a = either_here (Edge d w) a
  row_either (Union p s) a = either_here (Union p s) a
  row_either (Alt ss) a = either_here (Alt ss) a
  row_either (Quant b l n) a = either_here (Quant b l n) a
  row_either (Opt b) a = either_here (Opt b) a
  row_either (ModeScope m b c) a = either_here (ModeScope m b c) a

  pub later_either : (ps : List NormalPath) (a : ℕ) → later_by either x ps a ≡ sooner (later_by q x ps a) (later_by r x ps a)
  later_either [] a = refl
  later_either (p ∷ ps) a =
      (λ i. sooner (either_here p.body a i) (later_either ps (a + suc (size p.body)) i))
      ∙ sooner_cross (place_if (q (degree_of p.body x)) (first_named x (named_in p.body a))) (place_if (r (degree_of p.body x)) (first_named x (named_in p.body a)))
      (later_by q x ps (a + suc (size p.body))) (later_by r x ps (a + suc (size p.body)))

module _ (f : Degree → Degree → Bool) where
  -- behind one degree more
  behind_none : (d : Option Degree) → is_behind_fault f none_before d ≡ false
  behind_none None = refl
  behind_none (Some d) = refl

  first_more : (b s v : Bool) → (s || v) ≡ (((b && s) || v) || s)
  first_more true true v = refl
  first_more true false true = refl
  first_more true false false = refl
  first_more false true true = refl
  first_more false true false = refl
  first_more false false true = refl
  first_more false false false = refl

  second_more : (u b s v : Bool) → (u || (s || v)) ≡ ((u || ((b && s) || v)) || s)
  second_more true b s v = refl
  second_more false b s v = first_more b s v

  third_more : (u v b s : Bool) → (u || (v || s)) ≡ ((u || (v || (b && s))) || s)
  third_more true v b s = refl
  third_more false true b s = refl
  third_more false false true true = refl
  third_more false false true false = refl
  third_more false false false true = refl
  third_more false false false false = refl

  pub behind_more : (b : Before) (d e : Option Degree) → is_behind_fault f (and_degree b d) e ≡ (is_behind_fault f b e || are_both_faulty f d e)
  behind_more b None None = refl
  behind_more b (Some Singleton) None = refl
  behind_more b (Some Conditional) None = refl
  behind_more b (Some Group) None = refl
  behind_more b None (Some e) = sym (or-false (is_behind_fault f b (Some e)))
  behind_more b (Some Singleton) (Some e) = first_more b.singleton (f Singleton e) ((b.conditional && f Conditional e) || (b.group && f Group e))
  behind_more b (Some Conditional) (Some e) = second_more (b.singleton && f Singleton e) b.conditional (f Conditional e) (b.group && f Group e)
  behind_more b (Some Group) (Some e) = third_more (b.singleton && f Singleton e) (b.conditional && f Conditional e) b.group (f Group e)

  pub row_none : (x : List ℕ) (p : Part) (a : ℕ) → row_by (is_behind_fault f none_before) x p a ≡ None
  row_none x p a = (λ i. row_by (λ d. behind_none d i) x p a) ∙ row_never x p a

  pub later_none : (x : List ℕ) (ps : List NormalPath) (a : ℕ) → later_by (is_behind_fault f none_before) x ps a ≡ None
  later_none x ps a = (λ i. later_by (λ d. behind_none d i) x ps a) ∙ later_never x ps a

  pub row_more : (x : List ℕ) (b : Before) (d : Option Degree) (p : Part) (a : ℕ)
      → row_by (is_behind_fault f (and_degree b d)) x p a ≡ sooner (row_by (is_behind_fault f b) x p a) (row_by (are_both_faulty f d) x p a)
  row_more x b d p a = (λ i. row_by (λ e. behind_more b d e i) x p a) ∙ row_either (is_behind_fault f b) (are_both_faulty f d) x p a

  pub later_more : (x : List ℕ) (b : Before) (d : Option Degree) (ps : List NormalPath) (a : ℕ)
      → later_by (is_behind_fault f (and_degree b d)) x ps a ≡ sooner (later_by (is_behind_fault f b) x ps a) (later_by (are_both_faulty f d) x ps a)
  later_more x b d ps a = (λ i. later_by (λ e. behind_more b d e i) x ps a) ∙ later_either (is_behind_fault f b) (are_both_faulty f d) x ps a

  -- the spots of the definition are these places
  pub spot_place : (x : List ℕ) (d e : Option Degree) (place : Option ℕ) → least_of x (spot_by f x d e place) ≡ place_if (are_both_faulty f d e) place
  spot_place x None e place = refl
  spot_place x (Some d) None place = refl
  spot_place x (Some d) (Some e) None = sym (place_if-none (f d e))
  spot_place x (Some d) (Some e) (Some a) = by (f d e)
    where
      one : (b : Bool) → b ≡ true → sooner (if b then Some a else None) None ≡ Some a
      one true h = refl
      one false h = absurd (cc)

      by : (b : Bool) → least_of x (if b then (a, x) ∷ [] else []) ≡ place_if b (Some a)
      by true = one (same_text x x) (same_text-refl x)
      by false = refl

  pub spot_other : (x y : List ℕ) → same_text x y ≡ false → (d e : Option Degree) (place : Option ℕ) → least_of x (spot_by f y d e place) ≡ None
  spot_other x y h None e place = refl
  spot_other x y h (Some d) None place = refl
  spot_other x y h (Some d) (Some e) None = refl
  spot_other x y h (Some d) (Some e) (Some a) = by (f d e)
    where
      by : (b : Bool) → least_of x (if b then (a, y) ∷ [] else []) ≡ None
      by true = ap (λ c. sooner (if c then Some a else None) None) h
      by false = refl

  spot_in_place : (x : List ℕ) (d : Option Degree) (p : Part) (a : ℕ) → least_of x (spot_in f x d p a) ≡ place_if (are_both_faulty f d (degree_of p x)) (first_named x (named_in p a))
  spot_in_place x d p a = spot_place x d (degree_of p x) (first_place x (all_declared p a)) ∙ ap (place_if (are_both_faulty f d (degree_of p x))) (first_place_is x p a)

  spot_in_other : (x y : List ℕ) → same_text x y ≡ false → (d : Option Degree) (p : Part) (a : ℕ) → least_of x (spot_in f y d p a) ≡ None
  spot_in_other x y h d p a = spot_other x y h d (degree_of p y) (first_place y (all_declared p a))

  row_place : (x : List ℕ) (d : Option Degree) (p : Part) (a : ℕ) → least_of x (spots_in_row f x d p a) ≡ row_by (are_both_faulty f d) x p a
  row_place x d (Concat p r) a =
      least_append x (spot_in f x d p a) (spots_in_row f x d r (a + size p)) ∙ (λ i. sooner (spot_in_place x d p a i) (row_place x d r (a + size p) i))
  row_place x d (Node w) a = spot_in_place x d (Node w) a
  row_place x d (Edge e w) a = spot_in_place x d (Edge e w) a
  row_place x d (Union p r) a = spot_in_place x d (Union p r) a
  row_place x d (Alt ss) a = spot_in_place x d (Alt ss) a
  row_place x d (Quant b l n) a = spot_in_place x d (Quant b l n) a
  row_place x d (Opt b) a = spot_in_place x d (Opt b) a
  row_place x d (ModeScope m b c) a = spot_in_place x d (ModeScope m b c) a

  row_other : (x y : List ℕ) → same_text x y ≡ false → (d : Option Degree) (p : Part) (a : ℕ) → least_of x (spots_in_row f y d p a) ≡ None
  row_other x y h d (Concat p r) a =
      least_append x (spot_in f y d p a) (spots_in_row f y d r (a + size p)) ∙ (λ i. sooner (spot_in_other x y h d p a i) (row_other x y h d r (a + size p) i))
  row_other x y h d (Node w) a = spot_in_other x y h d (Node w) a
  row_other x y h d (Edge e w) a = spot_in_other x y h d (Edge e w) a
  row_other x y h d (Union p r) a = spot_in_other x y h d (Union p r) a
  row_other x y h d (Alt ss) a = spot_in_other x y h d (Alt ss) a
  row_other x y h d (Quant b l n) a = spot_in_other x y h d (Quant b l n) a
  row_other x y h d (Opt b) a = spot_in_other x y h d (Opt b) a
  row_other x y h d (ModeScope m b c) a = spot_in_other x y h d (ModeScope m b c) a

  later_place : (x : List ℕ) (d : Option Degree) (ps : List NormalPath) (a : ℕ) → least_of x (spots_in_later f x d ps a) ≡ later_by (are_both_faulty f d) x ps a
  later_place x d [] a = refl
  later_place x d (p ∷ ps) a =
      least_append x (spot_in f x d p.body a) (spots_in_later f x d ps (a + suc (size p.body))) ∙ (λ i. sooner (spot_in_place x d p.body a i) (later_place x d ps (a + suc (size p.body)) i))

  later_other : (x y : List ℕ) → same_text x y ≡ false → (d : Option Degree) (ps : List NormalPath) (a : ℕ) → least_of x (spots_in_later f y d ps a) ≡ None
  later_other x y h d [] a = refl
  later_other x y h d (p ∷ ps) a =
      least_append x (spot_in f y d p.body a) (spots_in_later f y d ps (a + suc (size p.body))) ∙ (λ i. sooner (spot_in_other x y h d p.body a i) (later_other x y h d ps (a + suc (size p.body)) i))

  -- of all that a part declares, against what stands behind it
  row_declared : (x : List ℕ) (r : Part) (a : ℕ) (d : Option Degree) → place_if (is_some d) (row_by (are_both_faulty f d) x r a) ≡ row_by (are_both_faulty f d) x r a
  row_declared x r a None = sym (row_never x r a)
  row_declared x r a (Some d) = refl

  later_declared : (x : List ℕ) (ps : List NormalPath) (a : ℕ) (d : Option Degree) → place_if (is_some d) (later_by (are_both_faulty f d) x ps a) ≡ later_by (are_both_faulty f d) x ps a
  later_declared x ps a None = sym (later_never x ps a)
  later_declared x ps a (Some d) = refl

  is_declared : (x : List ℕ) (p : Part) (a : ℕ) → is_some (first_named x (map spot_of (all_declared p a))) ≡ is_some (degree_of p x)
  is_declared x p a = ap (λ ss. is_some (first_named x ss)) (declared_named p a) ∙ named_some x p a

  pub row_against : (x : List ℕ) (p : Part) (a : ℕ) (r : Part) (e : ℕ)
      → least_of x (flat_map (λ (d : Declared). spots_in_row f d.name (degree_of p d.name) r e) (all_declared p a)) ≡ row_by (are_both_faulty f (degree_of p x)) x r e
  row_against x p a r e =
      least_of_each x (λ y. spots_in_row f y (degree_of p y) r e) (λ y h. row_other x y h (degree_of p y) r e) (all_declared p a)
      ∙ (λ i. place_if (is_declared x p a i) (row_place x (degree_of p x) r e i))
      ∙ row_declared x r e (degree_of p x)

  pub later_against : (x : List ℕ) (p : Part) (a : ℕ) (ps : List NormalPath) (e : ℕ)
      → least_of x (flat_map (λ (d : Declared). spots_in_later f d.name (degree_of p d.name) ps e) (all_declared p a)) ≡ later_by (are_both_faulty f (degree_of p x)) x ps e
  later_against x p a ps e =
      least_of_each x (λ y. spots_in_later f y (degree_of p y) ps e) (λ y h. later_other x y h (degree_of p y) ps e) (all_declared p a)
      ∙ (λ i. place_if (is_declared x p a i) (later_place x (degree_of p x) ps e i))
      ∙ later_declared x ps e (degree_of p x)
