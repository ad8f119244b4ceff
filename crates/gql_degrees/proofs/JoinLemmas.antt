-- What the code answers is the name at fault of the definition. A place has one name, since places ascend in the text.
use Rattle.std.proofs.Common.{◌≡◌, ℕ, suc, ◌+◌, ◌≤◌, inl, inr, Bool, true, false, List, [], ◌∷◌, ◌++◌, flat_map, find, Option, Some, None, refl, sym, ap, ◌∙◌, subst, arith}
use Prim.{⊥}
use Rattle.std.specs.Prelude.{option_map, if◌then◌else◌}
use Rattle.gql_values3.specs.Texts.{same_text}
use Rattle.gql_values3.proofs.WordLemmas.{same_is}
use Rattle.gql_ast.specs.ClauseColumns.{ColumnList}
use Rattle.gql_norm.specs.declared.degree.Degree.{Degree}
use Rattle.gql_norm.specs.NormalPattern.{Part, Node, Edge, Concat, Union, Alt, Quant, Opt, ModeScope, Sides, NoSide, Side, NormalPath}
use Rattle.gql_norm.specs.Places.{size, size_all}
use Rattle.gql_norm.specs.Degree.{degree_of}
use Rattle.gql_norm.specs.NewColumns.{degree_in_paths}
use Rattle.gql_norm.specs.Declaration.{Declared, all_declared}
use Rattle.gql_norm.specs.Selection.{Each, Among}
use Rattle.gql_norm.specs.JoinDefects.{Spot, first_place, declared_in_paths, degree_of_column, spot_by, spot_in, spots_in_row, spots_in_later, spots_in, spots_in_sides, spots_in_paths, spots_at_columns, earliest}
use Rattle.gql_norm.proofs.EachLemmas.{each_append, each_left, each_right, each_of, of_each}
use Rattle.gql_degrees.specs.Machinery.KindWalk.{declared_in_all_paths}
use Rattle.gql_degrees.specs.Machinery.JoinWalk.{suspects, first_among, first_joined}
use Rattle.gql_degrees.proofs.PlaceLemmas.{first_named}
use Rattle.gql_degrees.proofs.NamedLemmas.{variable_at, named_in, named_in_sides, named_in_paths, first_place_is, first_place_in_paths}
use Rattle.gql_degrees.proofs.WalkLemmas.{place_is}
use Rattle.gql_degrees.proofs.OnceLemmas.{suspects_left}
use Rattle.gql_degrees.proofs.BestLemmas.{first_among_is, some_is}

-- places that ascend from one on and end before another
abbrev Within : ℕ → ℕ → List Spot → Type 0
Within a b [] = a ≤ b
Within a b (s ∷ ss) = (a ≤ s.0) × Within (suc s.0) b ss

within_from : (a b c : ℕ) (ss : List Spot) → a ≤ b → Within b c ss → Within a c ss
within_from a b c [] h w = at_most a b c h w
  where
    at_most : (a b c : ℕ) → a ≤ b → b ≤ c → a ≤ c
    at_most a b c h k = omega (arith, h, k)
within_from a b c (s ∷ ss) h w = (at_most a b s.0 h w.0, w.1)
  where
    at_most : (a b c : ℕ) → a ≤ b → b ≤ c → a ≤ c
    at_most a b c h k = omega (arith, h, k)

within_up_to : (a b c : ℕ) (ss : List Spot) → b ≤ c → Within a b ss → Within a c ss
within_up_to a b c [] h w = at_most a b c w h
  where
    at_most : (a b c : ℕ) → a ≤ b → b ≤ c → a ≤ c
    at_most a b c h k = omega (arith, h, k)
within_up_to a b c (s ∷ ss) h w = (w.0, within_up_to (suc s.0) b c ss h w.1)

within_both : (a b c : ℕ) (ss ts : List Spot) → Within a b ss → Within b c ts → Within a c (ss ++ ts)
within_both a b c [] ts v w = within_from a b c ts v w
within_both a b c (s ∷ ss) ts v w = (v.0, within_both (suc s.0) b c ss ts v.1 w)

within_inner : (a b c d : ℕ) (ss : List Spot) → a ≤ b → c ≤ d → Within b c ss → Within a d ss
within_inner a b c d ss h k w = within_up_to a c d ss k (within_from a b c ss h w)

one_within : (v : Option (List ℕ)) (a : ℕ) → Within a (a + 1) (variable_at v a)
one_within None a = omega arith
one_within (Some y) a = (at_itself a, next a)
  where
    at_itself : (n : ℕ) → n ≤ n
    at_itself n = omega arith

    next : (n : ℕ) → suc n ≤ n + 1
    next n = omega arith

mutual
  unfolding size

  named_within : (p : Part) (a : ℕ) → Within a (a + size p) (named_in p a)
  named_within (Node w) a = one_within w.variable a
  named_within (Edge d w) a = one_within w.variable a
  named_within (Concat p r) a =
      within_inner a a ((a + size p) + size r) (a + (size p + size r)) (named_in p a ++ named_in r (a + size p)) (omega arith) (omega arith)
      (within_both a (a + size p) ((a + size p) + size r) (named_in p a) (named_in r (a + size p)) (named_within p a) (named_within r (a + size p)))
  named_within (Union p r) a =
      within_inner a (a + 1) ((a + size p + 2) + size r) (a + (size p + size r + 3)) (named_in p (a + 1) ++ named_in r (a + size p + 2)) (omega arith) (omega arith)
      (within_both (a + 1) (a + size p + 2) ((a + size p + 2) + size r) (named_in p (a + 1)) (named_in r (a + size p + 2))
      (within_up_to (a + 1) ((a + 1) + size p) (a + size p + 2) (named_in p (a + 1)) (omega arith) (named_within p (a + 1))) (named_within r (a + size p + 2)))
  named_within (Alt ss) a = within_inner a (a + 1) ((a + 1) + size_all ss) (a + (size_all ss + 1)) (named_in_sides ss (a + 1)) (omega arith) (omega arith) (sides_within ss (a + 1))
  named_within (Quant c l n) a = within_inner a (a + 2) ((a + 2) + size c) (a + (size c + 3)) (named_in c (a + 2)) (omega arith) (omega arith) (named_within c (a + 2))
  named_within (Opt c) a = within_inner a (a + 1) ((a + 1) + size c) (a + (size c + 2)) (named_in c (a + 1)) (omega arith) (omega arith) (named_within c (a + 1))
  named_within (ModeScope m c w) a = within_inner a (a + 1) ((a + 1) + size c) (a + (size c + 2)) (named_in c (a + 1)) (omega arith) (omega arith) (named_within c (a + 1))

  sides_within : (ss : Sides) (b : ℕ) → Within b (b + size_all ss) (named_in_sides ss b)
  sides_within NoSide b = omega arith
  sides_within (Side p ss) b =
      within_inner b b ((b + size p + 1) + size_all ss) (b + (size p + 1 + size_all ss)) (named_in p b ++ named_in_sides ss (b + size p + 1)) (omega arith) (omega arith)
      (within_both b (b + size p + 1) ((b + size p + 1) + size_all ss) (named_in p b) (named_in_sides ss (b + size p + 1))
      (within_up_to b (b + size p) (b + size p + 1) (named_in p b) (omega arith) (named_within p b)) (sides_within ss (b + size p + 1)))

abbrev end_of : List NormalPath → ℕ → ℕ
end_of [] a = a
end_of (p ∷ ps) a = end_of ps (a + suc (size p.body))

paths_within : (ps : List NormalPath) (a : ℕ) → Within a (end_of ps a) (named_in_paths ps a)
paths_within [] a = at_itself a
  where
    at_itself : (n : ℕ) → n ≤ n
    at_itself n = omega arith
paths_within (p ∷ ps) a =
    within_both a (a + suc (size p.body)) (end_of ps (a + suc (size p.body))) (named_in p.body a) (named_in_paths ps (a + suc (size p.body)))
    (within_up_to a (a + size p.body) (a + suc (size p.body)) (named_in p.body a) (one_more a (size p.body)) (named_within p.body a)) (paths_within ps (a + suc (size p.body)))
  where
    one_more : (a n : ℕ) → a + n ≤ a + suc n
    one_more a n = omega arith

not_before : (a b : ℕ) (ss : List Spot) (s : Spot) → Within a b ss → Among s ss → a ≤ s.0
not_before a b [] s w i = absurd i
not_before a b (t ∷ ts) s w (inl e) = subst (λ (z : Spot). a ≤ z.0) (sym e) w.0
not_before a b (t ∷ ts) s w (inr i) = later a t.0 s.0 w.0 (not_before (suc t.0) b ts s w.1 i)
  where
    later : (a m n : ℕ) → a ≤ m → suc m ≤ n → a ≤ n
    later a m n h k = omega (arith, h, k)

one_name : (a b : ℕ) (ss : List Spot) → Within a b ss → (s t : Spot) → Among s ss → Among t ss → s.0 ≡ t.0 → s.1 ≡ t.1
one_name a b [] w s t i j e = absurd i
one_name a b (u ∷ us) w s t (inl h) (inl k) e = ap (λ (z : Spot). z.1) (h ∙ sym k)
one_name a b (u ∷ us) w s t (inl h) (inr j) e = absurd (never u.0 s.0 t.0 (ap (λ (z : Spot). z.0) h) e (not_before (suc u.0) b us t w.1 j))
  where
    never : (u s t : ℕ) → s ≡ u → s ≡ t → suc u ≤ t → ⊥
    never u s t h e k = absurd (omega (arith, h, e, k))
one_name a b (u ∷ us) w s t (inr i) (inl k) e = absurd (never u.0 s.0 t.0 (ap (λ (z : Spot). z.0) k) e (not_before (suc u.0) b us s w.1 i))
  where
    never : (u s t : ℕ) → t ≡ u → s ≡ t → suc u ≤ s → ⊥
    never u s t h e k = absurd (omega (arith, h, e, k))
one_name a b (u ∷ us) w s t (inr i) (inr j) e = one_name (suc u.0) b us w.1 s t i j e

-- each spot is a declaration
among_first : (x : List ℕ) (ss : List Spot) (a : ℕ) → first_named x ss ≡ Some a → Among (a, x) ss
among_first x [] a h = absurd (cc)
among_first x (s ∷ ss) a h = by (same_text x s.1) refl (λ k. among_first x ss a k) h
  where
    by : (b : Bool) → same_text x s.1 ≡ b → (first_named x ss ≡ Some a → Among (a, x) ss) → option_map (λ (s : Spot). s.0) (if b then Some s else find (λ (s : Spot). same_text x s.1) ss) ≡ Some a → Among (a, x) (s ∷ ss)
    by true e rest k = inl (λ i. (sym (some_is s.0 a k) i, same_is x s.1 e i))
    by false e rest k = inr (rest k)

module _ (f : Degree → Degree → Bool) (Q : Spot → Type 0) where
  each_flat : (g : Declared → List Spot) (ds : List Declared) → ((d : Declared) → Each Q (g d)) → Each Q (flat_map g ds)
  each_flat g [] h = tt
  each_flat g (d ∷ ds) h = each_append Q (g d) (flat_map g ds) (h d) (each_flat g ds h)

  each_spot : (x : List ℕ) (d e : Option Degree) (place : Option ℕ) → ((a : ℕ) → place ≡ Some a → Q (a, x)) → Each Q (spot_by f x d e place)
  each_spot x None e place h = tt
  each_spot x (Some d) None place h = tt
  each_spot x (Some d) (Some e) None h = tt
  each_spot x (Some d) (Some e) (Some a) h = by (f d e)
    where
      by : (b : Bool) → Each Q (if b then (a, x) ∷ [] else [])
      by true = (h a refl, tt)
      by false = tt

  each_spot_in : (x : List ℕ) (d : Option Degree) (p : Part) (a : ℕ) → Each Q (named_in p a) → Each Q (spot_in f x d p a)
  each_spot_in x d p a h =
      each_spot x d (degree_of p x) (first_place x (all_declared p a)) (λ b k. of_each Q (named_in p a) (b, x) h (among_first x (named_in p a) b (sym (first_place_is x p a) ∙ k)))

  each_row : (x : List ℕ) (d : Option Degree) (p : Part) (a : ℕ) → Each Q (named_in p a) → Each Q (spots_in_row f x d p a)
  each_row x d (Concat p r) a h =
      each_append Q (spot_in f x d p a) (spots_in_row f x d r (a + size p)) (each_spot_in x d p a (each_left Q (named_in p a) (named_in r (a + size p)) h))
      (each_row x d r (a + size p) (each_right Q (named_in p a) (named_in r (a + size p)) h))
  each_row x d (Node w) a h = each_spot_in x d (Node w) a h
  each_row x d (Edge e w) a h = each_spot_in x d (Edge e w) a h
  each_row x d (Union p r) a h = each_spot_in x d (Union p r) a h
  each_row x d (Alt ss) a h = each_spot_in x d (Alt ss) a h
  each_row x d (Quant c l n) a h = each_spot_in x d (Quant c l n) a h
  each_row x d (Opt c) a h = each_spot_in x d (Opt c) a h
  each_row x d (ModeScope m c w) a h = each_spot_in x d (ModeScope m c w) a h

  each_later : (x : List ℕ) (d : Option Degree) (ps : List NormalPath) (a : ℕ) → Each Q (named_in_paths ps a) → Each Q (spots_in_later f x d ps a)
  each_later x d [] a h = tt
  each_later x d (p ∷ ps) a h =
      let e = a + suc (size p.body) in
      each_append Q (spot_in f x d p.body a) (spots_in_later f x d ps e) (each_spot_in x d p.body a (each_left Q (named_in p.body a) (named_in_paths ps e) h))
      (each_later x d ps e (each_right Q (named_in p.body a) (named_in_paths ps e) h))

  mutual
    each_in : (p : Part) (a : ℕ) → Each Q (named_in p a) → Each Q (spots_in f p a)
    each_in (Node w) a h = tt
    each_in (Edge d w) a h = tt
    each_in (Concat p r) a h =
        let l = each_left Q (named_in p a) (named_in r (a + size p)) h in
        let m = each_right Q (named_in p a) (named_in r (a + size p)) h in
        each_append Q (spots_in f p a ++ spots_in f r (a + size p)) (flat_map (λ (d : Declared). spots_in_row f d.name (degree_of p d.name) r (a + size p)) (all_declared p a))
        (each_append Q (spots_in f p a) (spots_in f r (a + size p)) (each_in p a l) (each_in r (a + size p) m))
        (each_flat (λ (d : Declared). spots_in_row f d.name (degree_of p d.name) r (a + size p)) (all_declared p a) (λ d. each_row d.name (degree_of p d.name) r (a + size p) m))
    each_in (Union p r) a h =
        each_append Q (spots_in f p (a + 1)) (spots_in f r (a + size p + 2)) (each_in p (a + 1) (each_left Q (named_in p (a + 1)) (named_in r (a + size p + 2)) h))
        (each_in r (a + size p + 2) (each_right Q (named_in p (a + 1)) (named_in r (a + size p + 2)) h))
    each_in (Alt ss) a h = each_in_sides ss (a + 1) h
    each_in (Quant c l n) a h = each_in c (a + 2) h
    each_in (Opt c) a h = each_in c (a + 1) h
    each_in (ModeScope m c w) a h = each_in c (a + 1) h

    each_in_sides : (ss : Sides) (b : ℕ) → Each Q (named_in_sides ss b) → Each Q (spots_in_sides f ss b)
    each_in_sides NoSide b h = tt
    each_in_sides (Side p ss) b h =
        each_append Q (spots_in f p b) (spots_in_sides f ss (b + size p + 1)) (each_in p b (each_left Q (named_in p b) (named_in_sides ss (b + size p + 1)) h))
        (each_in_sides ss (b + size p + 1) (each_right Q (named_in p b) (named_in_sides ss (b + size p + 1)) h))

  each_in_paths : (ps : List NormalPath) (a : ℕ) → Each Q (named_in_paths ps a) → Each Q (spots_in_paths f ps a)
  each_in_paths [] a h = tt
  each_in_paths (p ∷ ps) a h =
      let e = a + suc (size p.body) in
      let l = each_left Q (named_in p.body a) (named_in_paths ps e) h in
      let m = each_right Q (named_in p.body a) (named_in_paths ps e) h in
      each_append Q (spots_in f p.body a ++ flat_map (λ (d : Declared). spots_in_later f d.name (degree_of p.body d.name) ps e) (all_declared p.body a)) (spots_in_paths f ps e)
      (each_append Q (spots_in f p.body a) (flat_map (λ (d : Declared). spots_in_later f d.name (degree_of p.body d.name) ps e) (all_declared p.body a)) (each_in p.body a l)
      (each_flat (λ (d : Declared). spots_in_later f d.name (degree_of p.body d.name) ps e) (all_declared p.body a) (λ d. each_later d.name (degree_of p.body d.name) ps e m)))
      (each_in_paths ps e m)

  each_at_columns : (columns : ColumnList) (ps : List NormalPath) → Each Q (named_in_paths ps 0) → Each Q (spots_at_columns f columns ps)
  each_at_columns columns ps h =
      each_flat (λ (d : Declared). spot_by f d.name (degree_of_column columns d.name) (degree_in_paths ps d.name) (first_place d.name (declared_in_paths ps 0))) (declared_in_paths ps 0)
      (λ d. each_spot d.name (degree_of_column columns d.name) (degree_in_paths ps d.name) (first_place d.name (declared_in_paths ps 0))
      (λ b k. of_each Q (named_in_paths ps 0) (b, d.name) h (among_first d.name (named_in_paths ps 0) b (sym (first_place_in_paths d.name ps 0) ∙ k))))

module _ (f : Degree → Degree → Bool) (columns : ColumnList) (ps : List NormalPath) where
  abbrev all_spots : List Spot
  all_spots = spots_in_paths f ps 0 ++ spots_at_columns f columns ps

  declared_spots : Each (λ s. Among s (named_in_paths ps 0)) all_spots
  declared_spots =
      let each = each_of (λ s. Among s (named_in_paths ps 0)) (named_in_paths ps 0) (λ s i. i) in
      each_append (λ s. Among s (named_in_paths ps 0)) (spots_in_paths f ps 0) (spots_at_columns f columns ps)
      (each_in_paths f (λ s. Among s (named_in_paths ps 0)) ps 0 each) (each_at_columns f (λ s. Among s (named_in_paths ps 0)) columns ps each)

  pub joined_is : first_joined f columns ps ≡ option_map (λ (s : Spot). s.1) (earliest (spots_in_paths f ps 0 ++ spots_at_columns f columns ps))
  joined_is =
      (λ i. option_map (λ (s : Spot). s.1) (first_among (λ x. place_is f x columns ps i) None (suspects columns [] [] (declared_in_all_paths ps))))
      ∙ first_among_is all_spots (suspects columns [] [] (declared_in_all_paths ps)) (λ x h. suspects_left f columns ps x h)
      (λ s t i j e. one_name 0 (end_of ps 0) (named_in_paths ps 0) (paths_within ps 0) s t
      (of_each (λ s. Among s (named_in_paths ps 0)) all_spots s declared_spots i) (of_each (λ s. Among s (named_in_paths ps 0)) all_spots t declared_spots j) e)
