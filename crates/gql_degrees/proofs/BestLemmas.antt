-- The name at the least place over names that cover a list of spots is the earliest of the list, where a place has one name.
use Rattle.std.proofs.Common.{◌≡◌, ℕ, ◌≤◌, min, inl, inr, Bool, true, false, ◌||◌, List, [], ◌∷◌, Option, Some, None, refl, sym, ap, ◌∙◌, subst, arith}
use Prim.{⊥}
use Rattle.std.specs.Prelude.{option_map, nat_le, nat_lt, if◌then◌else◌}
use Rattle.std.proofs.lemmas.Bool.Decides.{nat_tests}
use Rattle.std.proofs.lemmas.Bool.{leb-true, ltb-false}
use Rattle.gql_values3.specs.Texts.{same_text}
use Rattle.gql_values3.proofs.WordLemmas.{same_is}
use Rattle.gql_ast.specs.ClauseColumns.{ColumnList, is_column}
use Rattle.gql_norm.specs.Selection.{Among}
use Rattle.gql_norm.specs.JoinDefects.{Spot, earlier, earliest}
use Rattle.gql_degrees.specs.Machinery.JoinWalk.{sooner, sooner_named, first_among}
use Rattle.gql_degrees.proofs.PlaceLemmas.{place_of, least_of}
use Rattle.gql_expr_checks.proofs.KnowingLemmas.{same_text-refl}

ge_of : (a b : ℕ) → nat_le a b ≡ false → b ≤ a
ge_of a b h = grind (arith, nat_tests)

lt_of : (a b : ℕ) → nat_lt a b ≡ true → a ≤ b
lt_of a b h = grind (arith, nat_tests)

-- a place that is there and at or before another
abbrev pub Below : Option ℕ → ℕ → Type 0
Below None n = ⊥
Below (Some a) n = a ≤ n

below_left : (a b : Option ℕ) (n : ℕ) → Below a n → Below (sooner a b) n
below_left None b n h = absurd h
below_left (Some a) None n h = h
below_left (Some a) (Some b) n h = omega (arith, h)

below_right : (a b : Option ℕ) (n : ℕ) → Below b n → Below (sooner a b) n
below_right None b n h = h
below_right (Some a) None n h = absurd h
below_right (Some a) (Some b) n h = omega (arith, h)

-- the least place of a name is one of its places, and none of them is before it
pub least_reached : (L : List Spot) (s : Spot) → Among s L → Below (least_of s.1 L) s.0
least_reached [] s i = absurd i
least_reached (t ∷ ts) s (inl e) = subst (λ (z : Spot). Below (least_of z.1 (t ∷ ts)) z.0) (sym e) (below_left (place_of t.1 t) (least_of t.1 ts) t.0 (by (same_text t.1 t.1) (same_text-refl t.1)))
  where
    at_itself : (n : ℕ) → n ≤ n
    at_itself n = omega arith

    by : (b : Bool) → b ≡ true → Below (if b then Some t.0 else None) t.0
    by true h = at_itself t.0
    by false h = absurd (cc)
least_reached (t ∷ ts) s (inr i) = below_right (place_of s.1 t) (least_of s.1 ts) s.0 (least_reached ts s i)

abbrev or_else : ℕ → Option ℕ → ℕ
or_else a None = a
or_else a (Some n) = n

pub some_is : (a b : ℕ) → Some a ≡ Some b → a ≡ b
some_is a b h = ap (or_else a) h

pub least_there : (x : List ℕ) (L : List Spot) (a : ℕ) → least_of x L ≡ Some a → Among (a, x) L
least_there x [] a h = absurd (cc)
least_there x (s ∷ ss) a h = by (same_text x s.1) refl (λ k. least_there x ss a k) (least_of x ss) refl h
  where
    this : same_text x s.1 ≡ true → a ≡ s.0 → Among (a, x) (s ∷ ss)
    this e k = inl (λ i. (k i, same_is x s.1 e i))

    lesser : (m n a : ℕ) → min m n ≡ a → (b : Bool) → nat_le m n ≡ b → (a ≡ m → Among (a, x) (s ∷ ss)) → (a ≡ n → Among (a, x) (s ∷ ss)) → Among (a, x) (s ∷ ss)
    lesser m n a h true k f g = let l = leb-true m n k in f (omega (arith, h, l))
    lesser m n a h false k f g = let l = ge_of m n k in g (omega (arith, h, l))

    by : (b : Bool) → same_text x s.1 ≡ b → (least_of x ss ≡ Some a → Among (a, x) ss) → (o : Option ℕ) → least_of x ss ≡ o → sooner (if b then Some s.0 else None) o ≡ Some a → Among (a, x) (s ∷ ss)
    by false e rest o k h = inr (rest (k ∙ h))
    by true e rest None k h = this e (sym (some_is s.0 a h))
    by true e rest (Some n) k h =
        lesser s.0 n a (some_is (min s.0 n) a h) (nat_le s.0 n) refl (this e) (λ q. inr (rest (k ∙ ap Some (sym q))))

-- the earliest of a list
abbrev pub IsEarliest : List Spot → Option Spot → Type 0
IsEarliest L None = (s : Spot) → Among s L → ⊥
IsEarliest L (Some s) = Among s L × ((t : Spot) → Among t L → s.0 ≤ t.0)

earlier_is : (s t : Spot) (b : Bool) → nat_le s.0 t.0 ≡ b → Among (if b then s else t) (s ∷ t ∷ []) × ((if b then s else t).0 ≤ s.0) × ((if b then s else t).0 ≤ t.0)
earlier_is s t true h = (inl refl, omega arith, leb-true s.0 t.0 h)
earlier_is s t false h = (inr (inl refl), ge_of s.0 t.0 h, omega arith)

among_two : (s t u : Spot) (ss : List Spot) → Among u (s ∷ t ∷ []) → Among u (s ∷ t ∷ ss)
among_two s t u ss (inl e) = inl e
among_two s t u ss (inr (inl e)) = inr (inl e)
among_two s t u ss (inr (inr i)) = absurd i

at_most : (a b c : ℕ) → a ≤ b → b ≤ c → a ≤ c
at_most a b c h k = omega (arith, h, k)

with_one : (s t : Spot) (ss : List Spot) (o : Option Spot) → IsEarliest (earlier s t ∷ ss) o → IsEarliest (s ∷ t ∷ ss) o
with_one s t ss None h = absurd (h (earlier s t) (inl refl))
with_one s t ss (Some u) h = (there h.0, least)
  where
    e : Among (earlier s t) (s ∷ t ∷ []) × ((earlier s t).0 ≤ s.0) × ((earlier s t).0 ≤ t.0)
    e = earlier_is s t (nat_le s.0 t.0) refl

    there : Among u (earlier s t ∷ ss) → Among u (s ∷ t ∷ ss)
    there (inl k) = subst (λ z. Among z (s ∷ t ∷ ss)) (sym k) (among_two s t (earlier s t) ss e.0)
    there (inr i) = inr (inr i)

    least : (v : Spot) → Among v (s ∷ t ∷ ss) → u.0 ≤ v.0
    least v (inl k) = subst (λ (z : Spot). u.0 ≤ z.0) (sym k) (at_most u.0 (earlier s t).0 s.0 (h.1 (earlier s t) (inl refl)) e.1)
    least v (inr (inl k)) = subst (λ (z : Spot). u.0 ≤ z.0) (sym k) (at_most u.0 (earlier s t).0 t.0 (h.1 (earlier s t) (inl refl)) e.2)
    least v (inr (inr i)) = h.1 v (inr i)

earliest_from : (s : Spot) (ss : List Spot) → IsEarliest (s ∷ ss) (earliest (s ∷ ss))
earliest_from s [] = (inl refl, only)
  where
    at_itself : (n : ℕ) → n ≤ n
    at_itself n = omega arith

    only : (t : Spot) → Among t (s ∷ []) → s.0 ≤ t.0
    only t (inl e) = subst (λ (z : Spot). s.0 ≤ z.0) (sym e) (at_itself s.0)
    only t (inr i) = absurd i
earliest_from s (t ∷ ss) = with_one s t ss (earliest (earlier s t ∷ ss)) (earliest_from (earlier s t) ss)

earliest_is : (L : List Spot) → IsEarliest L (earliest L)
earliest_is [] = λ s i. absurd i
earliest_is (s ∷ ss) = earliest_from s ss

abbrev OneName : List Spot → Type 0
OneName L = (s t : Spot) → Among s L → Among t L → s.0 ≡ t.0 → s.1 ≡ t.1

same_place : (a b : ℕ) → a ≤ b → b ≤ a → a ≡ b
same_place a b h k = omega (arith, h, k)

same_earliest : (L : List Spot) → OneName L → (o p : Option Spot) → IsEarliest L o → IsEarliest L p → option_map (λ (s : Spot). s.1) o ≡ option_map (λ (s : Spot). s.1) p
same_earliest L u None None h k = refl
same_earliest L u None (Some t) h k = absurd (h t k.0)
same_earliest L u (Some s) None h k = absurd (k s h.0)
same_earliest L u (Some s) (Some t) h k = ap Some (u s t h.0 k.0 (same_place s.0 t.0 (h.1 t k.0) (k.1 s h.0)))

-- what the code keeps is of the list, and at or before the least place of each name
module _ (L : List Spot) where
  abbrev place : List ℕ → Option ℕ
  place x = least_of x L

  abbrev Listed : Option Spot → Type 0
  Listed None = Unit {0}
  Listed (Some s) = Among s L

  abbrev place_in : Option Spot → Option ℕ
  place_in o = option_map (λ (s : Spot). s.0) o

  kept_listed : (best : Option Spot) (o : Option ℕ) (x : List ℕ) → Listed best → ((a : ℕ) → o ≡ Some a → Among (a, x) L) → Listed (sooner_named best o x)
  kept_listed best None x h k = h
  kept_listed None (Some a) x h k = k a refl
  kept_listed (Some s) (Some a) x h k = by (nat_lt a s.0)
    where
      by : (b : Bool) → Listed (if b then Some (a, x) else Some s)
      by true = k a refl
      by false = h

  kept_below : (best : Option Spot) (o : Option ℕ) (x : List ℕ) (n : ℕ) → Below (place_in best) n → Below (place_in (sooner_named best o x)) n
  kept_below best None x n h = h
  kept_below None (Some a) x n h = absurd h
  kept_below (Some s) (Some a) x n h = by (nat_lt a s.0) refl
    where
      by : (b : Bool) → nat_lt a s.0 ≡ b → Below (place_in (if b then Some (a, x) else Some s)) n
      by true e = at_most a s.0 n (lt_of a s.0 e) h
      by false e = h

  new_below : (best : Option Spot) (a : ℕ) (x : List ℕ) (n : ℕ) → a ≤ n → Below (place_in (sooner_named best (Some a) x)) n
  new_below None a x n h = h
  new_below (Some s) a x n h = by (nat_lt a s.0) refl
    where
      by : (b : Bool) → nat_lt a s.0 ≡ b → Below (place_in (if b then Some (a, x) else Some s)) n
      by true e = h
      by false e = at_most s.0 a n (ltb-false a s.0 e) h

  some_below : (best : Option Spot) (o : Option ℕ) (x : List ℕ) (n : ℕ) → Below o n → Below (place_in (sooner_named best o x)) n
  some_below best None x n h = absurd h
  some_below best (Some a) x n h = new_below best a x n h

  all_listed : (cs : ColumnList) (best : Option Spot) → Listed best → Listed (first_among place best cs)
  all_listed [] best h = h
  all_listed (c ∷ cs) best h = all_listed cs (sooner_named best (place c.0) c.0) (kept_listed best (place c.0) c.0 h (least_there c.0 L))

  still_below : (cs : ColumnList) (best : Option Spot) (n : ℕ) → Below (place_in best) n → Below (place_in (first_among place best cs)) n
  still_below [] best n h = h
  still_below (c ∷ cs) best n h = still_below cs (sooner_named best (place c.0) c.0) n (kept_below best (place c.0) c.0 n h)

  all_below : (cs : ColumnList) (best : Option Spot) (x : List ℕ) (n : ℕ) → is_column cs x ≡ true → Below (place x) n → Below (place_in (first_among place best cs)) n
  all_below [] best x n h k = absurd (cc)
  all_below (c ∷ cs) best x n h k = by (same_text x c.0) refl (λ l. all_below cs (sooner_named best (place c.0) c.0) x n l k) h
    where
      by : (b : Bool) → same_text x c.0 ≡ b → (is_column cs x ≡ true → Below (place_in (first_among place (sooner_named best (place c.0) c.0) cs)) n) → (b || is_column cs x) ≡ true → Below (place_in (first_among place (sooner_named best (place c.0) c.0) cs)) n
      by true e rest h = still_below cs (sooner_named best (place c.0) c.0) n (some_below best (place c.0) c.0 n (subst (λ y. Below (place y) n) (same_is x c.0 e) k))
      by false e rest h = rest h

  module _ (cs : ColumnList) (covers : (x : List ℕ) → is_column cs x ≡ false → place x ≡ None) where
    each_below : (s : Spot) → Among s L → Below (place_in (first_among place None cs)) s.0
    each_below s i = by (is_column cs s.1) refl
      where
        by : (b : Bool) → is_column cs s.1 ≡ b → Below (place_in (first_among place None cs)) s.0
        by true e = all_below cs None s.1 s.0 e (least_reached L s i)
        by false e = absurd (subst (λ o. Below o s.0) (covers s.1 e) (least_reached L s i))

    kept_earliest : (o : Option Spot) → Listed o → ((s : Spot) → Among s L → Below (place_in o) s.0) → IsEarliest L o
    kept_earliest None h k = k
    kept_earliest (Some s) h k = (h, k)

    pub first_among_is : OneName L → option_map (λ (s : Spot). s.1) (first_among place None cs) ≡ option_map (λ (s : Spot). s.1) (earliest L)
    first_among_is u =
        same_earliest L u (first_among place None cs) (earliest L) (kept_earliest (first_among place None cs) (all_listed cs None tt) each_below) (earliest_is L)
