-- Lists of what has a name, with one more item and without one: what they are with each item seen otherwise, and that they
-- stay in order.
use Rattle.std.proofs.Common.{◌≡◌, ◌∙◌, ℕ, suc, ◌+◌, ◌≤◌, cond, Bool, true, false, not, ◌&&◌, List, [], ◌∷◌, map, length, Option, None, Some, refl, ap, arith}
use Rattle.std.specs.Prelude.{find, filter, option_map}
use Rattle.std.specs.List.{list_all, position_or_len, insert}
use Rattle.std.specs.declared.cmp.Ordering.{Ordering}
use Rattle.std.specs.declared.cmp.Ordering.TheVariants.{Less, Equal, Greater}
use Rattle.std.specs.Ordering.{is_lt}
use Rattle.std.proofs.lemmas.Bool.{and_from, and_parts}
use Rattle.gql_values3.specs.Texts.{same_text, ascend_above, texts_ascend}
use Rattle.gql_graph.specs.Catalog.{named, is_before, put_named, without_named}
use Rattle.gql_graph.proofs.AscendingTexts.{text_cmp, turned, tied, texts_ascend-filter}
use Rattle.gql_graph.proofs.CatalogLemmas.{names}

-- the place of a search
pub within_len : {A : Type 0} (p : A → Bool) (xs : List A) → position_or_len p xs ≤ length xs
within_len p [] = omega arith
within_len p (x ∷ xs) = step (p x) (position_or_len p xs) (length xs) (within_len p xs)
  where
    step : (b : Bool) (i n : ℕ) → i ≤ n → cond (not b) (1 + i) 0 ≤ suc n
    step true i n h = omega arith
    step false i n h = omega arith

module _ {X : Type 0} (name : List ℕ) (x : X) where
  put_case : (b : Bool) (i : ℕ) (y : List ℕ × X) (ys zs : List (List ℕ × X)) → insert ys i (name, x) ≡ zs
      → insert (y ∷ ys) (cond (not b) (1 + i) 0) (name, x) ≡ cond b ((name, x) ∷ y ∷ ys) (y ∷ zs)
  put_case true i y ys zs h = refl
  put_case false i y ys zs h = let next : 1 + i ≡ suc i = omega arith in rw next (ap (λ ws. y ∷ ws) h)

  -- it is put before the first greater name
  pub put_there : (ys : List (List ℕ × X)) → insert ys (position_or_len (λ (y : List ℕ × X). is_before name y.0) ys) (name, x) ≡ put_named name x ys
  put_there [] = refl
  put_there (y ∷ ys) =
      put_case (is_before name y.0) (position_or_len (λ (z : List ℕ × X). is_before name z.0) ys) y ys (put_named name x ys) (put_there ys)

-- each item seen otherwise, under its name
module _ {X Y : Type 0} (f : X → Y) where
  abbrev pub under : List ℕ × X → List ℕ × Y
  under p = (p.0, f p.1)

  named_case : (b : Bool) (y : List ℕ × X) (r : Option (List ℕ × X)) (s : Option (List ℕ × Y))
      → option_map f (option_map (λ (z : List ℕ × X). z.1) r) ≡ option_map (λ (z : List ℕ × Y). z.1) s
      → option_map f (option_map (λ (z : List ℕ × X). z.1) (cond b (Some y) r)) ≡ option_map (λ (z : List ℕ × Y). z.1) (cond b (Some (under y)) s)
  named_case true y r s h = refl
  named_case false y r s h = h

  pub named_under : (name : List ℕ) (ys : List (List ℕ × X)) → option_map f (named name ys) ≡ named name (map under ys)
  named_under name [] = refl
  named_under name (y ∷ ys) =
      named_case (same_text name y.0) y (find (λ (z : List ℕ × X). same_text name z.0) ys) (find (λ (z : List ℕ × Y). same_text name z.0) (map under ys)) (named_under name ys)

  either_list : (b : Bool) (xs ys : List (List ℕ × X)) (zs ws : List (List ℕ × Y)) → map under xs ≡ zs → map under ys ≡ ws → map under (cond b xs ys) ≡ cond b zs ws
  either_list true xs ys zs ws h k = h
  either_list false xs ys zs ws h k = k

  pub put_under : (name : List ℕ) (x : X) (ys : List (List ℕ × X)) → map under (put_named name x ys) ≡ put_named name (f x) (map under ys)
  put_under name x [] = refl
  put_under name x (y ∷ ys) =
      either_list (is_before name y.0) ((name, x) ∷ y ∷ ys) (y ∷ put_named name x ys) ((name, f x) ∷ under y ∷ map under ys) (under y ∷ put_named name (f x) (map under ys))
      refl (ap (λ zs. under y ∷ zs) (put_under name x ys))

  pub without_under : (name : List ℕ) (ys : List (List ℕ × X)) → map under (without_named name ys) ≡ without_named name (map under ys)
  without_under name [] = refl
  without_under name (y ∷ ys) =
      either_list (not (same_text name y.0)) (y ∷ without_named name ys) (without_named name ys) (under y ∷ without_named name (map under ys)) (without_named name (map under ys))
      (ap (λ zs. under y ∷ zs) (without_under name ys)) (without_under name ys)

-- of two names that differ, one is below the other
other_way : (o : Ordering) (a b : List ℕ) → text_cmp a b ≡ o → is_lt o ≡ false → same_text a b ≡ false → is_before b a ≡ true
other_way Less a b e below apart = absurd (cc)
other_way Equal a b e below apart = let tie : same_text a b ≡ true = tied a b e in absurd (cc)
other_way Greater a b e below apart = ap is_lt (turned a b e)

-- under a name that nothing has
module _ {X : Type 0} (name : List ℕ) where
  none_case : (b : Bool) (y : List ℕ × X) (r : Option (List ℕ × X)) → option_map (λ (z : List ℕ × X). z.1) (cond b (Some y) r) ≡ None
      → (b ≡ false) × (option_map (λ (z : List ℕ × X). z.1) r ≡ None)
  none_case true y r e = absurd (cc)
  none_case false y r e = (refl, e)

  none_parts : (y : List ℕ × X) (ys : List (List ℕ × X)) → named name (y ∷ ys) ≡ None → (same_text name y.0 ≡ false) × (named name ys ≡ None)
  none_parts y ys e = none_case (same_text name y.0) y (find (λ (z : List ℕ × X). same_text name z.0) ys) e

  module _ (x : X) where
    above_case : (b : Bool) (low : List ℕ) (y : List ℕ × X) (ys : List (List ℕ × X)) → is_before name y.0 ≡ b → is_before low name ≡ true → same_text name y.0 ≡ false
        → ascend_above low (names (y ∷ ys)) ≡ true → (is_before y.0 name ≡ true → ascend_above y.0 (names ys) ≡ true → ascend_above y.0 (names (put_named name x ys)) ≡ true)
        → ascend_above low (names (cond b ((name, x) ∷ y ∷ ys) (y ∷ put_named name x ys))) ≡ true
    above_case true low y ys e p apart up more =
        and_from (is_before low name) (is_before name y.0 && ascend_above y.0 (names ys)) p
        (and_from (is_before name y.0) (ascend_above y.0 (names ys)) e ((and_parts (is_before low y.0) (ascend_above y.0 (names ys)) up).1))
    above_case false low y ys e p apart up more =
        let parts = and_parts (is_before low y.0) (ascend_above y.0 (names ys)) up in
        and_from (is_before low y.0) (ascend_above y.0 (names (put_named name x ys))) parts.0 (more (other_way (text_cmp name y.0) name y.0 refl e apart) parts.1)

    put_above : (low : List ℕ) (ys : List (List ℕ × X)) → is_before low name ≡ true → named name ys ≡ None → ascend_above low (names ys) ≡ true → ascend_above low (names (put_named name x ys)) ≡ true
    put_above low [] p none up = and_from (is_before low name) true p refl
    put_above low (y ∷ ys) p none up =
        let parts = none_parts y ys none in
        above_case (is_before name y.0) low y ys refl p parts.0 up (λ q h. put_above y.0 ys q parts.1 h)

    front_case : (b : Bool) (y : List ℕ × X) (ys : List (List ℕ × X)) → is_before name y.0 ≡ b → same_text name y.0 ≡ false → ascend_above y.0 (names ys) ≡ true
        → (is_before y.0 name ≡ true → ascend_above y.0 (names (put_named name x ys)) ≡ true) → texts_ascend (names (cond b ((name, x) ∷ y ∷ ys) (y ∷ put_named name x ys))) ≡ true
    front_case true y ys e apart up more = and_from (is_before name y.0) (ascend_above y.0 (names ys)) e up
    front_case false y ys e apart up more = more (other_way (text_cmp name y.0) name y.0 refl e apart)

    pub names_ascend-put : (ys : List (List ℕ × X)) → named name ys ≡ None → texts_ascend (names ys) ≡ true → texts_ascend (names (put_named name x ys)) ≡ true
    names_ascend-put [] none up = refl
    names_ascend-put (y ∷ ys) none up =
        let parts = none_parts y ys none in
        front_case (is_before name y.0) y ys refl parts.0 up (λ q. put_above y.0 ys q parts.1 up)

    all_case : (q : List ℕ × X → Bool) (b : Bool) (y : List ℕ × X) (ys zs : List (List ℕ × X)) → q (name, x) ≡ true → list_all q (y ∷ ys) ≡ true → list_all q zs ≡ true
        → list_all q (cond b ((name, x) ∷ y ∷ ys) (y ∷ zs)) ≡ true
    all_case q true y ys zs one all more = and_from (q (name, x)) (list_all q (y ∷ ys)) one all
    all_case q false y ys zs one all more = and_from (q y) (list_all q zs) ((and_parts (q y) (list_all q ys) all).0) more

    -- what all have, all have still
    pub list_all-put : (q : List ℕ × X → Bool) (ys : List (List ℕ × X)) → q (name, x) ≡ true → list_all q ys ≡ true → list_all q (put_named name x ys) ≡ true
    list_all-put q [] one all = and_from (q (name, x)) true one refl
    list_all-put q (y ∷ ys) one all =
        all_case q (is_before name y.0) y ys (put_named name x ys) one all (list_all-put q ys one ((and_parts (q y) (list_all q ys) all).1))

  kept_names : (b : Bool) (y : List ℕ × X) (ys : List (List ℕ × X)) (ks : List (List ℕ)) → names ys ≡ ks → names (cond b (y ∷ ys) ys) ≡ cond b (y.0 ∷ ks) ks
  kept_names true y ys ks h = ap (λ js. y.0 ∷ js) h
  kept_names false y ys ks h = h

  pub names-without : (ys : List (List ℕ × X)) → names (without_named name ys) ≡ filter (λ k. not (same_text name k)) (names ys)
  names-without [] = refl
  names-without (y ∷ ys) = kept_names (not (same_text name y.0)) y (without_named name ys) (filter (λ k. not (same_text name k)) (names ys)) (names-without ys)

  pub names_ascend-without : (ys : List (List ℕ × X)) → texts_ascend (names ys) ≡ true → texts_ascend (names (without_named name ys)) ≡ true
  names_ascend-without ys up = ap texts_ascend (names-without ys) ∙ texts_ascend-filter (λ k. not (same_text name k)) (names ys) up

  rest_case : (q : List ℕ × X → Bool) (b : Bool) (y : List ℕ × X) (zs : List (List ℕ × X)) → q y ≡ true → list_all q zs ≡ true → list_all q (cond b (y ∷ zs) zs) ≡ true
  rest_case q true y zs one more = and_from (q y) (list_all q zs) one more
  rest_case q false y zs one more = more

  pub list_all-without : (q : List ℕ × X → Bool) (ys : List (List ℕ × X)) → list_all q ys ≡ true → list_all q (without_named name ys) ≡ true
  list_all-without q [] all = refl
  list_all-without q (y ∷ ys) all =
      let parts = and_parts (q y) (list_all q ys) all in
      rest_case q (not (same_text name y.0)) y (without_named name ys) parts.0 (list_all-without q ys parts.1)
