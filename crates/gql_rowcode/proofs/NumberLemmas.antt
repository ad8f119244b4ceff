-- Numbers that ascend, and what has them.
use Rattle.std.proofs.Common.{◌≡◌, ◌≢◌, ℕ, ◌∙◌, ◌<◌, ltb, eqb, cond, Bool, true, false, ◌&&◌, List, [], ◌∷◌, ◌++◌, map, Option, Some, None, refl, sym, ap, subst, arith, inl, inr}
use Rattle.std.specs.Prelude.{find}
use Rattle.std.proofs.lemmas.Bool.{ltb-true, lt-ltb, eq-eqb, ne_eqb, and_parts, and_from}
use Rattle.gql_values3.specs.PropertyGraph.{numbers_ascend}
use Rattle.gql_rowcode.proofs.MemberLemmas.{Has, PrecedesAll, InOrder}

-- low is below high
pub numbers_bound : (low : ℕ) (ns : List ℕ) (high : ℕ) → numbers_ascend low ns high ≡ true → low < high
numbers_bound low [] high up = ltb-true low high up
numbers_bound low (n ∷ ns) high up =
    let p = and_parts (ltb low n) (numbers_ascend n ns high) up in
    let one = ltb-true low n p.0 in
    let rest = numbers_bound n ns high p.1 in
    omega arith

-- one number more, above all
pub numbers_push : (low : ℕ) (ns : List ℕ) (x high : ℕ) → numbers_ascend low ns high ≡ true → ((n : ℕ) → Has ns n → n < x) → low < x → x < high → numbers_ascend low (ns ++ x ∷ []) high ≡ true
numbers_push low [] x high up all lt below = and_from (ltb low x) (ltb x high) (lt-ltb low x lt) (lt-ltb x high below)
numbers_push low (n ∷ ns) x high up all lt below =
    let p = and_parts (ltb low n) (numbers_ascend n ns high) up in
    and_from (ltb low n) (numbers_ascend n (ns ++ x ∷ []) high) p.0 (numbers_push n ns x high p.1 (λ m h. all m (inr h)) (all n (inl refl)) below)

module _ {X : Type 0} (key : X → ℕ) where
  abbrev pub NumberLess : X → X → Type 0
  NumberLess a b = key a < key b

  -- each is between the bounds
  pub number_within : (xs : List X) (low high : ℕ) → numbers_ascend low (map key xs) high ≡ true → (y : X) → Has xs y → (low < key y) × (key y < high)
  number_within [] low high up y h = absurd h
  number_within (x ∷ xs) low high up y (inl e) =
      let p = and_parts (ltb low (key x)) (numbers_ascend (key x) (map key xs) high) up in
      let above = ltb-true low (key x) p.0 in
      let below = numbers_bound (key x) (map key xs) high p.1 in
      let is : key y ≡ key x = ap key e in
      (omega arith, omega arith)
  number_within (x ∷ xs) low high up y (inr h) =
      let p = and_parts (ltb low (key x)) (numbers_ascend (key x) (map key xs) high) up in
      let above = ltb-true low (key x) p.0 in
      let rest = number_within xs (key x) high p.1 y h in
      (let lt = rest.0 in omega arith, rest.1)

  pub numbers_in_order : (xs : List X) (low high : ℕ) → numbers_ascend low (map key xs) high ≡ true → InOrder NumberLess xs
  numbers_in_order [] low high up = tt
  numbers_in_order (x ∷ xs) low high up =
      let p = and_parts (ltb low (key x)) (numbers_ascend (key x) (map key xs) high) up in
      (λ y h. (number_within xs (key x) high p.1 y h).0, numbers_in_order xs (key x) high p.1)

  found_first : (b : Bool) (y : X) (r : Option X) → b ≡ true → cond b (Some y) r ≡ Some y
  found_first true y r e = refl
  found_first false y r e = absurd (cc)

  found_behind : (b : Bool) (y : X) (r : Option X) → b ≡ false → cond b (Some y) r ≡ r
  found_behind true y r e = absurd (cc)
  found_behind false y r e = refl

  -- what has a number is found by it
  pub find_number : (xs : List X) (n : ℕ) (x : X) → InOrder NumberLess xs → Has xs x → key x ≡ n → find (λ y. eqb (key y) n) xs ≡ Some x
  find_number [] n x up h e = absurd h
  find_number (y ∷ ys) n x up (inl same) e =
      found_first (eqb (key y) n) y (find (λ z. eqb (key z) n) ys) (eq-eqb (key y) n (ap key (sym same) ∙ e)) ∙ ap (λ (z : X). Some z) (sym same)
  find_number (y ∷ ys) n x up (inr h) e =
      let less : key y < key x = up.0 x h in
      let other : key y ≢ n = λ same. omega arith in
      found_behind (eqb (key y) n) y (find (λ z. eqb (key z) n) ys) (ne_eqb (key y) n other) ∙ find_number ys n x up.1 h e

-- the first that passes stays the first with more behind it
stays_case : {X : Type 0} (b : Bool) (y x : X) (r s : Option X) → (r ≡ Some x → s ≡ Some x) → cond b (Some y) r ≡ Some x → cond b (Some y) s ≡ Some x
stays_case true y x r s rest e = e
stays_case false y x r s rest e = rest e

pub find_left : {X : Type 0} (p : X → Bool) (xs ys : List X) (x : X) → find p xs ≡ Some x → find p (xs ++ ys) ≡ Some x
find_left p [] ys x e = absurd (cc)
find_left p (z ∷ zs) ys x e = stays_case (p z) z x (find p zs) (find p (zs ++ ys)) (find_left p zs ys x) e
