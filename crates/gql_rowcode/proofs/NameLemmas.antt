-- Lists of what has a name: which stands under a name, and what one more changes.
use Rattle.std.proofs.Common.{◌≡◌, ℕ, ◌∙◌, cond, Bool, true, false, List, [], ◌∷◌, Option, Some, None, refl, sym, ap, subst, inl, inr, ◌⊎◌}
use Rattle.std.specs.Prelude.{find, option_map}
use Rattle.std.specs.declared.cmp.Ordering.TheVariants.{Less, Equal}
use Rattle.std.specs.Ordering.{is_lt, nat_cmp}
use Rattle.std.specs.Cmp.Lexicographic.{slice_cmp}
use Rattle.std.proofs.lemmas.Cmp.{tied_itself, nat_list_cmp_total}
use Rattle.std.proofs.lemmas.Bool.{and_parts}
use Rattle.std.proofs.lemmas.Slice.Eq.{bytes_eq-Decides}
use Rattle.gql_values3.specs.Texts.{same_text, ascend_above, texts_ascend}
use Rattle.gql_values3.proofs.WordLemmas.{same_is}
use Rattle.gql_graph.specs.Catalog.{named, is_before, put_named}
use Rattle.gql_graph.proofs.CatalogLemmas.{names}
use Rattle.gql_graph.proofs.AscendingTexts.{less_if}
use Rattle.gql_rowcode.proofs.MemberLemmas.{Has, InOrder, find_has, order_map}

-- one after the other
pub below_chain : (a b c : List ℕ) → is_before a b ≡ true → is_before b c ≡ true → is_before a c ≡ true
below_chain a b c p q = ap is_lt (nat_list_cmp_total.trans a b c (less_if _ p) (less_if _ q))

-- none is below itself
pub below_itself : (a : List ℕ) → is_before a a ≡ true → ⊥
below_itself a p = let tie : slice_cmp nat_cmp a a ≡ Equal = tied_itself nat_list_cmp_total a in let less : slice_cmp nat_cmp a a ≡ Less = less_if _ p in cc

pub text_same : (a : List ℕ) → same_text a a ≡ true
text_same a = (bytes_eq-Decides a a).1 refl

-- texts below one another
abbrev pub TextLess : List ℕ → List ℕ → Type 0
TextLess a b = is_before a b ≡ true

text_above : (low : List ℕ) (xs : List (List ℕ)) → ascend_above low xs ≡ true → (y : List ℕ) → Has xs y → TextLess low y
text_above low [] up y h = absurd h
text_above low (x ∷ xs) up y (inl e) = ap (λ (z : List ℕ). is_before low z) e ∙ (and_parts (is_before low x) (ascend_above x xs) up).0
text_above low (x ∷ xs) up y (inr h) =
    let p = and_parts (is_before low x) (ascend_above x xs) up in
    below_chain low x y p.0 (text_above x xs p.1 y h)

text_behind : (low : List ℕ) (xs : List (List ℕ)) → ascend_above low xs ≡ true → InOrder TextLess xs
text_behind low [] up = tt
text_behind low (x ∷ xs) up =
    let p = and_parts (is_before low x) (ascend_above x xs) up in
    (text_above x xs p.1, text_behind x xs p.1)

-- texts that strictly ascend
pub texts_in_order : (xs : List (List ℕ)) → texts_ascend xs ≡ true → InOrder TextLess xs
texts_in_order [] up = tt
texts_in_order (x ∷ xs) up = (text_above x xs up, text_behind x xs up)

module _ {A : Type 0} where
  abbrev pub NameLess : List ℕ × A → List ℕ × A → Type 0
  NameLess p q = is_before p.0 q.0 ≡ true

  pub names_in_order : (xs : List (List ℕ × A)) → texts_ascend (names xs) ≡ true → InOrder NameLess xs
  names_in_order xs up = order_map TextLess (λ (x : List ℕ × A). x.0) xs (texts_in_order (names xs) up)

  found_some : (r : Option (List ℕ × A)) (a : A) → option_map (λ (x : List ℕ × A). x.1) r ≡ Some a → (p : List ℕ × A) × (r ≡ Some p) × (p.1 ≡ a)
  found_some None a e = absurd (cc)
  found_some (Some p) a e = (p, refl, cc)

  -- what stands under a name is in the list
  pub named_has : (name : List ℕ) (xs : List (List ℕ × A)) (a : A) → named name xs ≡ Some a → Has xs (name, a)
  named_has name xs a e =
      let f = found_some (find (λ (x : List ℕ × A). same_text name x.0) xs) a e in
      let there = find_has (λ (x : List ℕ × A). same_text name x.0) xs f.0 f.1 in
      let same : f.0 ≡ (name, a) = ap (λ (n : List ℕ). (n, f.0.1)) (sym (same_is name f.0.0 there.1)) ∙ ap (λ (b : A). (name, b)) f.2 in
      subst (Has xs) same there.0

  pass : (b : Bool) (y : List ℕ × A) (s : Option (List ℕ × A)) → b ≡ true → option_map (λ (x : List ℕ × A). x.1) (cond b (Some y) s) ≡ Some y.1
  pass true y s e = refl
  pass false y s e = absurd (cc)

  skip : (b : Bool) (y : List ℕ × A) (s : Option (List ℕ × A)) → b ≡ false → option_map (λ (x : List ℕ × A). x.1) (cond b (Some y) s) ≡ option_map (λ (x : List ℕ × A). x.1) s
  skip true y s e = absurd (cc)
  skip false y s e = refl

  -- the item of that name in front, and one of another name
  pub named_here : (name : List ℕ) (y : List ℕ × A) (ys : List (List ℕ × A)) → same_text name y.0 ≡ true → named name (y ∷ ys) ≡ Some y.1
  named_here name y ys e = pass (same_text name y.0) y (find (λ (x : List ℕ × A). same_text name x.0) ys) e

  pub named_later : (name : List ℕ) (y : List ℕ × A) (ys : List (List ℕ × A)) → same_text name y.0 ≡ false → named name (y ∷ ys) ≡ named name ys
  named_later name y ys e = skip (same_text name y.0) y (find (λ (x : List ℕ × A). same_text name x.0) ys) e

  -- in order, each stands under its name
  pub has_named : (name : List ℕ) (xs : List (List ℕ × A)) (a : A) → InOrder NameLess xs → Has xs (name, a) → named name xs ≡ Some a
  has_named name [] a up h = absurd h
  has_named name (y ∷ ys) a up (inl e) =
      let same : same_text name y.0 ≡ true = ap (λ (p : List ℕ × A). same_text name p.0) (sym e) ∙ text_same name in
      named_here name y ys same ∙ ap (λ (p : List ℕ × A). Some p.1) (sym e)
  has_named name (y ∷ ys) a up (inr h) = named_later name y ys (other (same_text name y.0) refl) ∙ has_named name ys a up.1 h
    where
      other : (b : Bool) → same_text name y.0 ≡ b → same_text name y.0 ≡ false
      other true e = absurd (below_itself y.0 (ap (is_before y.0) (sym (same_is name y.0 e)) ∙ up.0 (name, a) h))
      other false e = e

  -- so there is one
  pub one_named : (name : List ℕ) (xs : List (List ℕ × A)) (a b : A) → InOrder NameLess xs → Has xs (name, a) → Has xs (name, b) → a ≡ b
  one_named name xs a b up h k = let one = has_named name xs a up h in let other = has_named name xs b up k in cc

  -- one more
  put_case : (b : Bool) (p q y : List ℕ × A) (ys zs : List (List ℕ × A)) → Has (cond b (p ∷ y ∷ ys) (y ∷ zs)) q → (Has zs q → Has ys q ⊎ (q ≡ p)) → Has (y ∷ ys) q ⊎ (q ≡ p)
  put_case true p q y ys zs (inl e) rest = inr e
  put_case true p q y ys zs (inr h) rest = inl h
  put_case false p q y ys zs (inl e) rest = inl (inl e)
  put_case false p q y ys zs (inr h) rest = elim (rest h) [ inl a ↦ inl (inr a) | inr b ↦ inr b ]

  pub put_back : (name : List ℕ) (a : A) (xs : List (List ℕ × A)) (q : List ℕ × A) → Has (put_named name a xs) q → Has xs q ⊎ (q ≡ (name, a))
  put_back name a [] q (inl e) = inr e
  put_back name a [] q (inr h) = absurd h
  put_back name a (y ∷ ys) q h = put_case (is_before name y.0) (name, a) q y ys (put_named name a ys) h (put_back name a ys q)

  keep_case : (b : Bool) (p q y : List ℕ × A) (ys zs : List (List ℕ × A)) → Has (y ∷ ys) q → (Has ys q → Has zs q) → Has (cond b (p ∷ y ∷ ys) (y ∷ zs)) q
  keep_case true p q y ys zs h rest = inr h
  keep_case false p q y ys zs (inl e) rest = inl e
  keep_case false p q y ys zs (inr h) rest = inr (rest h)

  pub put_keeps : (name : List ℕ) (a : A) (xs : List (List ℕ × A)) (q : List ℕ × A) → Has xs q → Has (put_named name a xs) q
  put_keeps name a [] q h = absurd h
  put_keeps name a (y ∷ ys) q h = keep_case (is_before name y.0) (name, a) q y ys (put_named name a ys) h (put_keeps name a ys q)

  new_case : (b : Bool) (p y : List ℕ × A) (ys zs : List (List ℕ × A)) → Has zs p → Has (cond b (p ∷ y ∷ ys) (y ∷ zs)) p
  new_case true p y ys zs h = inl refl
  new_case false p y ys zs h = inr h

  pub put_has : (name : List ℕ) (a : A) (xs : List (List ℕ × A)) → Has (put_named name a xs) (name, a)
  put_has name a [] = inl refl
  put_has name a (y ∷ ys) = new_case (is_before name y.0) (name, a) y ys (put_named name a ys) (put_has name a ys)
