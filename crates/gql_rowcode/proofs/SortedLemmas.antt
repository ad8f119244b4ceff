-- What has a name, put in order by name at last: what stands under a name is found all the same, and one item more, or the items seen
-- otherwise, are so in order, too.
use Rattle.std.proofs.Common.{◌≡◌, ℕ, ◌∙◌, cond, Bool, true, false, List, [], ◌∷◌, ◌++◌, map, refl, sym, ap, inl, inr, ◌⊎◌}
use Rattle.std.specs.Ordering.{is_lt, is_eq, nat_cmp, ordering_reverse}
use Rattle.std.specs.declared.cmp.Ordering.{Ordering}
use Rattle.std.specs.declared.cmp.Ordering.TheVariants.{Less, Equal, Greater}
use Rattle.std.specs.Cmp.Lexicographic.{slice_cmp, texts_ties}
use Rattle.std.proofs.lemmas.Cmp.{nat_list_cmp_total}
use Rattle.gql_values3.specs.Texts.{same_text}
use Rattle.gql_values3.proofs.WordLemmas.{same_is}
use Rattle.gql_graph.specs.Catalog.{named, is_before, put_named}
use Rattle.gql_eval.specs.StableSort.{inserted_in_order, stably_sorted}
use Rattle.gql_rowcode.specs.Machinery.Noted.{name_before}
use Rattle.gql_rowcode.proofs.MemberLemmas.{Has}
use Rattle.gql_rowcode.proofs.NameLemmas.{below_chain, below_itself, named_here, named_later}

-- of two names, one is below the other or they are one
not_before : (a b : List ℕ) (o : Ordering) → slice_cmp nat_cmp a b ≡ o → is_lt o ≡ false → (a ≡ b) ⊎ (is_before b a ≡ true)
not_before a b Less e no_less = absurd (cc)
not_before a b Equal e no_less = inl (same_is a b (texts_ties a b ∙ ap is_eq e))
not_before a b Greater e no_less = inr (ap is_lt (nat_list_cmp_total.antisymm b a ∙ ap ordering_reverse e))

-- below one that is not above another
below_or : (a b c : List ℕ) → is_before a b ≡ true → is_before c b ≡ false → is_before a c ≡ true
below_or a b c less no_less = elim (not_before c b (slice_cmp nat_cmp c b) refl no_less) [
  | inl same ↦ ap (is_before a) same ∙ less
  | inr above ↦ below_chain a b c less above
]

pub when : {X : Type 0} (b : Bool) (x y : X) → b ≡ true → cond b x y ≡ x
when true x y e = refl
when false x y e = absurd (cc)

pub unless : {X : Type 0} (b : Bool) (x y : X) → b ≡ false → cond b x y ≡ y
unless true x y e = absurd (cc)
unless false x y e = refl

-- an item with a name
abbrev Item : Type 0 → Type 0
Item A = List ℕ × A

module _ {A : Type 0} where
  abbrev put : Item A → List (Item A) → List (Item A)
  put p ys = put_named p.0 p.1 ys

  abbrev into : Item A → List (Item A) → List (Item A)
  into p ys = inserted_in_order name_before p ys

  into_behind : (g y : Item A) (ys : List (Item A)) → is_before y.0 g.0 ≡ true → into g (y ∷ ys) ≡ y ∷ into g ys
  into_behind g y ys e = when (is_before y.0 g.0) (y ∷ into g ys) (g ∷ y ∷ ys) e

  into_front : (g y : Item A) (ys : List (Item A)) → is_before y.0 g.0 ≡ false → into g (y ∷ ys) ≡ g ∷ y ∷ ys
  into_front g y ys e = unless (is_before y.0 g.0) (y ∷ into g ys) (g ∷ y ∷ ys) e

  put_front : (p y : Item A) (ys : List (Item A)) → is_before p.0 y.0 ≡ true → put p (y ∷ ys) ≡ p ∷ y ∷ ys
  put_front p y ys e = when (is_before p.0 y.0) (p ∷ y ∷ ys) (y ∷ put p ys) e

  put_behind : (p y : Item A) (ys : List (Item A)) → is_before p.0 y.0 ≡ false → put p (y ∷ ys) ≡ y ∷ put p ys
  put_behind p y ys e = unless (is_before p.0 y.0) (p ∷ y ∷ ys) (y ∷ put p ys) e

  -- one put behind its equals, and one in front of them
  swap_case : (g p y : Item A) (ys : List (Item A)) (a b c : Bool) → is_before p.0 y.0 ≡ a → is_before y.0 g.0 ≡ b → is_before p.0 g.0 ≡ c → into g (put p ys) ≡ put p (into g ys) → into g (put p (y ∷ ys)) ≡ put p (into g (y ∷ ys))
  swap_case g p y ys true true c ea eb ec ih =
      ap (into g) (put_front p y ys ea) ∙ into_behind g p (y ∷ ys) (below_chain p.0 y.0 g.0 ea eb) ∙ ap (λ (zs : List (Item A)). p ∷ zs) (into_behind g y ys eb)
      ∙ sym (ap (put p) (into_behind g y ys eb) ∙ put_front p y (into g ys) ea)
  swap_case g p y ys true false true ea eb ec ih =
      ap (into g) (put_front p y ys ea) ∙ into_behind g p (y ∷ ys) ec ∙ ap (λ (zs : List (Item A)). p ∷ zs) (into_front g y ys eb)
      ∙ sym (ap (put p) (into_front g y ys eb) ∙ put_front p g (y ∷ ys) ec)
  swap_case g p y ys true false false ea eb ec ih =
      ap (into g) (put_front p y ys ea) ∙ into_front g p (y ∷ ys) ec
      ∙ sym (ap (put p) (into_front g y ys eb) ∙ put_behind p g (y ∷ ys) ec ∙ ap (λ (zs : List (Item A)). g ∷ zs) (put_front p y ys ea))
  swap_case g p y ys false true c ea eb ec ih =
      ap (into g) (put_behind p y ys ea) ∙ into_behind g y (put p ys) eb ∙ ap (λ (zs : List (Item A)). y ∷ zs) ih
      ∙ sym (ap (put p) (into_behind g y ys eb) ∙ put_behind p y (into g ys) ea)
  swap_case g p y ys false false true ea eb ec ih = absurd (both (below_or p.0 g.0 y.0 ec eb))
    where
      both : is_before p.0 y.0 ≡ true → ⊥
      both h = cc
  swap_case g p y ys false false false ea eb ec ih =
      ap (into g) (put_behind p y ys ea) ∙ into_front g y (put p ys) eb
      ∙ sym (ap (put p) (into_front g y ys eb) ∙ put_behind p g (y ∷ ys) ec ∙ ap (λ (zs : List (Item A)). g ∷ zs) (put_behind p y ys ea))

  swap_last : (g p : Item A) (c : Bool) → is_before p.0 g.0 ≡ c → into g (put p []) ≡ put p (into g [])
  swap_last g p true e = into_behind g p [] e ∙ sym (put_front p g [] e)
  swap_last g p false e = into_front g p [] e ∙ sym (put_behind p g [] e)

  into_put : (g p : Item A) (ys : List (Item A)) → into g (put p ys) ≡ put p (into g ys)
  into_put g p [] = swap_last g p (is_before p.0 g.0) refl
  into_put g p (y ∷ ys) = swap_case g p y ys (is_before p.0 y.0) (is_before y.0 g.0) (is_before p.0 g.0) refl refl refl (into_put g p ys)

  -- one item more at the end
  pub sorted_push : (xs : List (Item A)) (name : List ℕ) (a : A) → stably_sorted name_before (xs ++ (name, a) ∷ []) ≡ put_named name a (stably_sorted name_before xs)
  sorted_push [] name a = refl
  sorted_push (x ∷ xs) name a = ap (into x) (sorted_push xs name a) ∙ into_put x (name, a) (stably_sorted name_before xs)

  -- ---- what stands under a name

  found_case : (name : List ℕ) (g y : Item A) (ys : List (Item A)) (a b : Bool) → same_text name g.0 ≡ a → same_text name y.0 ≡ b → is_before y.0 g.0 ≡ true → named name (into g ys) ≡ named name (g ∷ ys) → named name (y ∷ into g ys) ≡ named name (g ∷ y ∷ ys)
  found_case name g y ys true true ea eb less ih =
      let same : y.0 ≡ g.0 = sym (same_is name y.0 eb) ∙ same_is name g.0 ea in
      absurd (below_itself g.0 (ap (λ (n : List ℕ). is_before n g.0) (sym same) ∙ less))
  found_case name g y ys true false ea eb less ih = named_later name y (into g ys) eb ∙ ih ∙ named_here name g ys ea ∙ sym (named_here name g (y ∷ ys) ea)
  found_case name g y ys false true ea eb less ih = named_here name y (into g ys) eb ∙ sym (named_later name g (y ∷ ys) ea ∙ named_here name y ys eb)
  found_case name g y ys false false ea eb less ih =
      named_later name y (into g ys) eb ∙ ih ∙ named_later name g ys ea ∙ sym (named_later name g (y ∷ ys) ea ∙ named_later name y ys eb)

  named_case : (name : List ℕ) (g y : Item A) (ys : List (Item A)) (b : Bool) → is_before y.0 g.0 ≡ b → named name (into g ys) ≡ named name (g ∷ ys) → named name (into g (y ∷ ys)) ≡ named name (g ∷ y ∷ ys)
  named_case name g y ys true e ih = ap (named name) (into_behind g y ys e) ∙ found_case name g y ys (same_text name g.0) (same_text name y.0) refl refl e ih
  named_case name g y ys false e ih = ap (named name) (into_front g y ys e)

  named_into : (name : List ℕ) (g : Item A) (ys : List (Item A)) → named name (into g ys) ≡ named name (g ∷ ys)
  named_into name g [] = refl
  named_into name g (y ∷ ys) = named_case name g y ys (is_before y.0 g.0) refl (named_into name g ys)

  cons_case : (name : List ℕ) (x : Item A) (xs ys : List (Item A)) (b : Bool) → same_text name x.0 ≡ b → named name xs ≡ named name ys → named name (x ∷ xs) ≡ named name (x ∷ ys)
  cons_case name x xs ys true e same = named_here name x xs e ∙ sym (named_here name x ys e)
  cons_case name x xs ys false e same = named_later name x xs e ∙ same ∙ sym (named_later name x ys e)

  pub named_sorted : (name : List ℕ) (xs : List (Item A)) → named name (stably_sorted name_before xs) ≡ named name xs
  named_sorted name [] = refl
  named_sorted name (x ∷ xs) = named_into name x (stably_sorted name_before xs) ∙ cons_case name x (stably_sorted name_before xs) xs (same_text name x.0) refl (named_sorted name xs)

  -- ---- what is in the list

  has_case : (g y x : Item A) (ys zs : List (Item A)) (b : Bool) → (x ≡ g) ⊎ Has (y ∷ ys) x → ((x ≡ g) ⊎ Has ys x → Has zs x) → Has (cond b (y ∷ zs) (g ∷ y ∷ ys)) x
  has_case g y x ys zs true (inl e) rest = inr (rest (inl e))
  has_case g y x ys zs true (inr (inl e)) rest = inl e
  has_case g y x ys zs true (inr (inr h)) rest = inr (rest (inr h))
  has_case g y x ys zs false (inl e) rest = inl e
  has_case g y x ys zs false (inr h) rest = inr h

  has_into : (g x : Item A) (ys : List (Item A)) → (x ≡ g) ⊎ Has ys x → Has (into g ys) x
  has_into g x [] (inl e) = inl e
  has_into g x [] (inr h) = absurd h
  has_into g x (y ∷ ys) h = has_case g y x ys (into g ys) (is_before y.0 g.0) h (has_into g x ys)

  pub has_sorted : (xs : List (Item A)) (x : Item A) → Has xs x → Has (stably_sorted name_before xs) x
  has_sorted [] x h = absurd h
  has_sorted (y ∷ ys) x (inl e) = has_into y x (stably_sorted name_before ys) (inl e)
  has_sorted (y ∷ ys) x (inr h) = has_into y x (stably_sorted name_before ys) (inr (has_sorted ys x h))

  -- ---- each item seen otherwise, under its name

  module _ (f : Item A → (Item A)) (name_stays : (p : Item A) → (f p).0 ≡ p.0) where
    before_stays : (a b : Item A) → is_before (f a).0 (f b).0 ≡ is_before a.0 b.0
    before_stays a b = ap (λ (n : List ℕ). is_before n (f b).0) (name_stays a) ∙ ap (is_before a.0) (name_stays b)

    map_case : (g y : Item A) (ys : List (Item A)) (b : Bool) → is_before y.0 g.0 ≡ b → map f (into g ys) ≡ into (f g) (map f ys) → map f (into g (y ∷ ys)) ≡ into (f g) (f y ∷ map f ys)
    map_case g y ys true e ih = ap (map f) (into_behind g y ys e) ∙ ap (λ (zs : List (Item A)). f y ∷ zs) ih ∙ sym (into_behind (f g) (f y) (map f ys) (before_stays y g ∙ e))
    map_case g y ys false e ih = ap (map f) (into_front g y ys e) ∙ sym (into_front (f g) (f y) (map f ys) (before_stays y g ∙ e))

    map_into : (g : Item A) (ys : List (Item A)) → map f (into g ys) ≡ into (f g) (map f ys)
    map_into g [] = refl
    map_into g (y ∷ ys) = map_case g y ys (is_before y.0 g.0) refl (map_into g ys)

    pub sorted_map : (xs : List (Item A)) → map f (stably_sorted name_before xs) ≡ stably_sorted name_before (map f xs)
    sorted_map [] = refl
    sorted_map (x ∷ xs) = map_into x (stably_sorted name_before xs) ∙ ap (into (f x)) (sorted_map xs)
