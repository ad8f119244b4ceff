-- What a search by the order of keys finds, and what a change at its place does.
use Rattle.std.proofs.Common.{◌≡◌, ◌≢◌, ◌∙◌, ℕ, zero, suc, ◌+◌, ◌<◌, ◌≤◌, nat_lt, cond, Bool, true, false, not, List, [], ◌∷◌, map, length, get_or, Option, Some, None, Result, Ok, Err, refl, sym, ap, arith, inl, inr}
use Rattle.std.specs.Prelude.{find, option_map, position, slice_set}
use Rattle.std.specs.List.{position_or_len}
use Rattle.std.specs.List.Sorted.{IsSearchInRange, IsBinarySearchResult, IsNonDecreasingBy}
use Rattle.std.specs.Cmp.{IsTotalOrder}
use Rattle.std.specs.declared.cmp.Ordering.{Ordering}
use Rattle.std.specs.declared.cmp.Ordering.TheVariants.{Less, Equal, Greater}
use Rattle.std.specs.Ordering.{is_lt, is_eq, nat_cmp, ordering_then, ordering_reverse, ordering_index}
use Rattle.std.specs.Cmp.Lexicographic.{slice_cmp, texts_ties}
use Rattle.std.proofs.lemmas.Bool.{cases_lt, cases_order, lt-ltb, le-ltb, ltb-true}
use Rattle.std.proofs.lemmas.Cmp.{nat_cmp_total, nat_list_cmp_total, then_total, on_total, tied_itself}
use Rattle.std.proofs.lemmas.List.{get_or-map, length-map}
use Rattle.std.proofs.lemmas.List.Sorted.{searchable_from_sorted}
use Rattle.gql_values3.specs.PropertyGraph.{PropertyGraph}
use Rattle.gql_values3.specs.Texts.{same_text}
use Rattle.gql_values3.proofs.WordLemmas.{same_is}
use Rattle.gql_graph.specs.Catalog.{CatalogGraph, named}
use Rattle.gql_rowcode.specs.declared.seen.GraphSeen.{GraphSeen}
use Rattle.gql_rowcode.specs.Machinery.KeyOrder.{key_cmp, AreListed}
use Rattle.gql_rowcode.specs.Machinery.Noted.{graph_seen, named_seen}
use Rattle.gql_rowcode.proofs.MemberLemmas.{Has, find_has}
use Rattle.gql_rowcode.proofs.NameLemmas.{text_same}
use Rattle.gql_rowcode.proofs.SortedLemmas.{when, unless}
use Rattle.gql_rowcode.proofs.SaidLemmas.{changed, on_one}

-- ---- the order

pub key_total : IsTotalOrder key_cmp
key_total = then_total (on_total (λ (a : List ℕ). length a) nat_cmp_total) nat_list_cmp_total

pub greater_from_less : (a b : List ℕ) → key_cmp a b ≡ Less → key_cmp b a ≡ Greater
greater_from_less a b h = key_total.antisymm b a ∙ ap ordering_reverse h

last_equal : (o p : Ordering) → ordering_then o p ≡ Equal → p ≡ Equal
last_equal Less p e = absurd (cc)
last_equal Equal p e = e
last_equal Greater p e = absurd (cc)

equal_names : (a b : List ℕ) → key_cmp a b ≡ Equal → a ≡ b
equal_names a b e = same_is a b (texts_ties a b ∙ ap is_eq (last_equal (nat_cmp (length a) (length b)) (slice_cmp nat_cmp a b) e))

-- names that do not compare as equal
other_name : (a name : List ℕ) (o : Ordering) → key_cmp a name ≡ o → o ≢ Equal → same_text name a ≡ false
other_name a name o is other = told (same_text name a) refl
  where
    told : (b : Bool) → same_text name a ≡ b → b ≡ false
    told true e = absurd (other (sym is ∙ ap (key_cmp a) (same_is name a e) ∙ tied_itself key_total a))
    told false e = refl

less_differs : Less ≢ Equal
less_differs e = cc

greater_differs : Greater ≢ Equal
greater_differs e = cc

-- ---- places

here : {X : Type 0} (b : Bool) (x y : X) → b ≡ true → cond (not b) x y ≡ y
here true x y e = refl
here false x y e = absurd (cc)

there : {X : Type 0} (b : Bool) (x y : X) → b ≡ false → cond (not b) x y ≡ x
there true x y e = absurd (cc)
there false x y e = refl

module _ {X : Type 0} (p : X → Bool) where
  place_first : (xs : List X) (i : ℕ) → i < length xs → ((d : X) → p (get_or xs i d) ≡ true) → ((j : ℕ) (d : X) → j < i → p (get_or xs j d) ≡ false) → position_or_len p xs ≡ i
  place_first [] i lt at before = absurd (omega arith)
  place_first (x ∷ xs) zero lt at before = here (p x) (1 + position_or_len p xs) 0 (at x)
  place_first (x ∷ xs) (suc i) lt at before =
      let rest = place_first xs i (omega arith) (λ d. at d) (λ j d l. before (suc j) d (omega arith)) in
      there (p x) (1 + position_or_len p xs) 0 (before 0 x (omega arith)) ∙ omega arith

  place_past : (xs : List X) → ((j : ℕ) (d : X) → j < length xs → p (get_or xs j d) ≡ false) → position_or_len p xs ≡ length xs
  place_past [] none = refl
  place_past (x ∷ xs) none =
      let rest = place_past xs (λ j d l. none (suc j) d (omega arith)) in
      there (p x) (1 + position_or_len p xs) 0 (none 0 x (omega arith)) ∙ omega arith

  within : (l n i : ℕ) (b : Bool) → nat_lt l n ≡ b → cond b (Some l) None ≡ Some i → (l < n) × (l ≡ i)
  within l n i true is e = (ltb-true l n is, cc)
  within l n i false is e = absurd (cc)

  past : (l n : ℕ) (b : Bool) → nat_lt l n ≡ b → cond b (Some l) None ≡ None → nat_lt l n ≡ false
  past l n true is e = absurd (cc)
  past l n false is e = is

  found_case : (b : Bool) (y x : X) (ys : List X) → p y ≡ b → position_or_len p (y ∷ ys) < suc (length ys) → x ≡ get_or (y ∷ ys) (position_or_len p (y ∷ ys)) x
      → (position_or_len p ys < length ys → x ≡ get_or ys (position_or_len p ys) x → find p ys ≡ Some x) → find p (y ∷ ys) ≡ Some x
  found_case true y x ys e lt is rest =
      let at : position_or_len p (y ∷ ys) ≡ 0 = here (p y) (1 + position_or_len p ys) 0 e in
      when (p y) (Some y) (find p ys) e ∙ ap (λ (z : X). Some z) (sym (is ∙ ap (λ (n : ℕ). get_or (y ∷ ys) n x) at))
  found_case false y x ys e lt is rest =
      let at : position_or_len p (y ∷ ys) ≡ suc (position_or_len p ys) = there (p y) (1 + position_or_len p ys) 0 e ∙ omega arith in
      unless (p y) (Some y) (find p ys) e ∙ rest (omega arith) (is ∙ ap (λ (n : ℕ). get_or (y ∷ ys) n x) at)

  find_at : (xs : List X) (x : X) → position_or_len p xs < length xs → x ≡ get_or xs (position_or_len p xs) x → find p xs ≡ Some x
  find_at [] x lt is = absurd (omega arith)
  find_at (y ∷ ys) x lt is = found_case (p y) y x ys refl lt is (find_at ys x)

  none_case : (b : Bool) (y : X) (ys : List X) → p y ≡ b → length (y ∷ ys) ≤ position_or_len p (y ∷ ys) → (length ys ≤ position_or_len p ys → find p ys ≡ None) → find p (y ∷ ys) ≡ None
  none_case true y ys e le rest = let at : position_or_len p (y ∷ ys) ≡ 0 = here (p y) (1 + position_or_len p ys) 0 e in absurd (omega arith)
  none_case false y ys e le rest =
      let at : position_or_len p (y ∷ ys) ≡ suc (position_or_len p ys) = there (p y) (1 + position_or_len p ys) 0 e ∙ omega arith in
      unless (p y) (Some y) (find p ys) e ∙ rest (omega arith)

  find_past : (xs : List X) → length xs ≤ position_or_len p xs → find p xs ≡ None
  find_past [] le = refl
  find_past (y ∷ ys) le = none_case (p y) y ys refl le (find_past ys)

  -- the item at the place that was found
  pub place_within : (xs : List X) (i : ℕ) → position p xs ≡ Some i → (i < length xs) × (position_or_len p xs ≡ i)
  place_within xs i e = let w = within (position_or_len p xs) (length xs) i (nat_lt (position_or_len p xs) (length xs)) refl e in (let lt = w.0 in let same = w.1 in omega arith, w.1)

  pub find_place : (xs : List X) (i : ℕ) (x : X) → position p xs ≡ Some i → x ≡ get_or xs i x → find p xs ≡ Some x
  find_place xs i x e is =
      let w = place_within xs i e in
      let same = w.1 in
      let lt = w.0 in
      find_at xs x (omega arith) (is ∙ ap (λ (n : ℕ). get_or xs n x) (sym same))

  none_there : (l n : ℕ) → nat_lt l n ≡ false → n ≤ l
  none_there l n e = elim (cases_lt l n) [ inl lt ↦ absurd (both (lt-ltb l n lt)) | inr le ↦ le ]
    where
      both : nat_lt l n ≡ true → ⊥
      both h = cc

  pub find_nowhere : (xs : List X) → position p xs ≡ None → find p xs ≡ None
  find_nowhere xs e = find_past xs (none_there (position_or_len p xs) (length xs) (past (position_or_len p xs) (length xs) (nat_lt (position_or_len p xs) (length xs)) refl e))

-- within a list no default is taken
default_of : {X : Type 0} (xs : List X) (i : ℕ) (c d : X) → i < length xs → get_or xs i c ≡ get_or xs i d
default_of [] i c d lt = absurd (omega arith)
default_of (x ∷ xs) zero c d lt = refl
default_of (x ∷ xs) (suc i) c d lt = default_of xs i c d (omega arith)

-- an element of a list is at its place
pub has_get : {X : Type 0} (xs : List X) (i : ℕ) (d : X) → i < length xs → Has xs (get_or xs i d)
has_get [] i d lt = absurd (omega arith)
has_get (x ∷ xs) zero d lt = inl refl
has_get (x ∷ xs) (suc i) d lt = inr (has_get xs i d (omega arith))

-- ---- what a search finds

abbrev place_told : Result ℕ ℕ → Option ℕ
place_told (Ok i) = Some i
place_told (Err i) = None

module _ {A : Type 0} (name : List ℕ) (xs : List (List ℕ × A)) (listed : AreListed xs) where
  abbrev has_name : List ℕ × A → Bool
  has_name x = same_text name x.0

  rise : IsNonDecreasingBy (λ (y : List ℕ × A). ordering_index (key_cmp y.0 name)) xs
  rise = searchable_from_sorted key_total (λ (y : List ℕ × A). y.0) xs name (λ k d _ lt. ap is_lt (greater_from_less (get_or xs k d).0 (get_or xs (k + 1) d).0 (listed k (k + 1) d (omega arith) lt)))

  -- no other item has the name
  others : (i : ℕ) → i < length xs → ((d : List ℕ × A) → (get_or xs i d).0 ≡ name) → (j : ℕ) (d : List ℕ × A) → j < length xs → j ≢ i → has_name (get_or xs j d) ≡ false
  others i lt at j d within apart =
      elim (cases_order j i) [
        | inl same ↦ absurd (apart same)
        | inr (inl less) ↦ other_name (get_or xs j d).0 name Less (ap (key_cmp (get_or xs j d).0) (sym (at d)) ∙ listed j i d less lt) less_differs
        | inr (inr more) ↦ other_name (get_or xs j d).0 name Greater (ap (key_cmp (get_or xs j d).0) (sym (at d)) ∙ greater_from_less (get_or xs i d).0 (get_or xs j d).0 (listed i j d more within)) greater_differs
      ]

  position_at : (i : ℕ) → i < length xs → position_or_len has_name xs ≡ i → position has_name xs ≡ Some i
  position_at i lt e = when (nat_lt (position_or_len has_name xs) (length xs)) (Some (position_or_len has_name xs)) None (lt-ltb (position_or_len has_name xs) (length xs) (omega arith)) ∙ ap (λ (n : ℕ). Some n) e

  position_past : position_or_len has_name xs ≡ length xs → position has_name xs ≡ None
  position_past e = unless (nat_lt (position_or_len has_name xs) (length xs)) (Some (position_or_len has_name xs)) None (le-ltb (position_or_len has_name xs) (length xs) (omega arith))

  missed : (i : ℕ) → ((j : ℕ) (d : List ℕ × A) → j < i → key_cmp (get_or xs j d).0 name ≡ Less) → ((j : ℕ) (d : List ℕ × A) → i ≤ j → j < length xs → key_cmp (get_or xs j d).0 name ≡ Greater) → (j : ℕ) (d : List ℕ × A) → j < length xs → has_name (get_or xs j d) ≡ false
  missed i less more j d lt =
      elim (cases_lt j i) [
        | inl below ↦ other_name (get_or xs j d).0 name Less (less j d below) less_differs
        | inr above ↦ other_name (get_or xs j d).0 name Greater (more j d above lt) greater_differs
      ]

  pub searched : (r : Result ℕ ℕ) → IsSearchInRange r (length xs) → IsBinarySearchResult (λ (y : List ℕ × A). key_cmp y.0 name) xs r → place_told r ≡ position (λ (y : List ℕ × A). same_text name y.0) xs
  searched (Ok i) in_range equal =
      let at : (d : List ℕ × A) → (get_or xs i d).0 ≡ name = λ d. equal_names (get_or xs i d).0 name (equal d) in
      sym (position_at i in_range (place_first has_name xs i in_range (λ d. ap (same_text name) (at d) ∙ text_same name) (λ j d lt. others i in_range at j d (omega arith) (λ same. omega arith))))
  searched (Err i) in_range parted =
      sym (position_past (place_past has_name xs (missed i (λ j d lt. (parted rise).0 j d (omega arith) lt) (λ j d le lt. (parted rise).1 j d le lt))))

-- what stands at the place stands under the name
pub named_at : {A : Type 0} (name : List ℕ) (xs : List (List ℕ × A)) (i : ℕ) (x : List ℕ × A) → position (λ (y : List ℕ × A). same_text name y.0) xs ≡ Some i → x ≡ get_or xs i x → named name xs ≡ Some x.1
named_at {A} name xs i x e is = ap (option_map (λ (y : List ℕ × A). y.1)) (find_place (λ (y : List ℕ × A). same_text name y.0) xs i x e is)

pub named_nowhere : {A : Type 0} (name : List ℕ) (xs : List (List ℕ × A)) → position (λ (y : List ℕ × A). same_text name y.0) xs ≡ None → named name xs ≡ None
named_nowhere {A} name xs e = ap (option_map (λ (y : List ℕ × A). y.1)) (find_nowhere (λ (y : List ℕ × A). same_text name y.0) xs e)

-- ---- graphs as the code has them

seen_at : (gs : List (List ℕ × GraphSeen)) (i : ℕ) (d : List ℕ × GraphSeen) → i < length gs → get_or (map named_seen gs) i (named_seen d) ≡ named_seen (get_or gs i d)
seen_at gs i d lt = get_or-map named_seen gs i d (named_seen d) lt

pub listed_seen : (gs : List (List ℕ × GraphSeen)) → AreListed (map named_seen gs) → AreListed gs
listed_seen gs listed i j d lt within =
    let long : length (map named_seen gs) ≡ length gs = length-map gs named_seen in
    let first : get_or (map named_seen gs) i (named_seen d) ≡ named_seen (get_or gs i d) = seen_at gs i d (omega arith) in
    let second : get_or (map named_seen gs) j (named_seen d) ≡ named_seen (get_or gs j d) = seen_at gs j d within in
    ap (λ (p : List ℕ × CatalogGraph). key_cmp p.0 (get_or gs j d).0) (sym first) ∙ ap (λ (p : List ℕ × CatalogGraph). key_cmp (get_or (map named_seen gs) i (named_seen d)).0 p.0) (sym second) ∙ listed i j (named_seen d) lt (omega arith)

named_case : (name : List ℕ) (b : Bool) (g : List ℕ × GraphSeen) (r : Option (List ℕ × GraphSeen)) (s : Option (List ℕ × CatalogGraph))
    → option_map graph_seen (option_map (λ (y : List ℕ × GraphSeen). y.1) r) ≡ option_map (λ (y : List ℕ × CatalogGraph). y.1) s
    → option_map graph_seen (option_map (λ (y : List ℕ × GraphSeen). y.1) (cond b (Some g) r)) ≡ option_map (λ (y : List ℕ × CatalogGraph). y.1) (cond b (Some (named_seen g)) s)
named_case name true g r s e = refl
named_case name false g r s e = e

pub named_seen-under : (name : List ℕ) (gs : List (List ℕ × GraphSeen)) → option_map graph_seen (named name gs) ≡ named name (map named_seen gs)
named_seen-under name [] = refl
named_seen-under name (g ∷ gs) = named_case name (same_text name g.0) g (find (λ (y : List ℕ × GraphSeen). same_text name y.0) gs) (find (λ (y : List ℕ × CatalogGraph). same_text name y.0) (map named_seen gs)) (named_seen-under name gs)

-- one graph changed at its place is each graph of the name changed
module _ (name : List ℕ) (change : PropertyGraph → PropertyGraph) (here_changed : List ℕ × GraphSeen → List ℕ × GraphSeen) (is : (g : List ℕ × GraphSeen) → named_seen (here_changed g) ≡ (g.0, changed change (graph_seen g.1))) where
  one_stays : (g : List ℕ × GraphSeen) → same_text name g.0 ≡ false → on_one name change (named_seen g) ≡ named_seen g
  one_stays g e = unless (same_text name g.0) (g.0, changed change (graph_seen g.1)) (named_seen g) e

  one_changes : (g : List ℕ × GraphSeen) → same_text name g.0 ≡ true → on_one name change (named_seen g) ≡ named_seen (here_changed g)
  one_changes g e = when (same_text name g.0) (g.0, changed change (graph_seen g.1)) (named_seen g) e ∙ sym (is g)

  all_stay : (gs : List (List ℕ × GraphSeen)) → ((j : ℕ) (d : List ℕ × GraphSeen) → j < length gs → same_text name (get_or gs j d).0 ≡ false) → map (on_one name change) (map named_seen gs) ≡ map named_seen gs
  all_stay [] none = refl
  all_stay (g ∷ gs) none =
      ap (λ (p : List ℕ × CatalogGraph). p ∷ map (on_one name change) (map named_seen gs)) (one_stays g (none 0 g (omega arith)))
      ∙ ap (λ (ps : List (List ℕ × CatalogGraph)). named_seen g ∷ ps) (all_stay gs (λ j d lt. none (suc j) d (omega arith)))

  set_at : (gs : List (List ℕ × GraphSeen)) (i : ℕ) (d : List ℕ × GraphSeen) → i < length gs → same_text name (get_or gs i d).0 ≡ true → ((j : ℕ) (e : List ℕ × GraphSeen) → j < length gs → j ≢ i → same_text name (get_or gs j e).0 ≡ false)
      → map (on_one name change) (map named_seen gs) ≡ map named_seen (slice_set gs i (here_changed (get_or gs i d)))
  set_at [] i d lt at apart = absurd (omega arith)
  set_at (g ∷ gs) zero d lt at apart =
      ap (λ (p : List ℕ × CatalogGraph). p ∷ map (on_one name change) (map named_seen gs)) (one_changes g at)
      ∙ ap (λ (ps : List (List ℕ × CatalogGraph)). named_seen (here_changed g) ∷ ps) (all_stay gs (λ j e l. apart (suc j) e (omega arith) (λ same. omega arith)))
  set_at (g ∷ gs) (suc i) d lt at apart =
      ap (λ (p : List ℕ × CatalogGraph). p ∷ map (on_one name change) (map named_seen gs)) (one_stays g (apart 0 g (omega arith) (λ same. omega arith)))
      ∙ ap (λ (ps : List (List ℕ × CatalogGraph)). named_seen g ∷ ps) (set_at gs i d (omega arith) at (λ j e l other. apart (suc j) e (omega arith) (λ same. other (omega arith))))

  found_name : (gs : List (List ℕ × GraphSeen)) (i : ℕ) (d : List ℕ × GraphSeen) → position (λ (y : List ℕ × GraphSeen). same_text name y.0) gs ≡ Some i → same_text name (get_or gs i d).0 ≡ true
  found_name gs i d e =
      let w = place_within (λ (y : List ℕ × GraphSeen). same_text name y.0) gs i e in
      let at : get_or gs i d ≡ get_or gs i (get_or gs i d) = default_of gs i d (get_or gs i d) w.0 in
      (find_has (λ (y : List ℕ × GraphSeen). same_text name y.0) gs (get_or gs i d) (find_place (λ (y : List ℕ × GraphSeen). same_text name y.0) gs i (get_or gs i d) e at)).1

  pub changed_at : (gs : List (List ℕ × GraphSeen)) (i : ℕ) (d : List ℕ × GraphSeen) → AreListed gs → position (λ (y : List ℕ × GraphSeen). same_text name y.0) gs ≡ Some i
      → map (on_one name change) (map named_seen gs) ≡ map named_seen (slice_set gs i (here_changed (get_or gs i d)))
  changed_at gs i d listed e =
      let w = place_within (λ (y : List ℕ × GraphSeen). same_text name y.0) gs i e in
      let at : (c : List ℕ × GraphSeen) → (get_or gs i c).0 ≡ name = λ c. sym (same_is name (get_or gs i c).0 (found_name gs i c e)) in
      set_at gs i d w.0 (found_name gs i d e) (λ j c lt apart. others name gs listed i w.0 at j c lt apart)
