-- The first reference that crosses an unprotected quantifier is the first to a barred name. The key: what a reference may name
-- was declared in front of it, in a part that is not around it, so the quantifiers that it crosses are those of that part.
use Rattle.std.proofs.Common.{◌≡◌, ℕ, ◌+◌, ◌≤◌, ◌<◌, ◌==◌, Bool, true, false, not, ◌&&◌, ◌||◌, List, [], ◌∷◌, ◌++◌, filter, flat_map, find, Option, Some, None, refl, sym, ap, ◌∙◌, arith, append_assoc, append-nil, true≢false, leb, leb-true, leb-false}
use Rattle.std.specs.Prelude.{nat_le, if◌then◌else◌}
use Rattle.std.specs.Option.{option_or}
use Rattle.std.proofs.lemmas.Bool.Decides.{nat_tests}
use Rattle.std.proofs.lemmas.List.Folds.{list_any-append}
use Rattle.std.proofs.lemmas.List.Concat.{flat_map-append}
use Rattle.std.proofs.lemmas.Bool.{le-leb, or_right}
use Rattle.gql_values3.specs.Texts.{same_text}
use Rattle.gql_values3.specs.declared.table.ColumnKind.{ColumnKind}
use Rattle.gql_values3.specs.declared.table.ColumnKind.TheVariants as kind
use Rattle.gql_expr_checks.specs.First.{first}
use Rattle.gql_expr_checks.proofs.FirstLemmas.{first_in_two, first-filter}
use Rattle.gql_norm.specs.NormalPattern.{Part, Node, Edge, Concat, Union, Alt, Quant, Opt, ModeScope, Sides, NoSide, Side, NormalPath}
use Rattle.gql_norm.specs.Places.{size, size_all}
use Rattle.gql_norm.specs.PathMode.{is_number_among}
use Rattle.gql_norm.specs.Declaration.{Declared, declaration, visible, visible_sides, may_name}
use Rattle.gql_norm.specs.PredicateSpot.{PredicateSpot, predicates_in, predicates_in_sides, predicates_of_element, predicates_of_scope, names_of}
use Rattle.gql_norm.specs.Termination.{protects, unprotected, open_references}
use Rattle.gql_term.specs.Machinery.OpenEnds.{is_open}
use Rattle.gql_term.specs.Machinery.OpenReferences.{is_variable, declares_open, declares_open_side, Barred, none_barred, barred_behind, first_barred, first_barred_side, first_barred_path}
use Rattle.gql_term.proofs.CrossingLemmas.{or_none, outside, bars, crossing_is}
use Rattle.gql_term.proofs.OpenPlaceLemmas.{above_other, below_other, Tells, TellsSides, body_tells}
use Rattle.gql_norm.proofs.VisibleLemmas.{not_entered, left_behind, within, unseen, unseen_sides, stable}

bars_both : (f : ℕ → Bool) (around : List ℕ) (ds es : List Declared) (x : List ℕ) → bars f around (ds ++ es) x ≡ (bars f around ds x || bars f around es x)
bars_both f around ds es x = list_any-append (λ (d : Declared). same_text x d.name && outside f around d.quants) ds es

bars_these : (f : ℕ → Bool) (around : List ℕ) (ds es : List Declared) (x : List ℕ) (a b : Bool) → bars f around ds x ≡ a → bars f around es x ≡ b → bars f around (ds ++ es) x ≡ (a || b)
bars_these f around ds es x a b h k = bars_both f around ds es x ∙ (λ i. h i || k i)

-- none of the quantifiers around is outside
none_outside : (f : ℕ → Bool) (around qs : List ℕ) → ((q : ℕ) → is_number_among qs q ≡ true → is_number_among around q ≡ true) → outside f around qs ≡ false
none_outside f around [] h = refl
none_outside f around (q ∷ qs) h =
    (λ i. (not (h q (ap (λ b. b || is_number_among qs q) (is_one q)) i) && f q) || outside f around qs)
    ∙ none_outside f around qs (λ r k. h r (or_right (q == r) (is_number_among qs r) k))
  where
    is_one : (q : ℕ) → (q == q) ≡ true
    is_one q = grind (arith, nat_tests)

-- one declaration
one_bars : (f : ℕ → Bool) (around : List ℕ) (k : ColumnKind) (a : ℕ) (qs : List ℕ) (v : Option (List ℕ)) (x : List ℕ) (u : Bool) → outside f around qs ≡ u
    → bars f around (declaration k a qs v true) x ≡ (u && is_variable v x)
one_bars f around k a qs None x true h = refl
one_bars f around k a qs None x false h = refl
one_bars f around k a qs (Some y) x true h = ap (λ b. (same_text x y && b) || false) h ∙ turn (same_text x y)
  where
    turn : (b : Bool) → ((b && true) || false) ≡ b
    turn true = refl
    turn false = refl
one_bars f around k a qs (Some y) x false h = ap (λ b. (same_text x y && b) || false) h ∙ turn (same_text x y)
  where
    turn : (b : Bool) → ((b && false) || false) ≡ false
    turn true = refl
    turn false = refl

one_seen : (f : ℕ → Bool) (around : List ℕ) (k : ColumnKind) (a at : ℕ) (qs : List ℕ) (v : Option (List ℕ)) (x : List ℕ) (u : Bool) → a ≤ at → outside f around qs ≡ u
    → bars f around (declaration k a qs v (nat_le a at)) x ≡ (u && is_variable v x)
one_seen f around k a at qs v x u l h = ap (λ b. bars f around (declaration k a qs v b) x) (le-leb a at l) ∙ one_bars f around k a qs v x u h

module _ (f : ℕ → Bool) where
  module _ (around : List ℕ) (at : ℕ) (x : List ℕ) where
    -- no quantifier at these places is around
    abbrev NoneAround : ℕ → ℕ → Type 0
    NoneAround a end = (q : ℕ) → a ≤ q → q < end → is_number_among around q ≡ false

    -- From behind a part its declarations bar the names that it declares under an unprotected quantifier.
    mutual
      unfolding size visible

      part_bars : (p : Part) (a : ℕ) (safe : Bool) (qs : List ℕ) (u : Bool) → Tells f p a safe → a + size p ≤ at → NoneAround a (a + size p) → outside f around qs ≡ u
          → bars f around (visible p a qs at) x ≡ declares_open p safe u x
      part_bars (Node w) a safe qs u t l o h = one_seen f around kind.Node a at qs w.variable x u (omega arith) h
      part_bars (Edge d w) a safe qs u t l o h = one_seen f around kind.Edge a at qs w.variable x u (omega arith) h
      part_bars (Concat p r) a safe qs u t l o h =
          bars_these f around (visible p a qs at) (visible r (a + size p) qs at) x _ _
          (part_bars p a safe qs u t.0 (omega arith) (λ q j k. o q j (omega arith)) h)
          (part_bars r (a + size p) safe qs u t.1 (omega arith) (λ q j k. o q (omega arith) (omega arith)) h)
      part_bars (Union p r) a safe qs u t l o h =
          ap (λ b. bars f around (if b then visible r (a + size p + 2) qs at else visible p (a + 1) qs at ++ visible r (a + size p + 2) qs at) x) (left_behind (a + size p + 2) (size r) at (omega arith))
          ∙ bars_these f around (visible p (a + 1) qs at) (visible r (a + size p + 2) qs at) x _ _
          (part_bars p (a + 1) safe qs u t.0 (omega arith) (λ q j k. o q (omega arith) (omega arith)) h)
          (part_bars r (a + size p + 2) safe qs u t.1 (omega arith) (λ q j k. o q (omega arith) (omega arith)) h)
      part_bars (Alt ss) a safe qs u t l o h = sides_bar ss (a + 1) safe qs u t (omega arith) (λ q j k. o q (omega arith) (omega arith)) h
      part_bars (Quant b m n) a safe qs u t l o h =
          part_bars b (a + 2) safe (a ∷ qs) (is_open safe n || u) t.1 (omega arith) (λ q j k. o q (omega arith) (omega arith))
          (λ i. (not (o a (omega arith) (omega arith) i) && t.0 i) || h i)
      part_bars (Opt b) a safe qs u t l o h = part_bars b (a + 1) safe qs u t (omega arith) (λ q j k. o q (omega arith) (omega arith)) h
      part_bars (ModeScope m b c) a safe qs u t l o h = part_bars b (a + 1) (safe || protects m) qs u t (omega arith) (λ q j k. o q (omega arith) (omega arith)) h

      sides_bar : (ss : Sides) (b : ℕ) (safe : Bool) (qs : List ℕ) (u : Bool) → TellsSides f ss b safe → b + size_all ss ≤ at → NoneAround b (b + size_all ss) → outside f around qs ≡ u
          → bars f around (visible_sides ss b qs at) x ≡ declares_open_side ss safe u x
      sides_bar NoSide b safe qs u t l o h = refl
      sides_bar (Side p ss) b safe qs u t l o h =
          ap (λ c. bars f around (if c then visible_sides ss (b + size p + 1) qs at else visible p b qs at ++ visible_sides ss (b + size p + 1) qs at) x) (left_behind (b + size p + 1) (size_all ss) at (omega arith))
          ∙ bars_these f around (visible p b qs at) (visible_sides ss (b + size p + 1) qs at) x _ _
          (part_bars p b safe qs u t.0 (omega arith) (λ q j k. o q j (omega arith)) h)
          (sides_bar ss (b + size p + 1) safe qs u t.1 (omega arith) (λ q j k. o q (omega arith) (omega arith)) h)

  -- What is seen at each place, by which the first crossing reference of some spots is found.
  module _ (seen : ℕ → List Declared) where
    abbrev crossing : PredicateSpot → List ℕ → Bool
    crossing s x = bars f s.quants (seen s.place) x

    abbrev crossing_at : List PredicateSpot → List (List ℕ)
    crossing_at spots = flat_map (λ (s : PredicateSpot). filter (crossing s) (names_of s)) spots

    abbrev first_crossing : List PredicateSpot → Option (List ℕ)
    first_crossing spots = first (crossing_at spots)

    crossing_in_two : (xs ys : List PredicateSpot) (o p : Option (List ℕ)) → first_crossing xs ≡ o → first_crossing ys ≡ p → first_crossing (xs ++ ys) ≡ option_or o p
    crossing_in_two xs ys o p h k =
        ap first (flat_map-append (λ (s : PredicateSpot). filter (crossing s) (names_of s)) xs ys)
        ∙ first_in_two (crossing_at xs) (crossing_at ys)
        ∙ (λ i. option_or (h i) (k i))

    crossing_at_one : (s : PredicateSpot) (barred : Barred) → ((x : List ℕ) → crossing s x ≡ barred x) → first_crossing (s ∷ []) ≡ find barred (names_of s)
    crossing_at_one s barred h =
        first_in_two (filter (crossing s) (names_of s)) []
        ∙ or_nothing (first (filter (crossing s) (names_of s)))
        ∙ first-filter (crossing s) (names_of s)
        ∙ ap (λ g. find g (names_of s)) (λ i x. h x i)
      where
        or_nothing : (o : Option (List ℕ)) → option_or o None ≡ o
        or_nothing None = refl
        or_nothing (Some y) = refl

    -- A part that is entered at place a: the quantifiers around stand below, what was declared outside of it bars these names
    -- from wherever in it, and all else that is seen is its own.
    record Entered (a end : ℕ) (qs : List ℕ) (before : List Declared) (barred : Barred) (own : ℕ → List Declared) : Type 0 where
      below : (q : ℕ) → a ≤ q → is_number_among qs q ≡ false
      outer : (around : List ℕ) → ((q : ℕ) → q < a → is_number_among around q ≡ is_number_among qs q) → (x : List ℕ) → bars f around before x ≡ barred x
      view : (at : ℕ) → a ≤ at → at < end → seen at ≡ before ++ own at

    -- an element's own predicates cross nothing but what was declared before
    element_spot : (k : ColumnKind) (a : ℕ) (qs : List ℕ) (v : Option (List ℕ)) (before : List Declared) (barred : Barred) → Entered a (a + 1) qs before barred (λ at. declaration k a qs v (nat_le a at))
        → (x : List ℕ) → bars f qs (seen a) x ≡ barred x
    element_spot k a qs v before barred e x =
        ap (λ ds. bars f qs ds x) (e.view a (omega arith) (omega arith))
        ∙ bars_these f qs before (declaration k a qs v (nat_le a a)) x (barred x) false (e.outer qs (λ q l. refl) x)
        (one_seen f qs k a a qs v x false (omega arith) (none_outside f qs qs (λ q h. h)))
        ∙ or_none (barred x) false refl

    -- parts of what is entered, with the same seen before
    inner : (a end b last : ℕ) (qs : List ℕ) (before : List Declared) (barred : Barred) (own part : ℕ → List Declared) → Entered a end qs before barred own
        → a ≤ b → last ≤ end → ((at : ℕ) → b ≤ at → at < last → own at ≡ part at) → Entered b last qs before barred part
    inner a end b last qs before barred own part e h k same = record {
      below = λ q l. e.below q (omega arith);
      outer = λ around l x. e.outer around (λ q m. l q (omega arith)) x;
      view = λ at l m. e.view at (omega arith) (omega arith) ∙ ap (λ ds. before ++ ds) (same at l m);
    }

    -- the second part in a row sees the first
    behind_first : (p : Part) (a end : ℕ) (safe : Bool) (qs : List ℕ) (before : List Declared) (barred : Barred) (own rest : ℕ → List Declared) → Entered a end qs before barred own → Tells f p a safe
        → a + size p ≤ end → ((at : ℕ) → a + size p ≤ at → at < end → own at ≡ visible p a qs at ++ rest at)
        → Entered (a + size p) end qs (before ++ visible p a qs (a + size p)) (barred_behind barred safe p) rest
    behind_first p a end safe qs before barred own rest e t h same = record {
      below = λ q l. e.below q (omega arith);
      outer = λ around l x.
          bars_these f around before (visible p a qs (a + size p)) x (barred x) (declares_open p safe false x)
          (e.outer around (λ q m. l q (omega arith)) x)
          (part_bars around (a + size p) x p a safe qs false t (omega arith) (λ q j k. l q k ∙ e.below q j) (none_outside f around qs (λ q j. l q (low q j) ∙ j)));
      view = λ at l m.
          e.view at (omega arith) m ∙ ap (λ ds. before ++ ds) (same at l m ∙ ap (λ ds. ds ++ rest at) (stable p a qs at (a + size p) l (omega arith)))
          ∙ sym (append_assoc before (visible p a qs (a + size p)) (rest at));
    }
      where
        low : (q : ℕ) → is_number_among qs q ≡ true → q < a + size p
        low q j = by (leb a q) refl
          where
            by : (b : Bool) → leb a q ≡ b → q < a + size p
            by true g = absurd (true≢false (sym j ∙ e.below q (leb-true a q g)))
            by false g = omega (arith, leb-false a q g)

    -- one item is seen before what was seen
    nothing_behind : (xs ys : List Declared) → ys ≡ [] → (xs ++ ys) ≡ xs
    nothing_behind xs ys h = ap (λ z. xs ++ z) h ∙ append-nil xs

    -- The first crossing reference of a part that is entered is the first to a name that is barred where it stands.
    mutual
      unfolding size visible predicates_in

      crossing_in : (p : Part) (a : ℕ) (safe : Bool) (qs : List ℕ) (before : List Declared) (barred : Barred) → Tells f p a safe → Entered a (a + size p) qs before barred (visible p a qs)
          → first_crossing (predicates_in p a qs) ≡ first_barred p safe barred
      crossing_in (Node w) a safe qs before barred t e = crossing_at_one (predicates_of_element a qs w) barred (element_spot kind.Node a qs w.variable before barred e)
      crossing_in (Edge d w) a safe qs before barred t e = crossing_at_one (predicates_of_element a qs w) barred (element_spot kind.Edge a qs w.variable before barred e)
      crossing_in (Concat p r) a safe qs before barred t e =
          crossing_in_two (predicates_in p a qs) (predicates_in r (a + size p) qs) _ _
          (crossing_in p a safe qs before barred t.0
          (inner a (a + size (Concat p r)) a (a + size p) qs before barred (visible (Concat p r) a qs) (visible p a qs) e (omega arith) (omega arith)
          (λ at l m. nothing_behind (visible p a qs at) (visible r (a + size p) qs at) (unseen r (a + size p) qs at m))))
          (crossing_in r (a + size p) safe qs (before ++ visible p a qs (a + size p)) (barred_behind barred safe p) t.1
          (inner (a + size p) (a + size (Concat p r)) (a + size p) (a + size p + size r) qs (before ++ visible p a qs (a + size p)) (barred_behind barred safe p) (visible r (a + size p) qs) (visible r (a + size p) qs)
          (behind_first p a (a + size (Concat p r)) safe qs before barred (visible (Concat p r) a qs) (visible r (a + size p) qs) e t.0 (omega arith) (λ at l m. refl))
          (omega arith) (omega arith) (λ at l m. refl)))
      crossing_in (Union p r) a safe qs before barred t e =
          crossing_in_two (predicates_in p (a + 1) qs) (predicates_in r (a + size p + 2) qs) _ _
          (crossing_in p (a + 1) safe qs before barred t.0
          (inner a (a + size (Union p r)) (a + 1) (a + 1 + size p) qs before barred (visible (Union p r) a qs) (visible p (a + 1) qs) e (omega arith) (omega arith)
          (λ at l m. ap (λ b. if b then visible r (a + size p + 2) qs at else visible p (a + 1) qs at ++ visible r (a + size p + 2) qs at) (not_entered (a + size p + 2) (size r) at (omega arith))
          ∙ nothing_behind (visible p (a + 1) qs at) (visible r (a + size p + 2) qs at) (unseen r (a + size p + 2) qs at (omega arith)))))
          (crossing_in r (a + size p + 2) safe qs before barred t.1
          (inner a (a + size (Union p r)) (a + size p + 2) (a + size p + 2 + size r) qs before barred (visible (Union p r) a qs) (visible r (a + size p + 2) qs) e (omega arith) (omega arith)
          (λ at l m. ap (λ b. if b then visible r (a + size p + 2) qs at else visible p (a + 1) qs at ++ visible r (a + size p + 2) qs at) (within (a + size p + 2) (size r) at l m))))
      crossing_in (Alt ss) a safe qs before barred t e =
          crossing_in_sides ss (a + 1) safe qs before barred t
          (inner a (a + size (Alt ss)) (a + 1) (a + 1 + size_all ss) qs before barred (visible (Alt ss) a qs) (visible_sides ss (a + 1) qs) e (omega arith) (omega arith) (λ at l m. refl))
      crossing_in (Quant b m n) a safe qs before barred t e =
          crossing_in b (a + 2) safe (a ∷ qs) before barred t.1
          (record {
            below = λ q l. ap (λ c. c || is_number_among qs q) (above_other a q (omega arith)) ∙ e.below q (omega arith);
            outer = λ around l x. e.outer around (λ q k. l q (omega arith) ∙ ap (λ c. c || is_number_among qs q) (below_other a q k)) x;
            view = λ at l k. e.view at (omega arith) (omega arith);
          })
      crossing_in (Opt b) a safe qs before barred t e =
          crossing_in b (a + 1) safe qs before barred t
          (inner a (a + size (Opt b)) (a + 1) (a + 1 + size b) qs before barred (visible (Opt b) a qs) (visible b (a + 1) qs) e (omega arith) (omega arith) (λ at l m. refl))
      crossing_in (ModeScope m b c) a safe qs before barred t e =
          let inside = inner a (a + size (ModeScope m b c)) (a + 1) (a + 2 + size b) qs before barred (visible (ModeScope m b c) a qs) (visible b (a + 1) qs) e (omega arith) (omega arith) (λ at l k. refl) in
          crossing_in_two (predicates_in b (a + 1) qs) (predicates_of_scope (a + size b + 1) qs c ∷ []) _ _
          (crossing_in b (a + 1) (safe || protects m) qs before barred t
          (inner (a + 1) (a + 2 + size b) (a + 1) (a + 1 + size b) qs before barred (visible b (a + 1) qs) (visible b (a + 1) qs) inside (omega arith) (omega arith) (λ at l k. refl)))
          (crossing_at_one (predicates_of_scope (a + size b + 1) qs c) (barred_behind barred (safe || protects m) b)
          (λ x. ap (λ ds. bars f qs ds x) (inside.view (a + size b + 1) (omega arith) (omega arith))
          ∙ bars_these f qs before (visible b (a + 1) qs (a + size b + 1)) x (barred x) (declares_open b (safe || protects m) false x)
          (e.outer qs (λ q l. refl) x)
          (part_bars qs (a + size b + 1) x b (a + 1) (safe || protects m) qs false t (omega arith) (λ q j k. e.below q (omega arith)) (none_outside f qs qs (λ q h. h)))))

      crossing_in_sides : (ss : Sides) (b : ℕ) (safe : Bool) (qs : List ℕ) (before : List Declared) (barred : Barred) → TellsSides f ss b safe → Entered b (b + size_all ss) qs before barred (visible_sides ss b qs)
          → first_crossing (predicates_in_sides ss b qs) ≡ first_barred_side ss safe barred
      crossing_in_sides NoSide b safe qs before barred t e = refl
      crossing_in_sides (Side p ss) b safe qs before barred t e =
          crossing_in_two (predicates_in p b qs) (predicates_in_sides ss (b + size p + 1) qs) _ _
          (crossing_in p b safe qs before barred t.0
          (inner b (b + size_all (Side p ss)) b (b + size p) qs before barred (visible_sides (Side p ss) b qs) (visible p b qs) e (omega arith) (omega arith)
          (λ at l m. ap (λ c. if c then visible_sides ss (b + size p + 1) qs at else visible p b qs at ++ visible_sides ss (b + size p + 1) qs at) (not_entered (b + size p + 1) (size_all ss) at (omega arith))
          ∙ nothing_behind (visible p b qs at) (visible_sides ss (b + size p + 1) qs at) (unseen_sides ss (b + size p + 1) qs at (omega arith)))))
          (crossing_in_sides ss (b + size p + 1) safe qs before barred t.1
          (inner b (b + size_all (Side p ss)) (b + size p + 1) (b + size p + 1 + size_all ss) qs before barred (visible_sides (Side p ss) b qs) (visible_sides ss (b + size p + 1) qs) e (omega arith) (omega arith)
          (λ at l m. ap (λ c. if c then visible_sides ss (b + size p + 1) qs at else visible p b qs at ++ visible_sides ss (b + size p + 1) qs at) (within (b + size p + 1) (size_all ss) at l m))))

-- of a body, and of path patterns
body_is : (body : Part) → first (open_references body) ≡ first_barred body false none_barred
body_is body =
    let f = is_number_among (unprotected body 0 false) in
    (λ i. first (flat_map (λ (s : PredicateSpot). filter (λ x. crossing_is f body s.quants s.place x i) (names_of s)) (predicates_in body 0 [])))
    ∙ crossing_in f (may_name body) body 0 false [] [] none_barred (body_tells body)
    (record { below = λ q l. refl; outer = λ around l x. refl; view = λ at l m. refl })

pub paths_are : (ps : List NormalPath) → first (flat_map (λ (q : NormalPath). open_references q.body) ps) ≡ first_barred_path ps
paths_are [] = refl
paths_are (p ∷ ps) = first_in_two (open_references p.body) (flat_map (λ (q : NormalPath). open_references q.body) ps) ∙ (λ i. option_or (body_is p.body i) (paths_are ps i))
