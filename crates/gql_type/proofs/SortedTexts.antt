-- An item put among others in order of a text that each has: where its text is none of theirs, the texts strictly ascend still.
use Rattle.std.proofs.Common.{◌≡◌, ◌≢◌, ℕ, Bool, true, false, cond, ◌&&◌, List, [], ◌∷◌, map, refl, ap}
use Rattle.std.specs.List.{AllByRecursion}
use Rattle.std.specs.declared.cmp.Ordering.{Ordering}
use Rattle.std.specs.declared.cmp.Ordering.TheVariants.{Less, Equal, Greater}
use Rattle.std.specs.Ordering.{is_lt}
use Rattle.std.proofs.lemmas.Bool.{and_from, and_parts}
use Rattle.std.proofs.lemmas.Map.Lookups.{exact_bytes}
use Rattle.gql_values3.specs.Texts.{ascend_above, texts_ascend}
use Rattle.gql_graph.specs.Catalog.{is_before}
use Rattle.gql_eval.specs.StableSort.{inserted_in_order}
use Rattle.gql_graph.proofs.AscendingTexts.{text_cmp, turned}

-- of two texts that differ, one is before the other
other_way : (a b : List ℕ) → a ≢ b → is_before b a ≡ false → is_before a b ≡ true
other_way a b differ h = by_case (text_cmp a b) refl
  where
    by_case : (o : Ordering) → text_cmp a b ≡ o → is_before a b ≡ true
    by_case Less e = ap is_lt e
    by_case Equal e = absurd (differ (exact_bytes a b e))
    by_case Greater e =
        let back : is_before b a ≡ true = ap is_lt (turned a b e) in
        absurd cc

module _ {X : Type 0} (key : X → List ℕ) where
  abbrev before : X → X → Bool
  before x y = is_before (key x) (key y)

  -- its text is none of theirs
  abbrev pub IsNew : X → List X → Type 0
  IsNew x ys = AllByRecursion (λ y. key x ≢ key y) ys

  -- an item and one of those in order, above a bound: the first of the two in front
  place_case : (low : List ℕ) (x y : X) (ys rest : List X) (b : Bool) → before y x ≡ b → ascend_above low (map key (y ∷ ys)) ≡ true → is_before low (key x) ≡ true → key x ≢ key y
      → (before y x ≡ true → ascend_above (key y) (map key rest) ≡ true) → ascend_above low (map key (cond b (y ∷ rest) (x ∷ y ∷ ys))) ≡ true
  place_case low x y ys rest true e up above differ more =
      and_from (is_before low (key y)) (ascend_above (key y) (map key rest)) (and_parts (is_before low (key y)) (ascend_above (key y) (map key ys)) up).0 (more e)
  place_case low x y ys rest false e up above differ more =
      and_from (is_before low (key x)) (before x y && ascend_above (key y) (map key ys)) above
      (and_from (before x y) (ascend_above (key y) (map key ys)) (other_way (key x) (key y) differ e) (and_parts (is_before low (key y)) (ascend_above (key y) (map key ys)) up).1)

  inserted_above : (low : List ℕ) (x : X) (ys : List X) → ascend_above low (map key ys) ≡ true → is_before low (key x) ≡ true → IsNew x ys
      → ascend_above low (map key (inserted_in_order before x ys)) ≡ true
  inserted_above low x [] up above new = and_from (is_before low (key x)) true above refl
  inserted_above low x (y ∷ ys) up above new =
      place_case low x y ys (inserted_in_order before x ys) (before y x) refl up above new.0
      (λ e. inserted_above (key y) x ys (and_parts (is_before low (key y)) (ascend_above (key y) (map key ys)) up).1 e new.1)

  first_case : (x y : X) (ys rest : List X) (b : Bool) → before y x ≡ b → texts_ascend (map key (y ∷ ys)) ≡ true → key x ≢ key y
      → (before y x ≡ true → ascend_above (key y) (map key rest) ≡ true) → texts_ascend (map key (cond b (y ∷ rest) (x ∷ y ∷ ys))) ≡ true
  first_case x y ys rest true e up differ more = more e
  first_case x y ys rest false e up differ more = and_from (before x y) (ascend_above (key y) (map key ys)) (other_way (key x) (key y) differ e) up

  pub inserted_ascends : (x : X) (ys : List X) → texts_ascend (map key ys) ≡ true → IsNew x ys → texts_ascend (map key (inserted_in_order before x ys)) ≡ true
  inserted_ascends x [] up new = refl
  inserted_ascends x (y ∷ ys) up new = first_case x y ys (inserted_in_order before x ys) (before y x) refl up new.0 (λ e. inserted_above (key y) x ys up e new.1)
