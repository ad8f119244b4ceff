-- Where no quantifier is unprotected no reference crosses one.
use Rattle.std.proofs.Common.{◌≡◌, ℕ, Bool, false, ◌||◌, cond, List, [], ◌∷◌, find, Some, None, refl, sym, ap, ◌∙◌}
use Rattle.std.specs.Option.{option_or}
use Rattle.std.proofs.lemmas.Bool.{or_parts, or_from}
use Rattle.gql_norm.specs.NormalPattern.{Part, Node, Edge, Concat, Union, Alt, Quant, Opt, ModeScope, Sides, NoSide, Side}
use Rattle.gql_norm.specs.Termination.{protects}
use Rattle.gql_term.specs.Machinery.OpenEnds.{is_open, has_open, has_open_side}
use Rattle.gql_term.specs.Machinery.OpenReferences.{Barred, none_barred, declares_open, declares_open_side, names_of_element, names_of_condition, first_barred, first_barred_side}

mutual
  declares_none : (p : Part) (safe : Bool) (x : List ℕ) → has_open p safe ≡ false → declares_open p safe false x ≡ false
  declares_none (Node w) safe x h = refl
  declares_none (Edge d w) safe x h = refl
  declares_none (Concat p r) safe x h = λ i. declares_none p safe x (or_parts _ _ h).0 i || declares_none r safe x (or_parts _ _ h).1 i
  declares_none (Union p r) safe x h = λ i. declares_none p safe x (or_parts _ _ h).0 i || declares_none r safe x (or_parts _ _ h).1 i
  declares_none (Alt ss) safe x h = sides_declare_none ss safe x h
  declares_none (Quant b l n) safe x h =
      ap (λ u. declares_open b safe (u || false) x) (or_parts (is_open safe n) (has_open b safe) h).0 ∙ declares_none b safe x (or_parts (is_open safe n) (has_open b safe) h).1
  declares_none (Opt b) safe x h = declares_none b safe x h
  declares_none (ModeScope m b c) safe x h = declares_none b (safe || protects m) x h

  sides_declare_none : (ss : Sides) (safe : Bool) (x : List ℕ) → has_open_side ss safe ≡ false → declares_open_side ss safe false x ≡ false
  sides_declare_none NoSide safe x h = refl
  sides_declare_none (Side p ss) safe x h = λ i. declares_none p safe x (or_parts _ _ h).0 i || sides_declare_none ss safe x (or_parts _ _ h).1 i

none_found : (barred : Barred) (xs : List (List ℕ)) → ((x : List ℕ) → barred x ≡ false) → find barred xs ≡ None
none_found barred [] h = refl
none_found barred (x ∷ xs) h = ap (λ b. cond b (Some x) (find barred xs)) (h x) ∙ none_found barred xs h

mutual
  bars_none : (p : Part) (safe : Bool) (barred : Barred) → has_open p safe ≡ false → ((x : List ℕ) → barred x ≡ false) → first_barred p safe barred ≡ None
  bars_none (Node w) safe barred h k = none_found barred (names_of_element w) k
  bars_none (Edge d w) safe barred h k = none_found barred (names_of_element w) k
  bars_none (Concat p r) safe barred h k =
      let both = or_parts (has_open p safe) (has_open r safe) h in
      λ i. option_or (bars_none p safe barred both.0 k i) (bars_none r safe (λ x. barred x || declares_open p safe false x) both.1 (λ x. or_from (barred x) _ (k x) (declares_none p safe x both.0)) i)
  bars_none (Union p r) safe barred h k = λ i. option_or (bars_none p safe barred (or_parts _ _ h).0 k i) (bars_none r safe barred (or_parts _ _ h).1 k i)
  bars_none (Alt ss) safe barred h k = sides_bar_none ss safe barred h k
  bars_none (Quant b l n) safe barred h k = bars_none b safe barred (or_parts (is_open safe n) (has_open b safe) h).1 k
  bars_none (Opt b) safe barred h k = bars_none b safe barred h k
  bars_none (ModeScope m b c) safe barred h k =
      let inside = safe || protects m in
      λ i. option_or (bars_none b inside barred h k i) (none_found (λ x. barred x || declares_open b inside false x) (names_of_condition c) (λ x. or_from (barred x) _ (k x) (declares_none b inside x h)) i)

  sides_bar_none : (ss : Sides) (safe : Bool) (barred : Barred) → has_open_side ss safe ≡ false → ((x : List ℕ) → barred x ≡ false) → first_barred_side ss safe barred ≡ None
  sides_bar_none NoSide safe barred h k = refl
  sides_bar_none (Side p ss) safe barred h k = λ i. option_or (bars_none p safe barred (or_parts _ _ h).0 k i) (sides_bar_none ss safe barred (or_parts _ _ h).1 k i)

pub no_reference : (body : Part) → false ≡ has_open body false → None ≡ first_barred body false none_barred
no_reference body h = sym (bars_none body false none_barred (sym h) (λ x. refl))
