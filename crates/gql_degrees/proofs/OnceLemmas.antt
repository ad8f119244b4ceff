-- A name that is declared once and is no column is at no fault, and the names that are left out by the code are such.
use Rattle.std.proofs.Common.{◌≡◌, ℕ, suc, ◌+◌, ◌≤◌, Bool, true, false, not, ◌||◌, ◌&&◌, List, [], ◌∷◌, ◌++◌, map, find, is_some, Option, Some, None, refl, sym, ap, ◌∙◌, subst, arith}
use Rattle.std.proofs.lemmas.Bool.{both_ways}
use Rattle.std.specs.Prelude.{option_map, if◌then◌else◌}
use Rattle.std.proofs.lemmas.List.Folds.{list_any-append}
use Rattle.gql_values3.specs.Texts.{same_text}
use Rattle.gql_values3.specs.declared.table.ColumnKind.{ColumnKind}
use Rattle.gql_values3.proofs.WordLemmas.{same_is}
use Rattle.gql_ast.specs.ClauseColumns.{ColumnList, is_column}
use Rattle.gql_norm.specs.declared.degree.Degree.{Degree}
use Rattle.gql_norm.specs.NormalPattern.{Part, Node, Edge, Concat, Union, Alt, Quant, Opt, ModeScope, Sides, NoSide, Side, NormalPath}
use Rattle.gql_norm.specs.Places.{size}
use Rattle.gql_norm.specs.Degree.{degree_of}
use Rattle.gql_norm.specs.NewColumns.{degree_in_paths}
use Rattle.gql_norm.specs.Declaration.{Declared, all_declared}
use Rattle.gql_norm.specs.JoinDefects.{Spot, column_degree, degree_of_column, spots_in, spots_in_sides, spots_in_paths, spots_at_columns}
use Rattle.gql_norm.specs.Machinery.ColumnGrowth.{declared_in}
use Rattle.gql_norm.proofs.ColumnLemmas.{without_place, all_seen}
use Rattle.gql_degrees.specs.Machinery.KindWalk.{declared_in_all_paths}
use Rattle.gql_degrees.specs.Machinery.JoinWalk.{sooner, place_if, are_both_faulty, suspects}
use Rattle.gql_degrees.proofs.PlaceLemmas.{place_if-none, least_of, least_append, first_named, spot_of}
use Rattle.gql_degrees.proofs.NamedLemmas.{named_in, named_in_sides, named_in_paths, declared_named, named_some}
use Rattle.gql_degrees.proofs.RowLemmas.{row_by, later_by, row_never, later_never}
use Rattle.gql_degrees.proofs.WalkLemmas.{least_in_row, least_in_paths, least_at_columns}

-- how often a name stands in a list
abbrev pub one_if : Bool → ℕ
one_if true = 1
one_if false = 0

abbrev pub times : List ℕ → List Spot → ℕ
times x [] = 0
times x (s ∷ ss) = one_if (same_text x s.1) + times x ss

abbrev pub times_in : List ℕ → ColumnList → ℕ
times_in x [] = 0
times_in x (c ∷ cs) = one_if (same_text x c.0) + times_in x cs

plus_assoc : (a b c : ℕ) → a + (b + c) ≡ (a + b) + c
plus_assoc a b c = omega arith

times_append : (x : List ℕ) (ss ts : List Spot) → times x (ss ++ ts) ≡ times x ss + times x ts
times_append x [] ts = nothing_more (times x ts)
  where
    nothing_more : (n : ℕ) → n ≡ 0 + n
    nothing_more n = omega arith
times_append x (s ∷ ss) ts = ap (λ n. one_if (same_text x s.1) + n) (times_append x ss ts) ∙ plus_assoc (one_if (same_text x s.1)) (times x ss) (times x ts)

times_in_append : (x : List ℕ) (cs ds : ColumnList) → times_in x (cs ++ ds) ≡ times_in x cs + times_in x ds
times_in_append x [] ds = nothing_more (times_in x ds)
  where
    nothing_more : (n : ℕ) → n ≡ 0 + n
    nothing_more n = omega arith
times_in_append x (c ∷ cs) ds = ap (λ n. one_if (same_text x c.0) + n) (times_in_append x cs ds) ∙ plus_assoc (one_if (same_text x c.0)) (times_in x cs) (times_in x ds)

absent : (x : List ℕ) (ss : List Spot) → times x ss ≡ 0 → first_named x ss ≡ None
absent x [] h = refl
absent x (s ∷ ss) h = by (same_text x s.1) (λ k. absent x ss k) h
  where
    by : (b : Bool) → (times x ss ≡ 0 → first_named x ss ≡ None) → one_if b + times x ss ≡ 0 → option_map (λ (s : Spot). s.0) (if b then Some s else find (λ (s : Spot). same_text x s.1) ss) ≡ None
    by true rest k = absurd (omega (arith, k))
    by false rest k = rest (omega (arith, k))

present : (x : List ℕ) (ss : List Spot) → is_some (first_named x ss) ≡ true → 1 ≤ times x ss
present x [] h = absurd (cc)
present x (s ∷ ss) h = by (same_text x s.1) (λ k. present x ss k) h
  where
    more : (n : ℕ) → 1 ≤ n → 1 ≤ 0 + n
    more n h = omega (arith, h)

    by : (b : Bool) → (is_some (first_named x ss) ≡ true → 1 ≤ times x ss) → is_some (option_map (λ (s : Spot). s.0) (if b then Some s else find (λ (s : Spot). same_text x s.1) ss)) ≡ true → 1 ≤ one_if b + times x ss
    by true rest k = omega arith
    by false rest k = more (times x ss) (rest k)

-- the code's list of names has each as often
same_times : (x : List ℕ) (ds : List Declared) → times_in x (map without_place ds) ≡ times x (map spot_of ds)
same_times x [] = refl
same_times x (d ∷ ds) = ap (λ n. one_if (same_text x d.name) + n) (same_times x ds)

times_in_part : (x : List ℕ) (p : Part) (a : ℕ) → times_in x (declared_in p) ≡ times x (named_in p a)
times_in_part x p a = ap (times_in x) (sym (all_seen p a [] (a + size p) (omega arith))) ∙ same_times x (all_declared p a) ∙ ap (times x) (declared_named p a)

pub times_in_paths : (x : List ℕ) (ps : List NormalPath) (a : ℕ) → times_in x (declared_in_all_paths ps) ≡ times x (named_in_paths ps a)
times_in_paths x [] a = refl
times_in_paths x (p ∷ ps) a =
    times_in_append x (declared_in p.body) (declared_in_all_paths ps)
    ∙ (λ i. times_in_part x p.body a i + times_in_paths x ps (a + suc (size p.body)) i)
    ∙ sym (times_append x (named_in p.body a) (named_in_paths ps (a + suc (size p.body))))

none_left : (a b : ℕ) → a + b ≡ 0 → a ≡ 0
none_left a b h = omega (arith, h)

none_right : (a b : ℕ) → a + b ≡ 0 → b ≡ 0
none_right a b h = omega (arith, h)

few_left : (a b : ℕ) → a + b ≤ 1 → a ≤ 1
few_left a b h = omega (arith, h)

few_right : (a b : ℕ) → a + b ≤ 1 → b ≤ 1
few_right a b h = omega (arith, h)

no_other : (a b : ℕ) → a + b ≤ 1 → 1 ≤ a → b ≡ 0
no_other a b h k = omega (arith, h, k)

module _ (f : Degree → Degree → Bool) (x : List ℕ) where
  few : (ss ts : List Spot) → times x (ss ++ ts) ≤ 1 → times x ss + times x ts ≤ 1
  few ss ts h = subst (λ n. n ≤ 1) (times_append x ss ts) h

  row_absent : (q : Option Degree → Bool) (p : Part) (a : ℕ) → times x (named_in p a) ≡ 0 → row_by q x p a ≡ None
  row_absent q (Concat p r) a h =
      let k = sym (times_append x (named_in p a) (named_in r (a + size p))) ∙ h in
      (λ i. sooner (place_if (q (degree_of p x)) (absent x (named_in p a) (none_left (times x (named_in p a)) (times x (named_in r (a + size p))) k) i))
      (row_absent q r (a + size p) (none_right (times x (named_in p a)) (times x (named_in r (a + size p))) k) i))
      ∙ ap (λ z. sooner z None) (place_if-none (q (degree_of p x)))
  row_absent q (Node w) a h = ap (place_if (q (degree_of (Node w) x))) (absent x (named_in (Node w) a) h) ∙ place_if-none (q (degree_of (Node w) x))
  row_absent q (Edge d w) a h = ap (place_if (q (degree_of (Edge d w) x))) (absent x (named_in (Edge d w) a) h) ∙ place_if-none (q (degree_of (Edge d w) x))
  row_absent q (Union p r) a h = ap (place_if (q (degree_of (Union p r) x))) (absent x (named_in (Union p r) a) h) ∙ place_if-none (q (degree_of (Union p r) x))
  row_absent q (Alt ss) a h = ap (place_if (q (degree_of (Alt ss) x))) (absent x (named_in (Alt ss) a) h) ∙ place_if-none (q (degree_of (Alt ss) x))
  row_absent q (Quant c l n) a h = ap (place_if (q (degree_of (Quant c l n) x))) (absent x (named_in (Quant c l n) a) h) ∙ place_if-none (q (degree_of (Quant c l n) x))
  row_absent q (Opt c) a h = ap (place_if (q (degree_of (Opt c) x))) (absent x (named_in (Opt c) a) h) ∙ place_if-none (q (degree_of (Opt c) x))
  row_absent q (ModeScope m c w) a h = ap (place_if (q (degree_of (ModeScope m c w) x))) (absent x (named_in (ModeScope m c w) a) h) ∙ place_if-none (q (degree_of (ModeScope m c w) x))

  later_absent : (q : Option Degree → Bool) (ps : List NormalPath) (a : ℕ) → times x (named_in_paths ps a) ≡ 0 → later_by q x ps a ≡ None
  later_absent q [] a h = refl
  later_absent q (p ∷ ps) a h =
      let k = sym (times_append x (named_in p.body a) (named_in_paths ps (a + suc (size p.body)))) ∙ h in
      (λ i. sooner (place_if (q (degree_of p.body x)) (absent x (named_in p.body a) (none_left (times x (named_in p.body a)) (times x (named_in_paths ps (a + suc (size p.body)))) k) i))
      (later_absent q ps (a + suc (size p.body)) (none_right (times x (named_in p.body a)) (times x (named_in_paths ps (a + suc (size p.body)))) k) i))
      ∙ ap (λ z. sooner z None) (place_if-none (q (degree_of p.body x)))

  row_once : (p r : Part) (a e : ℕ) → times x (named_in p a) + times x (named_in r e) ≤ 1 → row_by (are_both_faulty f (degree_of p x)) x r e ≡ None
  row_once p r a e h = by (degree_of p x) refl
    where
      by : (d : Option Degree) → degree_of p x ≡ d → row_by (are_both_faulty f d) x r e ≡ None
      by None k = row_never x r e
      by (Some d) k =
          row_absent (are_both_faulty f (Some d)) r e (no_other (times x (named_in p a)) (times x (named_in r e)) h (present x (named_in p a) (named_some x p a ∙ ap is_some k)))

  later_once : (p : Part) (ps : List NormalPath) (a e : ℕ) → times x (named_in p a) + times x (named_in_paths ps e) ≤ 1 → later_by (are_both_faulty f (degree_of p x)) x ps e ≡ None
  later_once p ps a e h = by (degree_of p x) refl
    where
      by : (d : Option Degree) → degree_of p x ≡ d → later_by (are_both_faulty f d) x ps e ≡ None
      by None k = later_never x ps e
      by (Some d) k =
          later_absent (are_both_faulty f (Some d)) ps e (no_other (times x (named_in p a)) (times x (named_in_paths ps e)) h (present x (named_in p a) (named_some x p a ∙ ap is_some k)))

  mutual
    once : (p : Part) (a : ℕ) → times x (named_in p a) ≤ 1 → least_of x (spots_in f p a) ≡ None
    once (Node w) a h = refl
    once (Edge d w) a h = refl
    once (Concat p r) a h =
        let k = few (named_in p a) (named_in r (a + size p)) h in
        least_in_row f x p r a
        ∙ (λ i. sooner (once p a (few_left (times x (named_in p a)) (times x (named_in r (a + size p))) k) i)
        (sooner (once r (a + size p) (few_right (times x (named_in p a)) (times x (named_in r (a + size p))) k) i) (row_once p r a (a + size p) k i)))
    once (Union p r) a h =
        let k = few (named_in p (a + 1)) (named_in r (a + size p + 2)) h in
        least_append x (spots_in f p (a + 1)) (spots_in f r (a + size p + 2))
        ∙ (λ i. sooner (once p (a + 1) (few_left (times x (named_in p (a + 1))) (times x (named_in r (a + size p + 2))) k) i)
        (once r (a + size p + 2) (few_right (times x (named_in p (a + 1))) (times x (named_in r (a + size p + 2))) k) i))
    once (Alt ss) a h = once_sides ss (a + 1) h
    once (Quant c l n) a h = once c (a + 2) h
    once (Opt c) a h = once c (a + 1) h
    once (ModeScope m c w) a h = once c (a + 1) h

    once_sides : (ss : Sides) (b : ℕ) → times x (named_in_sides ss b) ≤ 1 → least_of x (spots_in_sides f ss b) ≡ None
    once_sides NoSide b h = refl
    once_sides (Side p ss) b h =
        let k = few (named_in p b) (named_in_sides ss (b + size p + 1)) h in
        least_append x (spots_in f p b) (spots_in_sides f ss (b + size p + 1))
        ∙ (λ i. sooner (once p b (few_left (times x (named_in p b)) (times x (named_in_sides ss (b + size p + 1))) k) i)
        (once_sides ss (b + size p + 1) (few_right (times x (named_in p b)) (times x (named_in_sides ss (b + size p + 1))) k) i))

  once_paths : (ps : List NormalPath) (a : ℕ) → times x (named_in_paths ps a) ≤ 1 → least_of x (spots_in_paths f ps a) ≡ None
  once_paths [] a h = refl
  once_paths (p ∷ ps) a h =
      let e = a + suc (size p.body) in
      let k = few (named_in p.body a) (named_in_paths ps e) h in
      least_in_paths f x p ps a
      ∙ (λ i. sooner (once p.body a (few_left (times x (named_in p.body a)) (times x (named_in_paths ps e)) k) i)
      (sooner (once_paths ps e (few_right (times x (named_in p.body a)) (times x (named_in_paths ps e)) k) i) (later_once p.body ps a e k i)))

  no_column : (columns : ColumnList) → is_column columns x ≡ false → degree_of_column columns x ≡ None
  no_column [] h = refl
  no_column (c ∷ cs) h = by (same_text x c.0) (λ k. no_column cs k) h
    where
      by : (b : Bool) → (is_column cs x ≡ false → degree_of_column cs x ≡ None) → (b || is_column cs x) ≡ false
          → option_map (λ (c : List ℕ × ColumnKind). column_degree c.1) (if b then Some c else find (λ (c : List ℕ × ColumnKind). same_text x c.0) cs) ≡ None
      by true rest k = absurd (cc)
      by false rest k = rest k

  at_columns_once : (columns : ColumnList) (ps : List NormalPath) → (is_column columns x ≡ true → times x (named_in_paths ps 0) ≡ 0) → least_of x (spots_at_columns f columns ps) ≡ None
  at_columns_once columns ps h = least_at_columns f x columns ps ∙ by (is_column columns x) refl
    where
      by : (b : Bool) → is_column columns x ≡ b → place_if (are_both_faulty f (degree_of_column columns x) (degree_in_paths ps x)) (first_named x (named_in_paths ps 0)) ≡ None
      by true k = ap (place_if (are_both_faulty f (degree_of_column columns x) (degree_in_paths ps x))) (absent x (named_in_paths ps 0) (h k)) ∙ place_if-none (are_both_faulty f (degree_of_column columns x) (degree_in_paths ps x))
      by false k = ap (λ d. place_if (are_both_faulty f d (degree_in_paths ps x)) (first_named x (named_in_paths ps 0))) (no_column columns k)

  pub no_fault : (columns : ColumnList) (ps : List NormalPath) → times_in x (declared_in_all_paths ps) ≤ 1 → (is_column columns x ≡ true → times_in x (declared_in_all_paths ps) ≡ 0)
      → least_of x (spots_in_paths f ps 0 ++ spots_at_columns f columns ps) ≡ None
  no_fault columns ps h k =
      least_append x (spots_in_paths f ps 0) (spots_at_columns f columns ps)
      ∙ (λ i. sooner (once_paths ps 0 (subst (λ n. n ≤ 1) (times_in_paths x ps 0) h) i) (at_columns_once columns ps (λ c. sym (times_in_paths x ps 0) ∙ k c) i))

-- a name that the code leaves out
record LeftOut (x : List ℕ) (columns seen named ds : ColumnList) : Type 0 where
  unnamed : is_column named x ≡ false
  none_seen : is_column seen x ≡ true → times_in x ds ≡ 0
  none_column : is_column columns x ≡ true → times_in x ds ≡ 0
  at_most_once : times_in x ds ≤ 1

module _ (x : List ℕ) (columns : ColumnList) where
  pushed : (cs : ColumnList) (d : List ℕ × ColumnKind) → is_column (cs ++ d ∷ []) x ≡ (is_column cs x || (same_text x d.0 || false))
  pushed cs d = list_any-append (λ (c : List ℕ × ColumnKind). same_text x c.0) cs (d ∷ [])

  here : (a b : Bool) → b ≡ true → (a || (b || false)) ≡ true
  here true b h = refl
  here false true h = refl
  here false false h = absurd (cc)

  still : (a b : Bool) → a ≡ true → (a || (b || false)) ≡ true
  still true b h = refl
  still false b h = absurd (cc)

  not_left : (a b : Bool) → (a || (b || false)) ≡ false → a ≡ false
  not_left true b h = absurd (cc)
  not_left false b h = refl

  not_right : (a b : Bool) → (a || (b || false)) ≡ false → b ≡ false
  not_right true b h = absurd (cc)
  not_right false true h = absurd (cc)
  not_right false false h = refl

  -- another name more, and this name where nothing was known of it
  another : (seen named ds : ColumnList) (d : List ℕ × ColumnKind) → same_text x d.0 ≡ false → is_column named x ≡ false
      → (is_column (seen ++ d ∷ []) x ≡ true → times_in x ds ≡ 0) → (is_column columns x ≡ true → times_in x ds ≡ 0) → times_in x ds ≤ 1 → LeftOut x columns seen named (d ∷ ds)
  another seen named ds d e u s c m = record {
    unnamed = u;
    none_seen = λ h. same_count ∙ s (pushed seen d ∙ still (is_column seen x) (same_text x d.0) h);
    none_column = λ h. same_count ∙ c h;
    at_most_once = subst (λ n. n ≤ 1) (sym same_count) m;
  }
    where
      none_more : (n : ℕ) → 0 + n ≡ n
      none_more n = omega arith

      same_count : times_in x (d ∷ ds) ≡ times_in x ds
      same_count = ap (λ b. one_if b + times_in x ds) e ∙ none_more (times_in x ds)

  unknown_left : (s c n : Bool) → ((s || c) && not n) ≡ false → n ≡ false → s ≡ false
  unknown_left true c true h k = absurd (cc)
  unknown_left true c false h k = absurd (cc)
  unknown_left false c n h k = refl

  unknown_right : (s c n : Bool) → ((s || c) && not n) ≡ false → n ≡ false → c ≡ false
  unknown_right true true true h k = absurd (cc)
  unknown_right true true false h k = absurd (cc)
  unknown_right false true true h k = absurd (cc)
  unknown_right false true false h k = absurd (cc)
  unknown_right s false n h k = refl

  once_here : (n : ℕ) → n ≡ 0 → 1 + n ≤ 1
  once_here n h = omega (arith, h)

  this_one : (seen named ds : ColumnList) (d : List ℕ × ColumnKind) → same_text x d.0 ≡ true → is_column named x ≡ false
      → ((is_column seen d.0 || is_column columns d.0) && not (is_column named d.0)) ≡ false
      → (is_column (seen ++ d ∷ []) x ≡ true → times_in x ds ≡ 0) → LeftOut x columns seen named (d ∷ ds)
  this_one seen named ds d e u t s = record {
    unnamed = u;
    none_seen = λ h. absurd (both_ways (is_column seen x) (unknown_left (is_column seen x) (is_column columns x) (is_column named x) told u) h);
    none_column = λ h. absurd (both_ways (is_column columns x) (unknown_right (is_column seen x) (is_column columns x) (is_column named x) told u) h);
    at_most_once = subst (λ b. one_if b + times_in x ds ≤ 1) (sym e) (once_here (times_in x ds) (s (pushed seen d ∙ here (is_column seen x) (same_text x d.0) e)));
  }
    where
      told : ((is_column seen x || is_column columns x) && not (is_column named x)) ≡ false
      told = ap (λ y. (is_column seen y || is_column columns y) && not (is_column named y)) (same_is x d.0 e) ∙ t

  left_out : (seen named ds : ColumnList) → is_column (suspects columns seen named ds) x ≡ false → LeftOut x columns seen named ds
  left_out seen named [] h = record { unnamed = h; none_seen = λ k. refl; none_column = λ k. refl; at_most_once = omega arith }
  left_out seen named (d ∷ ds) h = by ((is_column seen d.0 || is_column columns d.0) && not (is_column named d.0)) refl (λ those k. left_out (seen ++ d ∷ []) those ds k) h
    where
      unnamed_by : (b : Bool) → same_text x d.0 ≡ b → ((is_column seen d.0 || is_column columns d.0) && not (is_column named d.0)) ≡ false
          → LeftOut x columns (seen ++ d ∷ []) named ds → LeftOut x columns seen named (d ∷ ds)
      unnamed_by true e t l = this_one seen named ds d e l.unnamed t l.none_seen
      unnamed_by false e t l = another seen named ds d e l.unnamed l.none_seen l.none_column l.at_most_once

      by : (t : Bool) → ((is_column seen d.0 || is_column columns d.0) && not (is_column named d.0)) ≡ t
          → ((those : ColumnList) → is_column (suspects columns (seen ++ d ∷ []) those ds) x ≡ false → LeftOut x columns (seen ++ d ∷ []) those ds)
          → is_column (if t then suspects columns (seen ++ d ∷ []) (named ++ d ∷ []) ds else suspects columns (seen ++ d ∷ []) named ds) x ≡ false → LeftOut x columns seen named (d ∷ ds)
      by true t rest k =
          let l = rest (named ++ d ∷ []) k in
          let u = sym (pushed named d) ∙ l.unnamed in
          another seen named ds d (not_right (is_column named x) (same_text x d.0) u) (not_left (is_column named x) (same_text x d.0) u) l.none_seen l.none_column l.at_most_once
      by false t rest k = unnamed_by (same_text x d.0) refl t (rest named k)

pub suspects_left : (f : Degree → Degree → Bool) (columns : ColumnList) (ps : List NormalPath) (x : List ℕ) → is_column (suspects columns [] [] (declared_in_all_paths ps)) x ≡ false
    → least_of x (spots_in_paths f ps 0 ++ spots_at_columns f columns ps) ≡ None
suspects_left f columns ps x h =
    let l = left_out x columns [] [] (declared_in_all_paths ps) h in
    no_fault f x columns ps l.at_most_once l.none_column
