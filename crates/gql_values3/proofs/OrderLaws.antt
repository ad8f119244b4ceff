-- The order of the data is total, and what it does not tell apart is the same.
use Rattle.std.specs.Prelude.{◌≡◌, ℕ, ◌<◌, ◌≤◌, cond, List, [], ◌∷◌, refl, ◌==◌, true, false}
use borrow.Author.Tests.{lt-ltb}
use Rattle.std.proofs.Common.{subst, ap, sym, ◌∙◌, arith}
use Rattle.std.specs.declared.cmp.Ordering.{Ordering}
use Rattle.std.specs.declared.cmp.Ordering.TheVariants.{Less, Equal, Greater}
use Rattle.std.specs.Ordering.{ordering_then, ordering_reverse, nat_cmp, bool_cmp, MatchOrdering}
use Rattle.std.specs.Cmp.{IsTotalOrder, bool_cmp_total}
use Rattle.std.proofs.lemmas.Cmp.{ranked, nat_cmp_total, int_cmp_total, nat_list_cmp_total, lists_total, then_total, on_total}
use Rattle.std.proofs.lemmas.Map.Lookups.{CmpEqualImpliesEq, exact_unsigned, exact_signed, exact_bytes, exact_pairs}
use Rattle.std.specs.Cmp.Lexicographic.{slice_cmp}
use Rattle.gql_values3.specs.Datum.{PathData, Datum, Data, data_of, null, boolean, integer, text, list, node, edge, path, no_data, more_data}
use Rattle.gql_values3.specs.ValueOrder.{rank, step_cmp, path_cmp, datum_cmp, data_cmp}

pub step_cmp_total : IsTotalOrder step_cmp
step_cmp_total = then_total (on_total (λ (s : ℕ × ℕ). s.0) nat_cmp_total) (on_total (λ (s : ℕ × ℕ). s.1) nat_cmp_total)

pub path_cmp_total : IsTotalOrder path_cmp
path_cmp_total = then_total (on_total (λ (w : PathData). w.start) nat_cmp_total) (on_total (λ (w : PathData). w.steps) (lists_total step_cmp_total))

-- the parts of a comparison by two
then_equal : (r s : Ordering) → ordering_then r s ≡ Equal → (r ≡ Equal) × (s ≡ Equal)
then_equal Less s p = cc
then_equal Equal s p = (refl, p)
then_equal Greater s p = cc

reverse_then : (r s t u : Ordering) → r ≡ ordering_reverse s → t ≡ ordering_reverse u → ordering_then r t ≡ ordering_reverse (ordering_then s u)
reverse_then Less Greater t u p q = refl
reverse_then Equal Equal t u p q = q
reverse_then Greater Less t u p q = refl
reverse_then _ _ t u p q = absurd (cc)

exact_bool : CmpEqualImpliesEq bool_cmp
exact_bool true true p = refl
exact_bool false false p = refl
exact_bool _ _ p = cc

pub exact_lists : {K : Type 0} {R : K → K → Ordering} → CmpEqualImpliesEq R → CmpEqualImpliesEq (slice_cmp R)
exact_lists h [] [] p = refl
exact_lists h [] (y ∷ ys) p = cc
exact_lists h (x ∷ xs) [] p = cc
exact_lists {K} {R} h (x ∷ xs) (y ∷ ys) p =
    let both = then_equal (R x y) (slice_cmp R xs ys) p in
    λ i. h x y both.0 i ∷ exact_lists h xs ys both.1 i

exact_steps : CmpEqualImpliesEq step_cmp
exact_steps = exact_pairs nat_cmp nat_cmp exact_unsigned exact_unsigned

exact_paths : CmpEqualImpliesEq path_cmp
exact_paths v w p =
    let both = then_equal (nat_cmp v.start w.start) (slice_cmp step_cmp v.steps w.steps) p in
    λ i. record { start = exact_unsigned v.start w.start both.0 i; steps = exact_lists exact_steps v.steps w.steps both.1 i }

mutual
  -- data that compare alike are one
  pub exact_datum : (x y : Datum) → datum_cmp x y ≡ Equal → x ≡ y
  exact_datum (boolean a) (boolean b) p = ap boolean (exact_bool a b p)
  exact_datum (integer a) (integer b) p = ap integer (exact_signed a b p)
  exact_datum (text a) (text b) p = ap text (exact_bytes a b p)
  exact_datum (list a) (list b) p = ap list (exact_data a b p)
  exact_datum (node a) (node b) p = ap node (exact_unsigned a b p)
  exact_datum (edge a) (edge b) p = ap edge (exact_unsigned a b p)
  exact_datum (path a) (path b) p = ap path (exact_paths a b p)
  exact_datum null null p = refl
  exact_datum _ _ p = cc

  exact_data : (x y : Data) → data_cmp x y ≡ Equal → x ≡ y
  exact_data no_data no_data p = refl
  exact_data no_data (more_data b rest) p = cc
  exact_data (more_data a more) no_data p = cc
  exact_data (more_data a more) (more_data b rest) p =
      let both = then_equal (datum_cmp a b) (data_cmp more rest) p in
      λ i. more_data (exact_datum a b both.0 i) (exact_data more rest both.1 i)

mutual
  datum_antisymm : (x y : Datum) → datum_cmp x y ≡ ordering_reverse (datum_cmp y x)
  datum_antisymm (boolean a) (boolean b) = bool_cmp_total.antisymm a b
  datum_antisymm (integer a) (integer b) = int_cmp_total.antisymm a b
  datum_antisymm (text a) (text b) = nat_list_cmp_total.antisymm a b
  datum_antisymm (list a) (list b) = data_antisymm a b
  datum_antisymm (node a) (node b) = nat_cmp_total.antisymm a b
  datum_antisymm (edge a) (edge b) = nat_cmp_total.antisymm a b
  datum_antisymm (path a) (path b) = path_cmp_total.antisymm a b
  datum_antisymm null null = refl
  datum_antisymm _ _ = refl

  data_antisymm : (x y : Data) → data_cmp x y ≡ ordering_reverse (data_cmp y x)
  data_antisymm no_data no_data = refl
  data_antisymm no_data (more_data b rest) = refl
  data_antisymm (more_data a more) no_data = refl
  data_antisymm (more_data a more) (more_data b rest) =
      reverse_then (datum_cmp a b) (datum_cmp b a) (data_cmp more rest) (data_cmp rest more) (datum_antisymm a b) (data_antisymm more rest)

-- the heads of three lists compare as these, and the rest as those
chain : (r s t u v w : Ordering) → (r ≡ Less → s ≡ Less → t ≡ Less) → (r ≡ Equal → s ≡ t) → (s ≡ Equal → r ≡ t) → (u ≡ Less → v ≡ Less → w ≡ Less)
    → ordering_then r u ≡ Less → ordering_then s v ≡ Less → ordering_then t w ≡ Less
chain Less Less t u v w f g h k p q = ap (λ r. ordering_then r w) (f refl refl)
chain Less Equal t u v w f g h k p q = ap (λ r. ordering_then r w) (sym (h refl))
chain Equal Less t u v w f g h k p q = ap (λ r. ordering_then r w) (sym (g refl))
chain Equal Equal t u v w f g h k p q = ap (λ r. ordering_then r w) (sym (g refl)) ∙ k p q
chain _ _ t u v w f g h k p q = cc

below : (m n : ℕ) → nat_cmp m n ≡ Less → m < n
below m n p = subst (λ (o : Ordering). MatchOrdering o (m < n) (m ≡ n) (n < m)) p (ranked m n (nat_cmp m n) refl)

less : (m n : ℕ) → m < n → nat_cmp m n ≡ Less
less m n h = ap (λ b. cond b Less (cond (m == n) Equal Greater)) (lt-ltb m n h)

rank_le : (x y : Datum) → datum_cmp x y ≡ Less → rank x ≤ rank y
rank_le (boolean a) (boolean b) p = omega arith
rank_le (integer a) (integer b) p = omega arith
rank_le (text a) (text b) p = omega arith
rank_le (list a) (list b) p = omega arith
rank_le (node a) (node b) p = omega arith
rank_le (edge a) (edge b) p = omega arith
rank_le (path a) (path b) p = omega arith
rank_le null null p = omega arith
rank_le x y p = omega (arith, below (rank x) (rank y) p)

rank_less : (x y : Datum) → rank x < rank y → datum_cmp x y ≡ Less
rank_less (boolean a) (boolean b) h = absurd (omega arith)
rank_less (integer a) (integer b) h = absurd (omega arith)
rank_less (text a) (text b) h = absurd (omega arith)
rank_less (list a) (list b) h = absurd (omega arith)
rank_less (node a) (node b) h = absurd (omega arith)
rank_less (edge a) (edge b) h = absurd (omega arith)
rank_less (path a) (path b) h = absurd (omega arith)
rank_less null null h = absurd (omega arith)
rank_less x y h = less (rank x) (rank y) h

mutual
  datum_trans : (x y z : Datum) → datum_cmp x y ≡ Less → datum_cmp y z ≡ Less → datum_cmp x z ≡ Less
  datum_trans (boolean a) (boolean b) (boolean c) p q = bool_cmp_total.trans a b c p q
  datum_trans (integer a) (integer b) (integer c) p q = int_cmp_total.trans a b c p q
  datum_trans (text a) (text b) (text c) p q = nat_list_cmp_total.trans a b c p q
  datum_trans (list a) (list b) (list c) p q = data_trans a b c p q
  datum_trans (node a) (node b) (node c) p q = nat_cmp_total.trans a b c p q
  datum_trans (edge a) (edge b) (edge c) p q = nat_cmp_total.trans a b c p q
  datum_trans (path a) (path b) (path c) p q = path_cmp_total.trans a b c p q
  datum_trans (boolean a) (boolean b) _ p q = cc
  datum_trans (integer a) (integer b) _ p q = cc
  datum_trans (text a) (text b) _ p q = cc
  datum_trans (list a) (list b) _ p q = cc
  datum_trans (node a) (node b) _ p q = cc
  datum_trans (edge a) (edge b) _ p q = cc
  datum_trans (path a) (path b) _ p q = cc
  datum_trans null null z p q = cc
  datum_trans x y z p q = rank_less x z (omega (arith, below (rank x) (rank y) p, rank_le y z q))

  data_trans : (x y z : Data) → data_cmp x y ≡ Less → data_cmp y z ≡ Less → data_cmp x z ≡ Less
  data_trans no_data no_data z p q = cc
  data_trans no_data (more_data b bs) no_data p q = cc
  data_trans no_data (more_data b bs) (more_data c cs) p q = refl
  data_trans (more_data a more) no_data z p q = cc
  data_trans (more_data a more) (more_data b bs) no_data p q = cc
  data_trans (more_data a more) (more_data b bs) (more_data c cs) p q =
      chain (datum_cmp a b) (datum_cmp b c) (datum_cmp a c) (data_cmp more bs) (data_cmp bs cs) (data_cmp more cs)
      (datum_trans a b c) (λ e. ap (λ d. datum_cmp d c) (sym (exact_datum a b e))) (λ e. ap (λ d. datum_cmp a d) (exact_datum b c e))
      (data_trans more bs cs) p q

-- the order of the data is total
pub datum_cmp_total : IsTotalOrder datum_cmp
datum_cmp_total = record {
  antisymm = datum_antisymm;
  trans = datum_trans;
  congr = λ x y z p. ap (λ d. datum_cmp d z) (exact_datum x y p);
}

-- the order of lists is that of their items, one after the other
pub data_cmp-data_of : (xs ys : List Datum) → data_cmp (data_of xs) (data_of ys) ≡ slice_cmp datum_cmp xs ys
data_cmp-data_of [] [] = refl
data_cmp-data_of [] (y ∷ ys) = refl
data_cmp-data_of (x ∷ xs) [] = refl
data_cmp-data_of (x ∷ xs) (y ∷ ys) = ap (ordering_then (datum_cmp x y)) (data_cmp-data_of xs ys)
