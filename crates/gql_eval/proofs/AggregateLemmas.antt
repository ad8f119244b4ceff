-- Steps of the aggregates' loops.
use Rattle.std.proofs.Common.{◌≡◌, ℕ, ◌+◌, ◌<◌, ℤ, pos, ◌+ℤ◌, Bool, true, false, not, cond, ◌||◌, List, [], ◌∷◌, ◌++◌, length, map, drop, get_or, Result, Ok, Err, refl, ap, sym, ◌∙◌, arith, append_assoc}
use Rattle.std.proofs.lemmas.List.{map-append}
use Rattle.std.specs.Prelude.{filter}
use Rattle.std.specs.List.{list_any}
use Rattle.std.specs.Ordering.{is_eq}
use Rattle.std.specs.declared.cmp.Ordering.{Ordering}
use Rattle.std.specs.declared.cmp.Ordering.TheVariants.{Less, Equal, Greater}
use Rattle.std.proofs.lemmas.Grind.{common_steps}
use Rattle.std.proofs.lemmas.Int.{ints}
use Rattle.gql_values3.specs.Datum.{Datum}
use Rattle.gql_values3.specs.ValueOrder.{datum_cmp}
use Rattle.gql_values3.proofs.OrderLaws.{exact_datum}
use Rattle.gql_ast.specs.declared.fault.DataFault.{DataFault}
use Rattle.gql_ast.specs.Faults.{◌>>=◌, each}
use Rattle.gql_ast.specs.Operators.{fitted}
use Rattle.gql_values3.specs.Datum.{is_null}
use Rattle.gql_ast.specs.Aggregates.{addend, total, summed, distinct, considered}
use Rattle.gql_ast.specs.declared.words.SetQuantifier.{SetQuantifier}
use Rattle.gql_ast.specs.declared.words.SetQuantifier.TheVariants as quantifier
use Rattle.gql_eval.specs.Machinery.Kept.{kept}
use Rattle.gql_eval.specs.Machinery.WholeSum.{total_of}

-- the values from i on
pub mapped_step : {A : Type 0} (f : A → Datum) (xs : List A) (i : ℕ) (x : A) → i < length xs → x ≡ get_or xs i x → map f (drop i xs) ≡ f x ∷ map f (drop (i + 1) xs)
mapped_step f xs i x h p = grind (arith, common_steps)

-- a sum onto what is summed so far
abbrev pub total_from : ℤ → List Datum → Result ℤ DataFault
total_from so_far ds = each addend ds >>= λ zs. Ok (so_far +ℤ total zs)

zero_plus : (z : ℤ) → pos 0 +ℤ z ≡ z
zero_plus z = omega (arith, ints)

plus_assoc : (a b c : ℤ) → a +ℤ (b +ℤ c) ≡ (a +ℤ b) +ℤ c
plus_assoc a b c = omega (arith, ints)

from_zero : (r : Result (List ℤ) DataFault) → (r >>= λ zs. Ok (pos 0 +ℤ total zs)) ≡ (r >>= λ zs. Ok (total zs))
from_zero (Ok zs) = ap Ok (zero_plus (total zs))
from_zero (Err e) = refl

pub total_from_zero : (ds : List Datum) → total_from (pos 0) ds ≡ total_of ds
total_from_zero ds = from_zero (each addend ds)

onward : (so_far : ℤ) (r : Result ℤ DataFault) (s : Result (List ℤ) DataFault)
    → (r >>= (λ z. s >>= λ zs. Ok (z ∷ zs)) >>= λ zs. Ok (so_far +ℤ total zs)) ≡ (r >>= λ z. s >>= λ zs. Ok ((so_far +ℤ z) +ℤ total zs))
onward so_far (Err e) s = refl
onward so_far (Ok z) (Err e) = refl
onward so_far (Ok z) (Ok zs) = ap Ok (plus_assoc so_far z (total zs))

pub total_from_step : (so_far : ℤ) (d : Datum) (ds : List Datum) → total_from so_far (d ∷ ds) ≡ (addend d >>= λ z. total_from (so_far +ℤ z) ds)
total_from_step so_far d ds = onward so_far (addend d) (each addend ds)

whole : (r : Result (List ℤ) DataFault) → (r >>= λ zs. fitted (total zs)) ≡ (r >>= (λ zs. Ok (total zs)) >>= fitted)
whole (Ok zs) = refl
whole (Err e) = refl

-- SUM looks at the size of the whole sum alone
pub summed_whole : (d : Datum) (ds : List Datum) → summed (d ∷ ds) ≡ (total_of (d ∷ ds) >>= fitted)
summed_whole d ds = whole (each addend (d ∷ ds))

-- the values that are equal to none of these
abbrev pub is_new : List Datum → Datum → Bool
is_new ks e = not (list_any (λ k. is_eq (datum_cmp k e)) ks)

abbrev pub news : List Datum → List Datum → List Datum
news ks ds = filter (is_new ks) ds

any_end : (ks : List Datum) (d e : Datum) → list_any (λ k. is_eq (datum_cmp k e)) (ks ++ d ∷ []) ≡ (list_any (λ k. is_eq (datum_cmp k e)) ks || is_eq (datum_cmp d e))
any_end [] d e = grind arith
any_end (k ∷ ks) d e = grind (arith, any_end ks d e)

twice : (a b c : Bool) (e : Datum) (p : Datum → Bool) (xs ys zs : List Datum) → p e ≡ not a → c ≡ (a || b) → filter p xs ≡ zs → filter p (cond (not b) (e ∷ xs) xs) ≡ cond (not c) (e ∷ zs) zs
twice a b c e p xs ys zs h k same = grind (arith, common_steps)

-- what is new to these and no equal of d is new to these and d
news_more : (ks : List Datum) (d : Datum) (ds : List Datum) → news ks (filter (λ e. not (is_eq (datum_cmp d e))) ds) ≡ news (ks ++ d ∷ []) ds
news_more ks d [] = refl
news_more ks d (e ∷ es) =
    twice (list_any (λ k. is_eq (datum_cmp k e)) ks) (is_eq (datum_cmp d e)) (list_any (λ k. is_eq (datum_cmp k e)) (ks ++ d ∷ [])) e (is_new ks)
    (filter (λ x. not (is_eq (datum_cmp d x))) es) [] (news (ks ++ d ∷ []) es) refl (any_end ks d e) (news_more ks d es)

-- a value that is new stays, and no later equal
pub distinct_new : (ks : List Datum) (d : Datum) (ds : List Datum) → list_any (λ k. is_eq (datum_cmp k d)) ks ≡ false
    → ks ++ news ks (distinct (d ∷ ds)) ≡ (ks ++ d ∷ []) ++ news (ks ++ d ∷ []) (distinct ds)
distinct_new ks d ds fresh =
    ap (λ b. ks ++ cond (not b) (d ∷ news ks (filter (λ e. not (is_eq (datum_cmp d e))) (distinct ds))) (news ks (filter (λ e. not (is_eq (datum_cmp d e))) (distinct ds)))) fresh
    ∙ ap (λ xs. ks ++ d ∷ xs) (news_more ks d (distinct ds)) ∙ sym (append_assoc ks (d ∷ []) (news (ks ++ d ∷ []) (distinct ds)))

equal_is : (o : Ordering) → is_eq o ≡ true → o ≡ Equal
equal_is Less p = absurd (cc)
equal_is Equal p = refl
equal_is Greater p = absurd (cc)

-- an equal of one of these has no equals that are new
known_drops : (ks : List Datum) (d e : Datum) (b : Bool) → list_any (λ k. is_eq (datum_cmp k d)) ks ≡ true → is_eq (datum_cmp d e) ≡ b
    → (xs ys : List Datum) → news ks xs ≡ ys → news ks (cond (not b) (e ∷ xs) xs) ≡ cond (is_new ks e) (e ∷ ys) ys
known_drops ks d e true known like xs ys same =
    let equal : d ≡ e = exact_datum d e (equal_is (datum_cmp d e) like) in
    let old : is_new ks e ≡ false = ap not (ap (λ x. list_any (λ k. is_eq (datum_cmp k x)) ks) (sym equal) ∙ known) in
    same ∙ sym (ap (λ b. cond b (e ∷ ys) ys) old)
known_drops ks d e false known like xs ys same = ap (λ zs. cond (is_new ks e) (e ∷ zs) zs) same

news_known : (ks : List Datum) (d : Datum) (ds : List Datum) → list_any (λ k. is_eq (datum_cmp k d)) ks ≡ true
    → news ks (filter (λ e. not (is_eq (datum_cmp d e))) ds) ≡ news ks ds
news_known ks d [] known = refl
news_known ks d (e ∷ es) known =
    known_drops ks d e (is_eq (datum_cmp d e)) known refl (filter (λ x. not (is_eq (datum_cmp d x))) es) (news ks es) (news_known ks d es known)

-- a value that is known is dropped
pub distinct_known : (ks : List Datum) (d : Datum) (ds : List Datum) → list_any (λ k. is_eq (datum_cmp k d)) ks ≡ true
    → ks ++ news ks (distinct (d ∷ ds)) ≡ ks ++ news ks (distinct ds)
distinct_known ks d ds known =
    ap (λ b. ks ++ cond (not b) (d ∷ news ks (filter (λ e. not (is_eq (datum_cmp d e))) (distinct ds))) (news ks (filter (λ e. not (is_eq (datum_cmp d e))) (distinct ds)))) known
    ∙ ap (λ xs. ks ++ xs) (news_known ks d (distinct ds) known)

pub news_of_none : (ds : List Datum) → news [] ds ≡ ds
news_of_none [] = refl
news_of_none (d ∷ ds) = ap (λ xs. d ∷ xs) (news_of_none ds)

pub any_mapped : {A : Type 0} (f : A → Datum) (d : Datum) (xs : List A) → list_any (λ x. is_eq (datum_cmp (f x) d)) xs ≡ list_any (λ k. is_eq (datum_cmp k d)) (map f xs)
any_mapped f d [] = refl
any_mapped f d (x ∷ xs) = ap (λ b. is_eq (datum_cmp (f x) d) || b) (any_mapped f d xs)

-- a step of the loop that drops equal values, at one that is new and at one that is known
pub distinct_step_new : {A : Type 0} (f : A → Datum) (kept more xs : List A) (i : ℕ) (x : A) → i < length xs → x ≡ get_or xs i x
    → list_any (λ v. is_eq (datum_cmp (f v) (f x))) kept ≡ false → more ≡ kept ++ x ∷ []
    → map f more ++ news (map f more) (distinct (map f (drop (i + 1) xs))) ≡ map f kept ++ news (map f kept) (distinct (map f (drop i xs)))
distinct_step_new f kept more xs i x below here fresh pushed =
    let rest = map f (drop (i + 1) xs) in
    let new : list_any (λ k. is_eq (datum_cmp k (f x))) (map f kept) ≡ false = sym (any_mapped f (f x) kept) ∙ fresh in
    let longer : map f more ≡ map f kept ++ f x ∷ [] = ap (map f) pushed ∙ map-append f kept (x ∷ []) in
    ap (λ ks. ks ++ news ks (distinct rest)) longer ∙ sym (distinct_new (map f kept) (f x) rest new)
    ∙ ap (λ ds. map f kept ++ news (map f kept) (distinct ds)) (sym (mapped_step f xs i x below here))

pub distinct_step_known : {A : Type 0} (f : A → Datum) (kept xs : List A) (i : ℕ) (x : A) → i < length xs → x ≡ get_or xs i x
    → list_any (λ v. is_eq (datum_cmp (f v) (f x))) kept ≡ true
    → map f kept ++ news (map f kept) (distinct (map f (drop (i + 1) xs))) ≡ map f kept ++ news (map f kept) (distinct (map f (drop i xs)))
distinct_step_known f kept xs i x below here known =
    let rest = map f (drop (i + 1) xs) in
    let old : list_any (λ k. is_eq (datum_cmp k (f x))) (map f kept) ≡ true = sym (any_mapped f (f x) kept) ∙ known in
    sym (distinct_known (map f kept) (f x) rest old)
    ∙ ap (λ ds. map f kept ++ news (map f kept) (distinct ds)) (sym (mapped_step f xs i x below here))

-- a step of the sum
pub total_from_more : {A : Type 0} (f : A → Datum) (xs : List A) (i : ℕ) (x : A) (so_far z next : ℤ) → i < length xs → x ≡ get_or xs i x
    → addend (f x) ≡ Ok z → next ≡ so_far +ℤ z → total_from next (map f (drop (i + 1) xs)) ≡ total_from so_far (map f (drop i xs))
total_from_more f xs i x so_far z next below here added sum =
    let rest = map f (drop (i + 1) xs) in
    ap (λ s. total_from s rest) sum ∙ sym (ap (λ r. r >>= λ y. total_from (so_far +ℤ y) rest) added)
    ∙ sym (total_from_step so_far (f x) rest) ∙ ap (λ ds. total_from so_far ds) (sym (mapped_step f xs i x below here))

-- one more is seen
any_more : {A : Type 0} (f : A → Bool) (xs : List A) (x : A) → list_any f (xs ++ x ∷ []) ≡ (f x || list_any f xs)
any_more f [] x = refl
any_more f (y ∷ ys) x = grind (arith, any_more f ys x)

chosen : (b c : Bool) → cond b true c ≡ (b || c)
chosen true c = refl
chosen false c = refl

pub seen_more : {A : Type 0} (f : A → Bool) (xs : List A) (x : A) (c : Bool) → c ≡ list_any f xs → cond (f x) true c ≡ list_any f (xs ++ x ∷ [])
seen_more f xs x c same = chosen (f x) c ∙ ap (λ b. f x || b) same ∙ sym (any_more f xs x)

pub not_true : (b : Bool) → not b ≡ true → b ≡ false
not_true true p = absurd (cc)
not_true false p = refl

pub not_false : (b : Bool) → not b ≡ false → b ≡ true
not_false true p = refl
not_false false p = absurd (cc)

pub considered_kept : (q : SetQuantifier) (ds : List Datum) → considered q ds ≡ kept q (filter (λ d. not (is_null d)) ds)
considered_kept quantifier.All ds = refl
considered_kept quantifier.Distinct ds = refl
