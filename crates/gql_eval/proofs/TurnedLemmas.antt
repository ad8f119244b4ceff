-- Lists read from their last item on.
use Rattle.std.proofs.Common.{◌≡◌, ℕ, zero, suc, ◌-◌, ◌<◌, ◌≤◌, List, [], ◌∷◌, ◌++◌, length, take, drop, get_or, refl, ap, sym, ◌∙◌, arith}
use Rattle.std.proofs.lemmas.List.{length-append, take_all, take-append-le}
use Rattle.std.proofs.Math.Seq.{take-nil, drop-nil}
use Rattle.gql_eval.specs.Machinery.Turned.{turned}

pub turned_last : {A B : Type 0} (f : A → B) (xs : List A) (x : A) → turned f (xs ++ x ∷ []) ≡ f x ∷ turned f xs
turned_last f [] x = refl
turned_last f (y ∷ xs) x = ap (λ ys. ys ++ f y ∷ []) (turned_last f xs x)

pub length_turned : {A B : Type 0} (f : A → B) (xs : List A) → length (turned f xs) ≡ length xs
length_turned f [] = refl
length_turned f (x ∷ xs) = length-append (turned f xs) (f x ∷ []) ∙ let e = length_turned f xs in omega (arith, e)

-- the first so many, and one more
pub turned_step : {A B : Type 0} (f : A → B) (xs : List A) (i : ℕ) (x : A) → i < length xs → x ≡ get_or xs i x → turned f (take (suc i) xs) ≡ f x ∷ turned f (take i xs)
turned_step f [] i x h p = absurd (omega arith)
turned_step f (y ∷ xs) zero x h p = ap (λ z. f z ∷ []) (sym p)
turned_step f (y ∷ xs) (suc i) x h p = ap (λ ys. ys ++ f y ∷ []) (turned_step f xs i x (omega arith) p)

pub turned_more : {A B : Type 0} (f : A → B) (xs : List A) (i : ℕ) → i < length xs → (y : B) × (turned f (take (suc i) xs) ≡ y ∷ turned f (take i xs))
turned_more f [] i h = absurd (omega arith)
turned_more f (x ∷ xs) zero h = (f x, refl)
turned_more f (x ∷ xs) (suc i) h = let more = turned_more f xs i (omega arith) in (more.0, ap (λ ys. ys ++ f x ∷ []) more.1)

-- the last so many are the first so many of the list turned
pub turned_end : {A B : Type 0} (f : A → B) (xs : List A) (n k : ℕ) → k ≡ length xs - n → turned f (drop k xs) ≡ take n (turned f xs)
turned_end f [] n k p = ap (turned f) (drop-nil k) ∙ sym (take-nil n)
turned_end f (x ∷ xs) n zero p = let e = length_turned f (x ∷ xs) in sym (take_all n (turned f (x ∷ xs)) (omega (arith, e, p)))
turned_end f (x ∷ xs) n (suc k) p = let e = length_turned f xs in turned_end f xs n k (omega (arith, p)) ∙ sym (take-append-le n (turned f xs) (f x ∷ []) (omega (arith, e, p)))
