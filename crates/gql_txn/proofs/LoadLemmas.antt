-- A record at fault, as reading tells it and as loading does.
use Rattle.std.proofs.Common.{◌≡◌, ◌⊎◌, ℕ, zero, suc, ◌+◌, false, List, [], ◌∷◌, ◌++◌, take, slice_get, Some, inl, inr, ap, IsTrue, add-one}
use Rattle.gql_rowcode.specs.declared.fault.ReadFault.TheVariants as read
use Rattle.gql_txn.specs.declared.load.LoadFault.TheVariants as load

pub told_again : (j i : ℕ) → (read.BadRecord j ≡ read.BadRecord i) ⊎ (read.BadRecord j ≡ read.OutOfMemory) → (load.BadRecord j ≡ load.BadRecord i) ⊎ IsTrue false
told_again j i (inl p) = let same : j ≡ i = cc in inl (ap load.BadRecord same)
told_again j i (inr q) = cc

take-suc : {A : Type 0} (xs : List A) (i : ℕ) (x : A) → slice_get xs i ≡ Some x → take (suc i) xs ≡ take i xs ++ x ∷ []
take-suc [] i x p = cc
take-suc (y ∷ ys) zero x p = let same : y ≡ x = cc in ap (λ z. z ∷ []) same
take-suc (y ∷ ys) (suc i) x p = ap (λ zs. y ∷ zs) (take-suc ys i x p)

-- one item more of a list
pub take-next : {A : Type 0} (xs : List A) (i : ℕ) (x : A) → slice_get xs i ≡ Some x → take (i + 1) xs ≡ take i xs ++ x ∷ []
take-next xs i x p = rw add-one (take-suc xs i x p)

-- a record at fault is no want of memory
pub not_lack : (j : ℕ) → read.BadRecord j ≡ read.OutOfMemory → IsTrue false
not_lack j q = cc
