-- Two lists whose elements belong together by their places, where one of them is put in another order.
use Rattle.std.proofs.Common.{◌≡◌, ℕ, zero, suc, List, [], ◌∷◌, ◌++◌, length, take, ◌+◌, ◌<◌, IsPermutation, arith, refl, sym, subst}
use Rattle.std.specs.Prelude.{slice_set, slice_index_or}
use Rattle.std.specs.List.{AllZip, swap}
use Rattle.std.proofs.lemmas.List.{take_more}
use Rattle.std.proofs.lemmas.Slice.Zip.{all_zipped_more}
use Rattle.std.specs.List.Sorted.{apply_swaps, SwapsInRange}

module _ {X Y : Type 0} (R : X → Y → Type 0) where
  pair_at : (xs : List X) (ys : List Y) (i : ℕ) (x : X) (y : Y) → R x y → AllZip R xs ys → R (slice_index_or xs i x) (slice_index_or ys i y)
  pair_at [] [] i x y r all = r
  pair_at [] (b ∷ ys) i x y r all = absurd all
  pair_at (a ∷ xs) [] i x y r all = absurd all
  pair_at (a ∷ xs) (b ∷ ys) zero x y r all = all.0
  pair_at (a ∷ xs) (b ∷ ys) (suc i) x y r all = pair_at xs ys i x y r all.1

  pair_set : (xs : List X) (ys : List Y) (i : ℕ) (x : X) (y : Y) → R x y → AllZip R xs ys → AllZip R (slice_set xs i x) (slice_set ys i y)
  pair_set [] [] i x y r all = all
  pair_set [] (b ∷ ys) i x y r all = absurd all
  pair_set (a ∷ xs) [] i x y r all = absurd all
  pair_set (a ∷ xs) (b ∷ ys) zero x y r all = (r, all.1)
  pair_set (a ∷ xs) (b ∷ ys) (suc i) x y r all = (all.0, pair_set xs ys i x y r all.1)

  pair_swap : (xs : List X) (ys : List Y) (i j : ℕ) → AllZip R xs ys → AllZip R (swap xs i j) (swap ys i j)
  pair_swap [] [] i j all = all
  pair_swap [] (b ∷ ys) i j all = absurd all
  pair_swap (a ∷ xs) [] i j all = absurd all
  pair_swap (a ∷ xs) (b ∷ ys) i j all =
      pair_set _ _ j _ _ (pair_at (a ∷ xs) (b ∷ ys) i a b all.0 all) (pair_set (a ∷ xs) (b ∷ ys) i _ _ (pair_at (a ∷ xs) (b ∷ ys) j a b all.0 all) all)

  pair_moves : (xs : List X) (ys : List Y) (moves : List (ℕ × ℕ)) → AllZip R xs ys → AllZip R (apply_swaps xs moves) (apply_swaps ys moves)
  pair_moves xs ys [] all = all
  pair_moves xs ys (m ∷ moves) all = pair_swap (apply_swaps xs moves) (apply_swaps ys moves) m.0 m.1 (pair_moves xs ys moves all)

  pair_length : (xs : List X) (ys : List Y) → AllZip R xs ys → length ys ≡ length xs
  pair_length [] [] all = refl
  pair_length [] (b ∷ ys) all = absurd all
  pair_length (a ∷ xs) [] all = absurd all
  pair_length (a ∷ xs) (b ∷ ys) all = let more = pair_length xs ys all.1 in omega arith

  -- the other list is put in that order too
  pub pairs_permuted : (xs : List X) (ys zs : List Y) → AllZip R xs ys → IsPermutation ys zs → (ws : List X) × IsPermutation xs ws × AllZip R ws zs
  pairs_permuted xs ys zs all same = (
    apply_swaps xs same.moves,
    record { moves = same.moves; below = subst (λ n. SwapsInRange n same.moves) (pair_length xs ys all) same.below; is = refl },
    subst (AllZip R (apply_swaps xs same.moves)) (sym same.is) (pair_moves xs ys same.moves all),
  )

  -- one element more of the first list, and the one that belongs to it
  pub pair_next : (xs : List X) (ys : List Y) (i : ℕ) (x : X) (y : Y) → i < length xs → x ≡ slice_index_or xs i x → AllZip R (take i xs) ys → R x y → AllZip R (take (i + 1) xs) (ys ++ y ∷ [])
  pair_next xs ys i x y below is all r =
      subst (λ l. AllZip R l (ys ++ y ∷ [])) (sym (take_more xs i x below)) (all_zipped_more R (take i xs) ys (slice_index_or xs i x) y all (subst (λ z. R z y) is r))
