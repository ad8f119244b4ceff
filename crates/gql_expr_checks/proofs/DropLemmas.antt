-- The items of a list from one on.
use Rattle.std.proofs.Common.{◌≡◌, ℕ, ◌+◌, ◌<◌, List, ◌∷◌, length, drop, get_or, arith}
use Rattle.std.proofs.lemmas.Grind.{common_steps}

-- the items from i on are the item there and those behind it
pub drop_step : {A : Type 0} (xs : List A) (i : ℕ) (x : A) → i < length xs → x ≡ get_or xs i x → drop i xs ≡ x ∷ drop (i + 1) xs
drop_step xs i x h p = grind (arith, common_steps)
