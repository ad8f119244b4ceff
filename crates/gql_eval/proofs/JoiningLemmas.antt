-- How deep two lists are nested that stand behind one another.
use Rattle.std.proofs.Common.{◌≡◌, ℕ, Bool, true, false, ◌&&◌, nat_le, max, List, [], ◌∷◌, ◌++◌, refl, ap, sym, ◌∙◌, arith}
use Rattle.gql_values3.specs.Datum.{Datum}
use Rattle.gql_values3.specs.Nesting.{depth, depth_all}

-- both are at most k where the greater is
le_max : (a b k : ℕ) → nat_le (max a b) k ≡ (nat_le a k && nat_le b k)
le_max a b k = grind arith

regroup : (a b c : Bool) → (a && (b && c)) ≡ ((a && b) && c)
regroup true b c = refl
regroup false b c = refl

pub within_append : (xs ys : List Datum) (k : ℕ) → nat_le (depth_all (xs ++ ys)) k ≡ (nat_le (depth_all xs) k && nat_le (depth_all ys) k)
within_append [] ys k = grind arith
within_append (x ∷ xs) ys k =
    le_max (depth x) (depth_all (xs ++ ys)) k ∙ ap (λ b. nat_le (depth x) k && b) (within_append xs ys k)
    ∙ regroup (nat_le (depth x) k) (nat_le (depth_all xs) k) (nat_le (depth_all ys) k)
    ∙ ap (λ b. b && nat_le (depth_all ys) k) (sym (le_max (depth x) (depth_all xs) k))
