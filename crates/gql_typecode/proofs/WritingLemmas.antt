-- Parts that are written one behind the other.
use Rattle.std.proofs.Common.{◌≡◌, ℕ, List, ◌++◌, ap, ◌∙◌, append_assoc}

-- three parts
pub three_parts : (before one two x y z : List ℕ) → one ≡ before ++ x → two ≡ one ++ y → two ++ z ≡ before ++ ((x ++ y) ++ z)
three_parts before one two x y z first second =
    let so_far : two ≡ before ++ (x ++ y) = second ∙ ap (λ (bytes : List ℕ). bytes ++ y) first ∙ append_assoc before x y in
    ap (λ (bytes : List ℕ). bytes ++ z) so_far ∙ append_assoc before (x ++ y) z
