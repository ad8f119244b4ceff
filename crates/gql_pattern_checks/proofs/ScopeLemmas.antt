-- The variables of parts in a row, beside each other, and told.
use Rattle.std.proofs.Common.{◌≡◌, Bool, List, [], ◌∷◌, refl}
use Rattle.gql_norm.specs.NormalPattern.{Part, in_a_row, side_by_side, sides_of}
use Rattle.gql_pattern_checks.specs.Machinery.Scopes.{with_part, with_sides, with_parts}
use Rattle.gql_pattern_checks.specs.declared.scope.Names.{Names}

pub with_row : (g : Bool) (s : Names) (p : Part) (ps : List Part) → with_part g s (in_a_row p ps) ≡ with_parts g s (p ∷ ps)
with_row g s p [] = refl
with_row g s p (r ∷ rs) = with_row g (with_part g s p) r rs

pub with_union : (g : Bool) (s : Names) (p : Part) (ps : List Part) → with_part g s (side_by_side p ps) ≡ with_parts g s (p ∷ ps)
with_union g s p [] = refl
with_union g s p (r ∷ rs) = with_union g (with_part g s p) r rs

pub with_told : (g : Bool) (s : Names) (ps : List Part) → with_sides g s (sides_of ps) ≡ with_parts g s ps
with_told g s [] = refl
with_told g s (p ∷ ps) = with_told g (with_part g s p) ps
