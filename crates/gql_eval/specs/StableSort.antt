-- A stable sort: the items in order, those that are equal in it as they stood.
use Rattle.std.specs.Prelude.{Bool, List, [], ◌∷◌, if◌then◌else◌}

module _ {X : Type 0} (before : X → X → Bool) where
  -- among items in order, behind those that come before it, and in front of its equals
  abbrev pub inserted_in_order : X → List X → List X
  inserted_in_order x [] = x ∷ []
  inserted_in_order x (y ∷ ys) = if before y x then y ∷ inserted_in_order x ys else x ∷ y ∷ ys

  -- the items in order; equal ones stand as they stood
  abbrev pub stably_sorted : List X → List X
  stably_sorted [] = []
  stably_sorted (x ∷ xs) = inserted_in_order x (stably_sorted xs)
