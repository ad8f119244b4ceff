-- A list read from its last item on, as a stack is from its top.
use Rattle.std.specs.Prelude.{List, [], ◌∷◌, ◌++◌}

abbrev pub turned : {A B : Type 0} → (A → B) → List A → List B
turned f [] = []
turned f (x ∷ xs) = turned f xs ++ f x ∷ []
