-- What a fan gives: an output for each input, in their order.
use Rattle.std.specs.Prelude.{⊤, ℕ, List, [], ◌∷◌}

-- there are as many outputs as inputs, and each answers the input of its place
abbrev pub Answers : {Out : Type 0} → (ℕ → Out → Type 0) → List ℕ → List Out → Type 0
Answers answers [] [] = ⊤
Answers answers [] (out ∷ outs) = ⊥
Answers answers (input ∷ inputs) [] = ⊥
Answers answers (input ∷ inputs) (out ∷ outs) = answers input out × Answers answers inputs outs
