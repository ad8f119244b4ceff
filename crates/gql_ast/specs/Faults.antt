-- Data faults: the first one met is the answer of an evaluation.
use Rattle.std.specs.Prelude.{List, [], ◌∷◌, Result, Ok, Err}
use Rattle.gql_ast.specs.declared.fault.DataFault.{DataFault}

-- what comes of a step: a value, or the fault that ends the evaluation
abbrev pub Given : Type 0 → Type 0
Given A = Result A DataFault

-- one step after another; the first fault ends them
infixl 10 ◌>>=◌
abbrev pub ◌>>=◌ : {A B : Type 0} → Result A DataFault → (A → Result B DataFault) → Result B DataFault
(Ok x) >>= f = f x
(Err e) >>= f = Err e

-- a step for each of a list, from the left
abbrev pub each : {A B : Type 0} → (A → Result B DataFault) → List A → Result (List B) DataFault
each f [] = Ok []
each f (x ∷ xs) = f x >>= λ y. each f xs >>= λ ys. Ok (y ∷ ys)
