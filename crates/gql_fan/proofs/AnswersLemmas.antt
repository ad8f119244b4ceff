-- What `Answers` says of two lists of inputs, one behind the other, of lengths, and of a place.
use Rattle.std.proofs.Common.{◌≡◌, ℕ, zero, suc, ◌<◌, List, [], ◌∷◌, ◌++◌, length, get_or, refl, ap, arith}
use Rattle.gql_fan.specs.Answers.{Answers}

pub answers_append : {Out : Type 0} (answers : ℕ → Out → Type 0) (xs ys : List ℕ) (outs more : List Out)
    → Answers answers xs outs → Answers answers ys more → Answers answers (xs ++ ys) (outs ++ more)
answers_append answers [] ys [] more left right = right
answers_append answers [] ys (out ∷ outs) more left right = absurd left
answers_append answers (x ∷ xs) ys [] more left right = absurd left
answers_append answers (x ∷ xs) ys (out ∷ outs) more left right = (left.0, answers_append answers xs ys outs more left.1 right)

-- as many outputs as inputs
pub answers_length : {Out : Type 0} (answers : ℕ → Out → Type 0) (xs : List ℕ) (outs : List Out) → Answers answers xs outs → length outs ≡ length xs
answers_length answers [] [] all = refl
answers_length answers [] (out ∷ outs) all = absurd all
answers_length answers (x ∷ xs) [] all = absurd all
answers_length answers (x ∷ xs) (out ∷ outs) all = ap suc (answers_length answers xs outs all.1)

-- the output of a place answers the input of that place
pub answer_at : {Out : Type 0} (answers : ℕ → Out → Type 0) (xs : List ℕ) (outs : List Out) (k : ℕ) (d : Out)
    → Answers answers xs outs → k < length xs → answers (get_or xs k 0) (get_or outs k d)
answer_at answers [] outs k d all under = absurd (omega arith)
answer_at answers (x ∷ xs) [] k d all under = absurd all
answer_at answers (x ∷ xs) (out ∷ outs) zero d all under = all.0
answer_at answers (x ∷ xs) (out ∷ outs) (suc k) d all under = answer_at answers xs outs k d all.1 (omega arith)

-- where an input has one answer alone, the outputs are the same whatever the fan and the number of workers
pub one_answer : {Out : Type 0} (answers : ℕ → Out → Type 0) → ((x : ℕ) (out other : Out) → answers x out → answers x other → out ≡ other)
    → (xs : List ℕ) (outs others : List Out) → Answers answers xs outs → Answers answers xs others → outs ≡ others
one_answer answers one [] [] [] all every = refl
one_answer answers one [] (out ∷ outs) others all every = absurd all
one_answer answers one [] [] (other ∷ others) all every = absurd every
one_answer answers one (x ∷ xs) [] others all every = absurd all
one_answer answers one (x ∷ xs) (out ∷ outs) [] all every = absurd every
one_answer answers one (x ∷ xs) (out ∷ outs) (other ∷ others) all every =
    λ i. one x out other all.0 every.0 i ∷ one_answer answers one xs outs others all.1 every.1 i
