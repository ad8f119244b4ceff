-- Steps that may be skipped, or that an aggregate does itself: how many they are.
use Rattle.std.proofs.Common.{◌≡◌, ℕ, ◌+◌, ◌-◌, ◌≤◌, List, ◌∷◌, ◌++◌, length, ap, sym, ◌∙◌, arith}
use Rattle.std.proofs.lemmas.List.{length-append}
use Rattle.gql_eval.specs.Machinery.InstructionMeaning.{op_of, program_of}
use Rattle.gql_eval.specs.Machinery.Steps.{Op}
use Rattle.gql_eval.specs.declared.instruction.Instruction.{Instruction}
use Rattle.gql_eval.proofs.TurnedLemmas.{length_turned}

-- as many as there were, and those in front
pub count_of : (steps : List Op) (all behind : List Instruction) → program_of all ≡ steps ++ program_of behind → length all ≡ length steps + length behind
count_of steps all behind split =
    let both : length (program_of all) ≡ length steps + length (program_of behind) = ap length split ∙ length-append steps (program_of behind) in
    let a = length_turned op_of all in
    let b = length_turned op_of behind in
    omega (arith, both, a, b)

pub none_lost : (steps : List Op) (all behind : List Instruction) → program_of all ≡ steps ++ program_of behind → length behind ≤ length all
none_lost steps all behind split = let e = count_of steps all behind split in omega (arith, e)

-- a step in front that has their number
pub counts_them : (step : ℕ → Op) (n : ℕ) (steps : List Op) (all behind : List Instruction) → program_of all ≡ steps ++ program_of behind → n ≡ length all - length behind
    → step n ∷ program_of all ≡ (step (length steps) ∷ steps) ++ program_of behind
counts_them step n steps all behind split same =
    let e = count_of steps all behind split in
    let count : n ≡ length steps = omega (arith, e, same) in
    ap (λ k. step k ∷ program_of all) count ∙ ap (λ p. step (length steps) ∷ p) split
