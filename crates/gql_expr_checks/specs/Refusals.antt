-- The refusal of what is at fault: the first of a list, or a misuse where there is one.
use Rattle.std.specs.Prelude.{Bool, true, false, List, [], ◌∷◌, Option, Some, None}
use Rattle.gql_ast.specs.declared.refusal.Refusal.{Refusal}
use Rattle.gql_ast.specs.declared.refusal.Refusal.TheVariants as refusal

-- the refusal of the first of what is at fault
abbrev pub refusal_of_first : {A : Type 0} → (A → Refusal) → List A → Option Refusal
refusal_of_first refuse [] = None
refusal_of_first refuse (x ∷ xs) = Some (refuse x)

-- the refusal of a misuse
abbrev pub misuse_if : Bool → Option Refusal
misuse_if true = Some refusal.Misuse
misuse_if false = None
