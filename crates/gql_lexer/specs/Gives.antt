-- Gives: what a function answers is what there is to read, unless memory ran out.
use Rattle.std.specs.Prelude.{◌≡◌, Option, None, ⊤, List, [], ◌∷◌, ◌++◌, Result}
use Rattle.std.specs.Option.{option_map}
use Rattle.gql_values3.specs.UpToMemory.{FindsBy}
use Rattle.gql_lexer.specs.declared.fault.LexFault.{LexFault}
use Rattle.gql_lexer.specs.declared.fault.LexFault.TheVariants.{Bad, OutOfMemory}

-- which fault it is: bad exactly where there is nothing to read
abbrev pub Fails : {X : Type 0} → LexFault → Option X → Type 0
Fails Bad read = read ≡ None
Fails OutOfMemory read = ⊤

-- the answer is what there is to read
abbrev pub Gives : {X : Type 0} → Result X LexFault → Option X → Type 0
Gives result read = FindsBy Fails (λ x. x) result read

-- the answer adds what there is to read at the end of a list
abbrev pub Adds : {X : Type 0} → Result (Unit {0}) LexFault → List X → List X → Option X → Type 0
Adds result before after read = FindsBy Fails (λ _. after) result (option_map (λ x. before ++ x ∷ []) read)
