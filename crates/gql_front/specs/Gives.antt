-- Gives: what a function of a parser answers is what reading gives, unless memory ran out.
use Rattle.std.specs.Prelude.{◌≡◌, Option, None, Result, Ok, Err}
use Rattle.gql_values3.specs.UpToMemory.{FindsBy}
use Rattle.gql_ast.specs.declared.parse_fault.ParseFault.{ParseFault}
use Rattle.gql_ast.specs.declared.parse_fault.ParseFault.TheVariants as fault

-- which fault it is: nothing is read exactly at Syntax, want of memory is the one free answer, and Deep never comes, since
-- depth is tested before a reader is called
abbrev pub Fails : {Y : Type 0} → ParseFault → Option Y → Type 0
Fails fault.Deep given = ⊥
Fails fault.Syntax given = given ≡ None
Fails fault.OutOfMemory given = Unit {0}

-- the answer, seen by the view, is what is given
abbrev pub Gives : {X Y : Type 0} → (X → Y) → Result X ParseFault → Option Y → Type 0
Gives view result given = FindsBy Fails view result given

-- the same where no memory is taken: nothing is found exactly where the answer is an error
abbrev pub Finds : {X Y E : Type 0} → (X → Y) → Result X E → Option Y → Type 0
Finds view result given = FindsBy (λ e given. given ≡ None) view result given

-- no front derives
abbrev pub IsSyntax : {X : Type 0} → Result X ParseFault → Type 0
IsSyntax (Ok x) = ⊥
IsSyntax (Err fault.Deep) = ⊥
IsSyntax (Err fault.Syntax) = Unit {0}
IsSyntax (Err fault.OutOfMemory) = ⊥

-- brackets are nested too deep
abbrev pub IsDeep : {X : Type 0} → Result X ParseFault → Type 0
IsDeep (Ok x) = ⊥
IsDeep (Err fault.Deep) = Unit {0}
IsDeep (Err fault.Syntax) = ⊥
IsDeep (Err fault.OutOfMemory) = ⊥
