-- What a function answered is what the definition gives, unless memory ran out.
use Rattle.std.specs.Prelude.{◌≡◌, Result, Err}
use Rattle.gql_values3.specs.UpToMemory.{GivesBy}
use Rattle.gql_ast.specs.declared.fault.DataFault.{DataFault}
use Rattle.gql_eval.specs.declared.error.EvalError.{EvalError}
use Rattle.gql_eval.specs.declared.error.EvalError.TheVariants as error

-- a fault is the definition's
abbrev pub IsFault : {Y : Type 0} → DataFault → Result Y DataFault → Type 0
IsFault f given = given ≡ Err f

-- the same, where want of memory is the one free answer
abbrev pub Fails : {Y : Type 0} → EvalError → Result Y DataFault → Type 0
Fails error.OutOfMemory given = Unit {0}
Fails (error.Fault f) given = given ≡ Err f

-- the answer, seen by the view, is what is given
abbrev pub Gives : {X Y : Type 0} → (X → Y) → Result X EvalError → Result Y DataFault → Type 0
Gives view = GivesBy Fails view

-- the same of a function that needs no memory, and so never wants it
abbrev pub GivesExactly : {X Y : Type 0} → (X → Y) → Result X DataFault → Result Y DataFault → Type 0
GivesExactly view = GivesBy IsFault view
