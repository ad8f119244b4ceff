-- What a check gives: Ok where nothing is at fault, and else the refusal. Only want of memory is free.
use Rattle.std.specs.Prelude.{◌≡◌, Option, Some, None, Result}
use Rattle.gql_values3.specs.UpToMemory.{AnswersBy}
use Rattle.gql_ast.specs.declared.refusal.Refusal.{Refusal}
use Rattle.gql_expr_checks.specs.declared.fault.ScopeFault.{ScopeFault}
use Rattle.gql_expr_checks.specs.declared.fault.ScopeFault.TheVariants as fault

-- the fault is the refusal
abbrev pub Fails : ScopeFault → Option Refusal → Type 0
Fails (fault.Defect r) o = o ≡ Some r
Fails fault.OutOfMemory o = Unit {0}

-- Ok says that nothing is refused, a defect what is; want of memory says neither
abbrev pub Gives : Result (Unit {0}) ScopeFault → Option Refusal → Type 0
Gives = AnswersBy (λ (u : Unit {0}). None) Fails
