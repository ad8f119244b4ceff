-- What a making call answered is what the definition makes, unless memory ran out.
use Rattle.std.specs.Prelude.{◌≡◌, Result, Err}
use Rattle.gql_values3.specs.UpToMemory.{GivesBy}
use Rattle.gql_ast.specs.declared.refusal.ElemKind.{ElemKind}
use Rattle.gql_ast.specs.declared.refusal.Refusal.TheVariants as refusal
use Rattle.gql_change.specs.declared.fault.ChangeFault.{ChangeFault}
use Rattle.gql_change.specs.declared.fault.ChangeFault.TheVariants as fault
use Rattle.gql_change.specs.declared.making_fault.MakingFault.{MakingFault}
use Rattle.gql_change.specs.declared.making_fault.MakingFault.TheVariants as making

-- numbers that are used up are the definition's; want of memory is the one free answer
abbrev pub IsFull : {Y : Type 0} → MakingFault → Result Y ElemKind → Type 0
IsFull making.OutOfMemory given = Unit {0}
IsFull (making.Full k) given = given ≡ Err k

abbrev pub Makes : {X Y : Type 0} → (X → Y) → Result X MakingFault → Result Y ElemKind → Type 0
Makes view = GivesBy IsFull view

abbrev pub fault_of_making : MakingFault → ChangeFault
fault_of_making making.OutOfMemory = fault.OutOfMemory
fault_of_making (making.Full k) = fault.Refused (refusal.Full k)
