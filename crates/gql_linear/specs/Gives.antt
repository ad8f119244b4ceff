-- What a call answered is one of the results that the definition admits, unless memory ran out.
use Rattle.std.specs.Prelude.{Result, Ok, Err}
use Rattle.gql_ast.specs.declared.fault.DataFault.{DataFault}
use Rattle.gql_ast.specs.declared.refusal.Refusal.{Refusal}
use Rattle.gql_eval.specs.RowLists.{RowList}
use Rattle.gql_norm.specs.declared.match_fault.MatchFault.{MatchFault}
use Rattle.gql_norm.specs.declared.match_fault.MatchFault.TheVariants as match_fault
use Rattle.gql_linear.specs.declared.answer.RunFault.{RunFault}
use Rattle.gql_linear.specs.declared.answer.RunFault.TheVariants as fault

-- the refusal may be; want of memory is the one free answer
abbrev pub MayRefuse : {Y : Type 0} → (Result Y Refusal → Type 0) → RunFault → Type 0
MayRefuse May fault.OutOfMemory = Unit {0}
MayRefuse May (fault.Refused r) = May (Err r)

-- the answer, seen by the view, may be
abbrev pub MayGive : {X Y : Type 0} → (X → Y) → (Result Y Refusal → Type 0) → Result X RunFault → Type 0
MayGive view May (Ok x) = May (Ok (view x))
MayGive view May (Err e) = MayRefuse May e

-- the same of the rows that a matcher gave; where its final WHERE faulted, the fault may be
abbrev pub MayMatch : (Result RowList DataFault → Type 0) → Result RowList MatchFault → Type 0
MayMatch May (Ok rows) = May (Ok rows)
MayMatch May (Err (match_fault.Final at f)) = May (Err f)
MayMatch May (Err match_fault.OutOfMemory) = Unit {0}
