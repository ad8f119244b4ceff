-- The cause of a query's fault.
use Rattle.gql_ast.specs.declared.refusal.Refusal.TheVariants as refusal
use Rattle.gql_eval.specs.declared.error.EvalError.{EvalError}
use Rattle.gql_eval.specs.declared.error.EvalError.TheVariants as error
use Rattle.gql_norm.specs.declared.match_fault.MatchFault.{MatchFault}
use Rattle.gql_norm.specs.declared.match_fault.MatchFault.TheVariants as match
use Rattle.gql_change.specs.declared.fault.ChangeFault.{ChangeFault}
use Rattle.gql_change.specs.declared.fault.ChangeFault.TheVariants as change
use Rattle.gql_linear.specs.declared.answer.RunFault.{RunFault}
use Rattle.gql_linear.specs.declared.answer.RunFault.TheVariants as fault

-- a data fault is a refusal
abbrev pub run_fault : EvalError → RunFault
run_fault error.OutOfMemory = fault.OutOfMemory
run_fault (error.Fault f) = fault.Refused (refusal.Fault f)

-- so is that of a final WHERE, wherever it stands
abbrev pub match_fault : MatchFault → RunFault
match_fault match.OutOfMemory = fault.OutOfMemory
match_fault (match.Final at f) = fault.Refused (refusal.Fault f)

-- the refusal of a change is one of the query
abbrev pub refused_change : ChangeFault → RunFault
refused_change change.OutOfMemory = fault.OutOfMemory
refused_change (change.Refused r) = fault.Refused r
