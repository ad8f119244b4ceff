-- What the answer of a planning call says of what the definition gives.
use Rattle.std.specs.Prelude.{◌≡◌, IsTrue, List, Result, Ok, Err}
use Rattle.gql_values3.specs.PropertyGraph.{PropertyGraph}
use Rattle.gql_ast.specs.declared.refusal.Refusal.{Refusal}
use Rattle.gql_ast.specs.declared.refusal.Refusal.TheVariants as refusal
use Rattle.gql_eval.specs.declared.error.EvalError.{EvalError}
use Rattle.gql_eval.specs.declared.error.EvalError.TheVariants as error
use Rattle.gql_graph.specs.Edits.{can_act_each, changed_by_each}
use Rattle.gql_graph.specs.declared.change.Change.{Change}
use Rattle.gql_eval.specs.RowLists.{RowList}
use Rattle.gql_change.specs.Changing.{Changed}
use Rattle.gql_change.specs.declared.fault.ChangeFault.{ChangeFault}
use Rattle.gql_change.specs.declared.fault.ChangeFault.TheVariants as fault

-- the changes can act one after the other, and lead from the one graph to the other
abbrev pub LeadTo : PropertyGraph → List Change → PropertyGraph → Type 0
LeadTo g cs h = IsTrue (can_act_each cs g) × (changed_by_each cs g ≡ h)

-- a refusal is the definition's; want of memory is the one free answer
abbrev pub Fails : {Y : Type 0} → ChangeFault → Result Y Refusal → Type 0
Fails fault.OutOfMemory given = Unit {0}
Fails (fault.Refused r) given = given ≡ Err r

-- changes that lead to the definition's graph, and its rows
abbrev pub Plans : {X : Type 0} → (X → List Change × RowList) → PropertyGraph → Result X ChangeFault → Result Changed Refusal → Type 0
Plans view g (Ok x) given = (c : Changed) × (given ≡ Ok c) × LeadTo g (view x).0 c.0 × ((view x).1 ≡ c.1)
Plans view g (Err e) given = Fails e given

-- a data fault refuses the clause
abbrev pub change_fault : EvalError → ChangeFault
change_fault error.OutOfMemory = fault.OutOfMemory
change_fault (error.Fault f) = fault.Refused (refusal.Fault f)
