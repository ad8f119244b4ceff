-- What a clause that changes data leads to, from its plan.
use Rattle.std.proofs.Common.{◌≡◌, ℕ, List, Result, Ok, sym, ap, ◌∙◌}
use Rattle.gql_values3.specs.Datum.{Datum}
use Rattle.gql_values3.specs.PropertyGraph.{PropertyGraph}
use Rattle.gql_ast.specs.ClauseColumns.{ColumnList}
use Rattle.gql_ast.specs.InsertColumns.{change_columns}
use Rattle.gql_ast.specs.declared.change.ChangeClause.{ChangeClause}
use Rattle.gql_ast.specs.declared.clause.Clause.TheVariants as clause
use Rattle.gql_ast.specs.declared.refusal.Refusal.{Refusal}
use Rattle.gql_eval.specs.RowLists.{RowList}
use Rattle.gql_graph.specs.Edits.{changed_by_each}
use Rattle.gql_graph.specs.declared.change.Change.{Change}
use Rattle.gql_change.specs.Changing.{Changed, change_of}
use Rattle.gql_change.specs.Plans.{LeadTo, Fails}
use Rattle.gql_change.specs.declared.fault.ChangeFault.{ChangeFault}
use Rattle.gql_change.specs.declared.fault.ChangeFault.TheVariants as fault
use Rattle.gql_linear.specs.Causes.{refused_change}
use Rattle.gql_linear.specs.Gives.{MayRefuse}
use Rattle.gql_linear.specs.QueryRun.{Working, with_change, MayLeadTo}

abbrev behind : PropertyGraph → ColumnList → RowList → Result Working Refusal
behind g columns rows = Ok (record { graph = g; columns = columns; rows = rows })

module _ (params : List (List ℕ × Datum)) where
  -- the planned changes lead to the graph, and the plan has the rows
  pub led_by_change : (t : Working) (c : ChangeClause) (list : List Change) (g : PropertyGraph) (columns : ColumnList) (rows : RowList)
      → (d : Changed) × (change_of t.graph params t.columns t.rows c ≡ Ok d) × LeadTo t.graph list d.0 × (rows ≡ d.1) → columns ≡ change_columns t.columns c → g ≡ changed_by_each list t.graph
      → MayLeadTo params t (clause.Change c) (Ok (record { graph = g; columns = columns; rows = rows }))
  led_by_change t c list g columns rows planned wide changed =
      let wider = change_columns t.columns c in
      ap (λ x. behind x columns rows) (changed ∙ planned.2.1) ∙ ap (λ cs. behind planned.0.0 cs rows) wide ∙ ap (behind planned.0.0 wider) planned.3
      ∙ sym (ap (with_change wider) planned.1)

  pub refused_by_change : (t : Working) (c : ChangeClause) (e : ChangeFault) → Fails e (change_of t.graph params t.columns t.rows c) → MayRefuse (MayLeadTo params t (clause.Change c)) (refused_change e)
  refused_by_change t c fault.OutOfMemory failed = tt
  refused_by_change t c (fault.Refused r) failed = sym (ap (with_change (change_columns t.columns c)) failed)
