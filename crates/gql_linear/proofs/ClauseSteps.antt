-- Clauses from the left: what the rest may lead to is what all may lead to, and the first refusal ends them.
use Rattle.std.proofs.Common.{◌≡◌, ℕ, ◌+◌, ◌<◌, ◌≤◌, Bool, true, false, ◌||◌, List, [], ◌∷◌, length, drop, get_or, Result, Ok, Err, refl, sym, ap, ◌∙◌, subst}
use Rattle.std.proofs.lemmas.List.{drop_all}
use Rattle.std.specs.List.{list_any}
use Rattle.gql_values3.specs.Datum.{Datum}
use Rattle.gql_values3.specs.PropertyGraph.{PropertyGraph}
use Rattle.gql_ast.specs.ClauseColumns.{ColumnList}
use Rattle.gql_ast.specs.Faults.{◌>>=◌}
use Rattle.gql_ast.specs.LastClause.{is_change}
use Rattle.gql_ast.specs.declared.clause.Clause.{Clause}
use Rattle.gql_ast.specs.declared.clause.Clause.TheVariants as clause
use Rattle.gql_ast.specs.declared.fault.DataFault.{DataFault}
use Rattle.gql_ast.specs.declared.refusal.Refusal.{Refusal}
use Rattle.gql_ast.specs.declared.refusal.Refusal.TheVariants as refusal
use Rattle.gql_eval.specs.Gives.{Fails}
use Rattle.gql_eval.specs.RowLists.{RowList}
use Rattle.gql_eval.specs.declared.error.EvalError.{EvalError}
use Rattle.gql_eval.specs.declared.error.EvalError.TheVariants as error
use Rattle.gql_expr_checks.proofs.DropLemmas.{drop_step}
use Rattle.gql_table.specs.Clauses.{columns_after, rows_after, table_after}
use Rattle.gql_linear.specs.Causes.{run_fault}
use Rattle.gql_linear.specs.Gives.{MayRefuse}
use Rattle.gql_linear.specs.Machinery.TableClauses.{is_over_tables}
use Rattle.gql_linear.specs.QueryRun.{Working, WorkingTable, with_table, MayLeadTo, MayRun}
use Rattle.gql_linear.specs.SoundQuery.{MatchIsSound, MatchesAreSound, columns_past}
use Rattle.gql_linear.specs.declared.answer.RunFault.{RunFault}
use Rattle.gql_linear.specs.declared.answer.RunFault.TheVariants as fault

-- the columns behind a clause over tables are those that the static checks say
same_columns : (columns : ColumnList) (c : Clause) → is_over_tables c ≡ true → columns_after columns c ≡ columns_past columns c
same_columns columns (clause.Match m) over = absurd (cc)
same_columns columns (clause.Let x) over = refl
same_columns columns (clause.Filter x) over = refl
same_columns columns (clause.For x) over = refl
same_columns columns (clause.Page x) over = refl
same_columns columns (clause.Change x) over = absurd (cc)
same_columns columns (clause.Return x) over = refl

abbrev columns_of : Result WorkingTable DataFault → ColumnList
columns_of (Ok t) = t.0
columns_of (Err f) = []

module _ (params : List (List ℕ × Datum)) where
  -- what the rest may lead to from here is what all may lead to from the beginning
  abbrev pub Ahead : Working → List Clause → Working → List Clause → Type 0
  Ahead first all here rest = (result : Result Working Refusal) → MayRun params here rest result → MayRun params first all result

  -- nothing is left
  pub at_end : (first : Working) (all : List Clause) (here : Working) (at : ℕ) → length all ≤ at → Ahead first all here (drop at all) → MayRun params first all (Ok here)
  at_end first all here at done ahead = ahead (Ok here) (subst (λ cs. MayRun params here cs (Ok here)) (sym (drop_all at all done)) refl)

  -- a clause over tables leads to the one table behind it, under its columns, or to its fault
  pub led_by_table : (t : Working) (c : Clause) (done : WorkingTable) → is_over_tables c ≡ true → table_after t.graph params t.columns c t.rows ≡ Ok done
      → MayLeadTo params t c (Ok (record { graph = t.graph; columns = done.0; rows = done.1 }))
  led_by_table t (clause.Match m) done over e = absurd (cc)
  led_by_table t (clause.Let x) done over e = sym (ap (with_table t.graph) e)
  led_by_table t (clause.Filter x) done over e = sym (ap (with_table t.graph) e)
  led_by_table t (clause.For x) done over e = sym (ap (with_table t.graph) e)
  led_by_table t (clause.Page x) done over e = sym (ap (with_table t.graph) e)
  led_by_table t (clause.Change x) done over e = absurd (cc)
  led_by_table t (clause.Return x) done over e = sym (ap (with_table t.graph) e)

  fault_by_table : (t : Working) (c : Clause) (f : DataFault) → is_over_tables c ≡ true → table_after t.graph params t.columns c t.rows ≡ Err f → MayLeadTo params t c (Err (refusal.Fault f))
  fault_by_table t (clause.Match m) f over e = absurd (cc)
  fault_by_table t (clause.Let x) f over e = sym (ap (with_table t.graph) e)
  fault_by_table t (clause.Filter x) f over e = sym (ap (with_table t.graph) e)
  fault_by_table t (clause.For x) f over e = sym (ap (with_table t.graph) e)
  fault_by_table t (clause.Page x) f over e = sym (ap (with_table t.graph) e)
  fault_by_table t (clause.Change x) f over e = absurd (cc)
  fault_by_table t (clause.Return x) f over e = sym (ap (with_table t.graph) e)

  pub refused_by_table : (t : Working) (c : Clause) (e : EvalError) → is_over_tables c ≡ true → Fails e (table_after t.graph params t.columns c t.rows) → MayRefuse (MayLeadTo params t c) (run_fault e)
  refused_by_table t c error.OutOfMemory over h = tt
  refused_by_table t c (error.Fault f) over h = fault_by_table t c f over h

  pub columns_by_table : (g : PropertyGraph) (columns : ColumnList) (c : Clause) (rows : RowList) (done : WorkingTable) → is_over_tables c ≡ true → table_after g params columns c rows ≡ Ok done → done.0 ≡ columns_past columns c
  columns_by_table g columns c rows done over e = by (rows_after g params columns c rows) e ∙ same_columns columns c over
    where
      by : (r : Result RowList DataFault) → (r >>= λ rs. Ok (columns_after columns c, rs)) ≡ Ok done → done.0 ≡ columns_after columns c
      by (Ok rs) e = ap columns_of (sym e)
      by (Err f) e = absurd (cc)

  -- of a clause and the others
  sound_first : (columns : ColumnList) (c : Clause) (rest : List Clause) → MatchesAreSound params columns (c ∷ rest) → MatchIsSound params columns c × MatchesAreSound params (columns_past columns c) rest
  sound_first columns (clause.Match m) rest h = h
  sound_first columns (clause.Let x) rest h = (tt, h)
  sound_first columns (clause.Filter x) rest h = (tt, h)
  sound_first columns (clause.For x) rest h = (tt, h)
  sound_first columns (clause.Page x) rest h = (tt, h)
  sound_first columns (clause.Change x) rest h = (tt, h)
  sound_first columns (clause.Return x) rest h = (tt, h)

  -- the clause at a place, and those behind it
  module _ (all : List Clause) (at : ℕ) (c : Clause) (below : at < length all) (is : c ≡ get_or all at c) where
    left : drop at all ≡ c ∷ drop (at + 1) all
    left = drop_step all at c below is

    pub clause_more : (first here next : Working) → MayLeadTo params here c (Ok next) → Ahead first all here (drop at all) → Ahead first all next (drop (at + 1) all)
    clause_more first here next led ahead = λ result h. subst (Ahead first all here) left ahead result (Ok next, led, h)

    pub refused : (first here : Working) (e : RunFault) → MayRefuse (MayLeadTo params here c) e → Ahead first all here (drop at all) → MayRefuse (MayRun params first all) e
    refused first here fault.OutOfMemory led ahead = tt
    refused first here (fault.Refused r) led ahead = subst (Ahead first all here) left ahead (Err r) (Err r, led, refl)

    sound : (columns : ColumnList) → MatchesAreSound params columns (drop at all) → MatchIsSound params columns c × MatchesAreSound params (columns_past columns c) (drop (at + 1) all)
    sound columns h = sound_first columns c (drop (at + 1) all) (subst (MatchesAreSound params columns) left h)

    pub sound_at : (columns : ColumnList) → MatchesAreSound params columns (drop at all) → MatchIsSound params columns c
    sound_at columns h = (sound columns h).0

    pub sound_behind : (columns behind : ColumnList) → MatchesAreSound params columns (drop at all) → behind ≡ columns_past columns c → MatchesAreSound params behind (drop (at + 1) all)
    sound_behind columns behind h e = subst (λ cs. MatchesAreSound params cs (drop (at + 1) all)) (sym e) (sound columns h).1

pub reads_from : (all : List Clause) (at : ℕ) (c : Clause) → at < length all → c ≡ get_or all at c → list_any is_change (drop at all) ≡ false → (is_change c ≡ false) × (list_any is_change (drop (at + 1) all) ≡ false)
reads_from all at c below is h = by (is_change c) (ap (list_any is_change) (sym (drop_step all at c below is)) ∙ h)
  where
    by : (b : Bool) → (b || list_any is_change (drop (at + 1) all)) ≡ false → (b ≡ false) × (list_any is_change (drop (at + 1) all) ≡ false)
    by true e = absurd (cc)
    by false e = (refl, e)
