-- Clauses lead to one result where no selector leaves a MATCH a choice: a match table is one then, and all else is an equation.
use Rattle.std.proofs.Common.{◌≡◌, ℕ, List, [], ◌∷◌, Result, Ok, Err, sym, ap, ◌∙◌, subst}
use Rattle.gql_values3.specs.Datum.{Datum}
use Rattle.gql_ast.specs.declared.clause.Clause.{Clause}
use Rattle.gql_ast.specs.declared.clause.Clause.TheVariants as clause
use Rattle.gql_ast.specs.declared.fault.DataFault.{DataFault}
use Rattle.gql_ast.specs.declared.refusal.Refusal.{Refusal}
use Rattle.gql_eval.specs.RowLists.{RowList}
use Rattle.gql_norm.specs.NewColumns.{columns_after}
use Rattle.gql_norm.specs.NormalForm.{normal_form}
use Rattle.gql_norm.specs.Selection.{Each}
use Rattle.gql_norm.proofs.OneTable.{one_table}
use Rattle.gql_linear.specs.OneWay.{ClauseHasNoChoice}
use Rattle.gql_linear.specs.QueryRun.{Working, with_table, under_columns, ThenRest, MayLeadTo, MayRun}

module _ (params : List (List ℕ × Datum)) where
  leads_one_way : (t : Working) (c : Clause) (r s : Result Working Refusal) → ClauseHasNoChoice c → MayLeadTo params t c r → MayLeadTo params t c s → r ≡ s
  leads_one_way t (clause.Match m) r s none h k =
      let shown : Result RowList DataFault → Result Working Refusal = λ rows. with_table t.graph (under_columns (columns_after t.columns (normal_form m.pattern)) rows) in
      let one = one_table t.graph params t.columns (normal_form m.pattern) m.optional t.rows h.1.0 k.1.0 none h.1.1 k.1.1 in
      (h.2 ∙ ap (with_table t.graph) h.1.2) ∙ ap shown one ∙ sym (k.2 ∙ ap (with_table t.graph) k.1.2)
  leads_one_way t (clause.Let x) r s none h k = h ∙ sym k
  leads_one_way t (clause.Filter x) r s none h k = h ∙ sym k
  leads_one_way t (clause.For x) r s none h k = h ∙ sym k
  leads_one_way t (clause.Page x) r s none h k = h ∙ sym k
  leads_one_way t (clause.Change x) r s none h k = h ∙ sym k
  leads_one_way t (clause.Return x) r s none h k = h ∙ sym k

  pub runs_one_way : (t : Working) (cs : List Clause) (r s : Result Working Refusal) → Each ClauseHasNoChoice cs → MayRun params t cs r → MayRun params t cs s → r ≡ s
  runs_one_way t [] r s none h k = h ∙ sym k
  runs_one_way t (c ∷ cs) r s none h k =
      let one = leads_one_way t c k.0 h.0 none.0 k.1 h.1 in
      by h.0 h.2 (subst (ThenRest (λ u. MayRun params u cs s) s) one k.2) (λ u. runs_one_way u cs r s none.1)
    where
      by : (behind : Result Working Refusal) → ThenRest (λ u. MayRun params u cs r) r behind → ThenRest (λ u. MayRun params u cs s) s behind
          → ((u : Working) → MayRun params u cs r → MayRun params u cs s → r ≡ s) → r ≡ s
      by (Ok u) a b rest = rest u a b
      by (Err f) a b rest = a ∙ sym b
