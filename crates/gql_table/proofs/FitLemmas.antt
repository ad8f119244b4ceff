-- A clause keeps rows that fit their columns. A value comes into a row from an expression: a bare variable's value fits
-- what its column held (FitValues), and everything else goes into plain columns. All other steps keep some of the rows,
-- or change their order (FitSteps).
use Rattle.std.proofs.Common.{◌≡◌, ℕ, true, List, All, Result, Ok, Err, IfOk, IsTrue, refl, sym, subst}
use Rattle.std.proofs.lemmas.List.Elements.{All-same}
use Rattle.std.proofs.lemmas.List.Sums.{AllPass-from_list_all, list_all-from_AllPass}
use Rattle.gql_values3.specs.Datum.{Datum}
use Rattle.gql_values3.specs.PropertyGraph.{PropertyGraph}
use Rattle.gql_ast.specs.Meaning.{tree_of}
use Rattle.gql_ast.specs.declared.clause.Clause.{Clause}
use Rattle.gql_ast.specs.declared.clause.Clause.TheVariants as clause
use Rattle.gql_ast.specs.ClauseColumns.{ColumnList}
use Rattle.gql_eval.specs.Gives.{Gives}
use Rattle.gql_eval.specs.declared.error.EvalError.{EvalError}
use Rattle.gql_eval.specs.RowLists.{RowList, row_fits, rows_fit}
use Rattle.gql_table.specs.Clauses.{columns_after, rows_after, table_after}
use Rattle.gql_table.specs.Fitting.{names_serve}
use Rattle.gql_table.proofs.FitSteps.{given_is, next_gives}
use Rattle.gql_eval.proofs.RowFits.{Fits}
use Rattle.gql_table.proofs.FitClauses.{filter_rows_fit, for_rows_fit, let_rows_fit, page_rows_fit}
use Rattle.gql_table.proofs.FitReturns.{returned_rows_fit}

module _ (g : PropertyGraph) (params : List (List ℕ × Datum)) (columns : ColumnList) where
  rows_after_fit : (c : Clause) (rows outs : RowList) → names_serve columns c ≡ true → All (Fits columns) rows → rows_after g params columns c rows ≡ Ok outs
      → All (Fits (columns_after columns c)) outs
  rows_after_fit (clause.Let items) rows outs names all p = let_rows_fit g params columns items rows outs all p
  rows_after_fit (clause.Filter e) rows outs names all p = filter_rows_fit g params columns (tree_of e) rows outs all p
  rows_after_fit (clause.For f) rows outs names all p = for_rows_fit g params columns f rows outs all p
  rows_after_fit (clause.Page q) rows outs names all p = page_rows_fit g params columns q rows outs all p
  rows_after_fit (clause.Return r) rows outs names all p = returned_rows_fit g params columns r names rows outs all p
  rows_after_fit _ rows outs names all p = All-same (Fits columns) outs rows (given_is rows outs (Ok rows) refl p) all

  -- the table behind a clause fits
  pub table_fits : (c : Clause) (rows : RowList) (t : ColumnList × RowList) → IsTrue (rows_fit columns rows) → IsTrue (names_serve columns c) → table_after g params columns c rows ≡ Ok t
      → IsTrue (rows_fit t.0 t.1)
  table_fits c rows t fit names p =
      let made = next_gives (rows_after g params columns c rows) (λ rs. Ok (columns_after columns c, rs)) t p in
      let all = rows_after_fit c rows made.0 names (AllPass-from_list_all (row_fits columns) rows fit) made.1 in
      subst (λ (u : ColumnList × RowList). IsTrue (rows_fit u.0 u.1)) (sym (given_is (columns_after columns c, made.0) t (Ok (columns_after columns c, made.0)) refl made.2))
      (list_all-from_AllPass (row_fits (columns_after columns c)) made.0 all)

  -- what is answered fits, where it is the definition's
  pub answer_fits : (c : Clause) (rows : RowList) (answer : Result (ColumnList × RowList) EvalError) → Gives (λ (t : ColumnList × RowList). (t.0, t.1)) answer (table_after g params columns c rows)
      → IsTrue (rows_fit columns rows) → IsTrue (names_serve columns c) → IfOk answer (λ (t : ColumnList × RowList). IsTrue (rows_fit t.0 t.1))
  answer_fits c rows (Ok t) given fit names = table_fits c rows t fit names given
  answer_fits c rows (Err e) given fit names = tt
