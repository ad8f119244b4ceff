-- FOR, item by item.
use Rattle.std.proofs.Common.{◌≡◌, ℕ, suc, List, [], ◌∷◌, ◌++◌, map, refl, ap, ◌∙◌, Some, None, Result, Ok}
use Rattle.gql_values3.specs.Datum.{Datum}
use Rattle.gql_ast.specs.declared.fault.DataFault.{DataFault}
use Rattle.gql_ast.specs.declared.clause.Counting.{Counting}
use Rattle.gql_ast.specs.Operators.{counted}
use Rattle.gql_eval.specs.Machinery.Next.{next}
use Rattle.gql_eval.specs.RowLists.{RowList}
use Rattle.gql_table.specs.For.{item_rows}
use Rattle.gql_eval.proofs.EachSteps.{each_cons}

pub plain_items : (n : ℕ) (row ds : List Datum) → item_rows None n row ds ≡ Ok (map (λ (d : Datum). row ++ d ∷ []) ds)
plain_items n row [] = refl
plain_items n row (d ∷ ds) = ap (λ (r : Result RowList DataFault). next r (λ rows. Ok ((row ++ d ∷ []) ∷ rows))) (plain_items n row ds)

module _ (c : Counting × List ℕ) (row : List Datum) where
  pub counted_step : (n : ℕ) (ds rest : List Datum) (d k : Datum) (done : RowList) → ds ≡ d ∷ rest → counted n ≡ Ok k
      → next (item_rows (Some c) n row ds) (λ rows. Ok (done ++ rows)) ≡ next (item_rows (Some c) (suc n) row rest) (λ rows. Ok ((done ++ (row ++ d ∷ k ∷ []) ∷ []) ++ rows))
  counted_step n ds rest d k done p q =
      ap (λ (l : List Datum). next (item_rows (Some c) n row l) (λ rows. Ok (done ++ rows))) p
      ∙ ap (λ (r : Result Datum DataFault). next (next r (λ j. next (item_rows (Some c) (suc n) row rest) (λ rows. Ok ((row ++ d ∷ j ∷ []) ∷ rows)))) (λ rows. Ok (done ++ rows))) q
      ∙ each_cons (λ (x : List Datum). Ok x) (item_rows (Some c) (suc n) row rest) done (row ++ d ∷ k ∷ [])
