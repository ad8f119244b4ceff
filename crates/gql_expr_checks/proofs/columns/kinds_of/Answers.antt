use Rattle.std.proofs.Common.{◌≡◌, ◌∙◌, ◌++◌, ◌∷◌, [], take, List, ℕ, ap, sym, Option, add-one}
use Rattle.std.proofs.Math.Seq.{take-suc}
use Rattle.gql_values3.specs.declared.table.ColumnKind.{ColumnKind}
use Rattle.gql_ast.specs.ClauseColumns.{ColumnList}
use Rattle.gql_expr_checks.specs.Machinery.Knowing.{first_kind, Knows}
use Rattle.gql_expr_checks.proofs.columns.kinds_of.Goals as goal

-- what is known of one column more is known of the columns that this makes
knows_grown : (look_up : List ℕ → Option ColumnKind) (few more : ColumnList) → more ≡ few → Knows look_up few → Knows look_up more
knows_grown look_up few more same known x = known x ∙ sym (ap (λ cs. first_kind cs x) same)

pub loop-i-preserved : goal.loop-i-preserved
loop-i-preserved c =
    knows_grown _ _ _
    (rw add-one (take-suc c.args.columns.now c.loop-i.i _ c.loop-i-test.true ∙ ap (λ z. take c.loop-i.i c.args.columns.now ++ z ∷ []) (sym c.index-columns-i.is)))
    (c.in_ok-note_kind.ensures.ok _ c.loop-i.invariant)
