-- An item of LET, and then the items behind it, under the columns with its name: what is unknown in them, what they misuse, and the
-- columns behind them.
use Rattle.std.proofs.Common.{◌≡◌, ℕ, ◌+◌, ◌<◌, List, [], ◌∷◌, ◌++◌, length, drop, get_or, Option, None, sym, ap, ◌∙◌}
use Rattle.std.specs.Option.{option_or}
use Rattle.gql_ast.specs.ClauseColumns.{ColumnList, let_columns}
use Rattle.gql_ast.specs.Meaning.{tree_of}
use Rattle.gql_ast.specs.Outputs.{kind_of}
use Rattle.gql_ast.specs.declared.clause.LetItem.{LetItem}
use Rattle.gql_ast.specs.declared.refusal.Refusal.{Refusal}
use Rattle.gql_ast.specs.declared.refusal.Refusal.TheVariants as refusal
use Rattle.gql_expr_checks.specs.ExprMisuses.{misused_expr, elsewhere}
use Rattle.gql_expr_checks.specs.ExprNames.{unknown_in_expr}
use Rattle.gql_expr_checks.specs.Gives.{Fails}
use Rattle.gql_expr_checks.specs.Refusals.{refusal_of_first, misuse_if}
use Rattle.gql_expr_checks.specs.declared.fault.ScopeFault.{ScopeFault}
use Rattle.gql_expr_checks.proofs.DropLemmas.{drop_step}
use Rattle.gql_expr_checks.proofs.RefusalLemmas.{first_of_in_two, misuse_in_two, stops, goes_on}
use Rattle.gql_scope.specs.Misuses.{misused_let}
use Rattle.gql_scope.specs.UnknownNames.{taken, unknown_in_let}
use Rattle.gql_scope.proofs.CodeLemmas.{or_assoc}

abbrev pub with_item : ColumnList → LetItem → ColumnList
with_item columns i = columns ++ (i.name, kind_of columns (tree_of i.value)) ∷ []

abbrev pub unknown_first : ColumnList → List LetItem → Option Refusal
unknown_first columns is = refusal_of_first refusal.Variable (unknown_in_let columns is)

abbrev pub misused_first : ColumnList → List LetItem → Option Refusal
misused_first columns is = misuse_if (misused_let columns is)

module _ (items : List LetItem) (i : ℕ) (x : LetItem) (before : ColumnList) (below : i < length items) (is : x ≡ get_or items i x) where
  abbrev rest : List LetItem
  rest = drop (i + 1) items

  abbrev pub here : Option Refusal
  here = refusal_of_first refusal.Variable (taken before x.name ++ unknown_in_expr before x.value)

  cut : unknown_first before (drop i items) ≡ option_or here (unknown_first (with_item before x) rest)
  cut = ap (unknown_first before) (drop_step items i x below is) ∙ first_of_in_two refusal.Variable (taken before x.name ++ unknown_in_expr before x.value) (unknown_in_let (with_item before x) rest)

  pub names_stop : (whole : Option Refusal) → unknown_first before (drop i items) ≡ whole → (e : ScopeFault) → Fails e here → Fails e whole
  names_stop whole so_far e refuses = stops e here (unknown_first (with_item before x) rest) whole refuses (sym so_far ∙ cut)

  pub names_go_on : (whole : Option Refusal) → unknown_first before (drop i items) ≡ whole → here ≡ None → (after : ColumnList) → after ≡ with_item before x
      → unknown_first after (drop (i + 1) items) ≡ whole
  names_go_on whole so_far none after e =
      ap (λ cs. unknown_first cs rest) e ∙ sym (goes_on here (unknown_first (with_item before x) rest) whole none (sym so_far ∙ cut))

  -- a misuse is kept
  pub misuses_keep : (whole slot more : Option Refusal) → option_or slot (misused_first before (drop i items)) ≡ whole
      → more ≡ option_or slot (misuse_if (misused_expr before elsewhere x.value)) → (after : ColumnList) → after ≡ with_item before x
      → option_or more (misused_first after (drop (i + 1) items)) ≡ whole
  misuses_keep whole slot more so_far kept after e =
      let behind = misused_first (with_item before x) rest in
      let of_item = misuse_if (misused_expr before elsewhere x.value) in
      ap (λ cs. option_or more (misused_first cs rest)) e ∙ ap (λ o. option_or o behind) kept ∙ sym (or_assoc slot of_item behind)
      ∙ sym (ap (option_or slot) (ap (misused_first before) (drop_step items i x below is) ∙ misuse_in_two (misused_expr before elsewhere x.value) (misused_let (with_item before x) rest)))
      ∙ so_far

  pub columns_go_on : (whole : ColumnList) → let_columns before (drop i items) ≡ whole → (after : ColumnList) → after ≡ with_item before x → let_columns after (drop (i + 1) items) ≡ whole
  columns_go_on whole so_far after e = ap (λ cs. let_columns cs rest) e ∙ sym (ap (let_columns before) (drop_step items i x below is)) ∙ so_far
