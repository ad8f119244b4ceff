-- A walk over a query's clauses, each under the columns behind those before it: of a code whose refusal ends the walk, and of one
-- whose first refusal is kept. Key idea: behind the last clause nobody asks for columns, so any serve there.
use Rattle.std.proofs.Common.{◌≡◌, ℕ, ◌+◌, ◌<◌, ◌≤◌, ◌==◌, Bool, true, false, List, [], length, drop, get_or, Option, None, IsFalse, refl, sym, ap, ◌∙◌, arith}
use Rattle.std.proofs.lemmas.List.{drop_all}
use Rattle.std.proofs.lemmas.Bool.Decides.{nat_tests}
use Rattle.std.specs.Option.{option_or}
use Rattle.gql_ast.specs.ClauseColumns.{ColumnList}
use Rattle.gql_ast.specs.declared.clause.Clause.{Clause}
use Rattle.gql_ast.specs.declared.refusal.Refusal.{Refusal}
use Rattle.gql_expr_checks.specs.Gives.{Fails}
use Rattle.gql_expr_checks.specs.declared.fault.ScopeFault.{ScopeFault}
use Rattle.gql_expr_checks.proofs.RefusalLemmas.{stops, goes_on}
use Rattle.gql_expr_checks.proofs.DropLemmas.{drop_step}
use Rattle.gql_scope.specs.WholePatterns.{columns_past}
use Rattle.gql_scope.specs.Machinery.Codes.{first_over}
use Rattle.gql_scope.proofs.CodeLemmas.{or_none, or_assoc}

module _ (asks : ColumnList → Clause → Option Refusal) (cs : List Clause) (i : ℕ) (c : Clause) (before : ColumnList) (below : i < length cs) (is : c ≡ get_or cs i c) where
  cut : first_over asks before (drop i cs) ≡ option_or (asks before c) (first_over asks (columns_past before c) (drop (i + 1) cs))
  cut = ap (first_over asks before) (drop_step cs i c below is)

  serves : (after : ColumnList) (last : Bool) → last ≡ (i + 1 == length cs) → (IsFalse last → after ≡ columns_past before c)
      → first_over asks after (drop (i + 1) cs) ≡ first_over asks (columns_past before c) (drop (i + 1) cs)
  serves after true e f =
      let short : length cs ≤ i + 1 = (let same : (i + 1 == length cs) ≡ true = sym e in grind (arith, nat_tests, same)) in
      let ends : drop (i + 1) cs ≡ [] = drop_all (i + 1) cs short in
      ap (first_over asks after) ends ∙ sym (ap (first_over asks (columns_past before c)) ends)
  serves after false e f = ap (λ (xs : ColumnList). first_over asks xs (drop (i + 1) cs)) (f refl)

  -- the walk ends here, ..
  pub walk_stops : (whole : Option Refusal) → first_over asks before (drop i cs) ≡ whole → (e : ScopeFault) → Fails e (asks before c) → Fails e whole
  walk_stops whole so_far e refuses = stops e (asks before c) (first_over asks (columns_past before c) (drop (i + 1) cs)) whole refuses (sym so_far ∙ cut)

  -- .. or goes on behind the clause
  pub walk_goes_on : (whole : Option Refusal) → first_over asks before (drop i cs) ≡ whole → (after : ColumnList) (last : Bool) → asks before c ≡ None
      → last ≡ (i + 1 == length cs) → (IsFalse last → after ≡ columns_past before c) → first_over asks after (drop (i + 1) cs) ≡ whole
  walk_goes_on whole so_far after last nothing e f =
      serves after last e f ∙ sym (goes_on (asks before c) (first_over asks (columns_past before c) (drop (i + 1) cs)) whole nothing (sym so_far ∙ cut))

  -- what is kept, and then what is behind, is all
  pub walk_keeps : (slot more whole : Option Refusal) → option_or slot (first_over asks before (drop i cs)) ≡ whole → more ≡ option_or slot (asks before c)
      → (after : ColumnList) (last : Bool) → last ≡ (i + 1 == length cs) → (IsFalse last → after ≡ columns_past before c)
      → option_or more (first_over asks after (drop (i + 1) cs)) ≡ whole
  walk_keeps slot more whole so_far kept after last e f =
      let rest = first_over asks (columns_past before c) (drop (i + 1) cs) in
      ap (option_or more) (serves after last e f) ∙ ap (λ o. option_or o rest) kept ∙ sym (or_assoc slot (asks before c) rest) ∙ sym (ap (option_or slot) cut) ∙ so_far

-- behind the last clause all is kept
pub walk_ends : (asks : ColumnList → Clause → Option Refusal) (cs : List Clause) (i : ℕ) (columns : ColumnList) (slot whole : Option Refusal) → length cs ≤ i
    → option_or slot (first_over asks columns (drop i cs)) ≡ whole → slot ≡ whole
walk_ends asks cs i columns slot whole over so_far = sym (or_none slot) ∙ sym (ap (λ ds. option_or slot (first_over asks columns ds)) (drop_all i cs over)) ∙ so_far
