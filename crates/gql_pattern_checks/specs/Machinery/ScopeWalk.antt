-- A question that is asked of each expression of a pattern under what it may name, in the order of the text: the first refusal.
use Rattle.std.specs.Prelude.{◌≡◌, ℕ, Bool, false, ◌||◌, List, [], ◌∷◌, map, Option, Some, None, is_some, if◌then◌else◌}
use Rattle.std.specs.List.{list_any}
use Rattle.std.specs.Option.{option_or}
use Rattle.gql_ast.specs.ClauseColumns.{ColumnList, is_column}
use Rattle.gql_ast.specs.Tree.{Tree}
use Rattle.gql_ast.specs.declared.refusal.Refusal.{Refusal}
use Rattle.gql_ast.specs.declared.refusal.Refusal.TheVariants as refusal
use Rattle.gql_expr_checks.specs.ExprMisuses.{misused, elsewhere}
use Rattle.gql_expr_checks.specs.ExprNames.{unknown_in}
use Rattle.gql_expr_checks.specs.Refusals.{refusal_of_first, misuse_if}
use Rattle.gql_expr_checks.specs.Repeated.{is_among}
use Rattle.gql_norm.specs.NormalPattern.{ElementPattern, Part, Node, Edge, Concat, Union, Alt, Quant, Opt, ModeScope, Sides, NoSide, Side, NormalPath, NormalPattern}
use Rattle.gql_norm.specs.PredicateSpot.{tree_in, trees_in}
use Rattle.gql_expr_checks.specs.Machinery.NameList.{with_name}
use Rattle.gql_pattern_checks.specs.Machinery.Scopes.{no_names, with_variable_of, with_part, with_paths, known_columns}
use Rattle.gql_pattern_checks.specs.declared.scope.Names.{Names}
use Rattle.gql_pattern_checks.specs.declared.scoped.ScopeQuestion.{ScopeQuestion}
use Rattle.gql_pattern_checks.specs.declared.scoped.ScopeQuestion.TheVariants as question

-- the refusal of one expression under its columns
abbrev pub refused_under : ScopeQuestion → ColumnList → Tree → Option Refusal
refused_under question.Names columns e = refusal_of_first refusal.Variable (unknown_in columns e)
refused_under question.Misuses columns e = misuse_if (misused columns elsewhere e)

-- a path name stands for nothing else: no column, no path name before it, and no variable of the clause
abbrev pub is_taken : ColumnList → List (List ℕ) → List (List ℕ) → List ℕ → Bool
is_taken columns before variables x = is_column columns x || is_among before x || is_among variables x

abbrev pub refused_name : ColumnList → List (List ℕ) → List (List ℕ) → Option (List ℕ) → Option Refusal
refused_name columns before variables None = None
refused_name columns before variables (Some x) = if is_taken columns before variables x then Some (refusal.Variable x) else None

-- that is asked with the names alone
abbrev pub refused_path_name : ScopeQuestion → ColumnList → List (List ℕ) → List (List ℕ) → Option (List ℕ) → Option Refusal
refused_path_name question.Names columns before variables x = refused_name columns before variables x
refused_path_name question.Misuses columns before variables x = None

-- the path names behind a path pattern
abbrev pub with_name_of : List (List ℕ) → Option (List ℕ) → List (List ℕ)
with_name_of before None = before
with_name_of before (Some x) = with_name before x

-- a path pattern has a path name, and so something in a pattern asks what the clause names
abbrev pub any_named : List NormalPath → Bool
any_named ps = list_any (λ (p : NormalPath). is_some p.name) ps

abbrev pub asks_for_names : NormalPattern → Bool
asks_for_names p = is_some p.condition || any_named p.paths

module _ (q : ScopeQuestion) (columns : ColumnList) where
  -- the first of expressions
  abbrev pub refused_of : Names → List Tree → Option Refusal
  refused_of s [] = None
  refused_of s (e ∷ es) = option_or (refused_under q (known_columns columns s) e) (refused_of s es)

  -- the predicates of an element see its own variable
  abbrev pub refused_element : Names → ElementPattern → Option Refusal
  refused_element s w = refused_of (with_variable_of false s w.variable) (map tree_in w.predicates)

  -- A later part sees the variables of those before it, and a side of a union does not see the sides before it. A condition in
  -- parentheses sees what stands in them.
  abbrev mutual
    pub refused_in : Names → Part → Option Refusal
    refused_in s (Node w) = refused_element s w
    refused_in s (Edge d w) = refused_element s w
    refused_in s (Concat p r) = option_or (refused_in s p) (refused_in (with_part false s p) r)
    refused_in s (Union p r) = option_or (refused_in s p) (refused_in s r)
    refused_in s (Alt ss) = refused_in_sides s ss
    refused_in s (Quant b l n) = refused_in s b
    refused_in s (Opt b) = refused_in s b
    refused_in s (ModeScope m b c) = option_or (refused_in s b) (refused_of (with_part false s b) (trees_in c))

    pub refused_in_sides : Names → Sides → Option Refusal
    refused_in_sides s NoSide = None
    refused_in_sides s (Side p ss) = option_or (refused_in s p) (refused_in_sides s ss)

  -- the same of parts in a row, and beside each other
  abbrev pub refused_in_row : Names → List Part → Option Refusal
  refused_in_row s [] = None
  refused_in_row s (p ∷ ps) = option_or (refused_in s p) (refused_in_row (with_part false s p) ps)

  abbrev pub refused_beside : Names → List Part → Option Refusal
  refused_beside s [] = None
  refused_beside s (p ∷ ps) = option_or (refused_in s p) (refused_beside s ps)

  abbrev pub refused_path : List (List ℕ) → List (List ℕ) → NormalPath → Option Refusal
  refused_path before variables p = option_or (refused_path_name q columns before variables p.name) (refused_in no_names p.body)

  abbrev pub refused_in_paths : List (List ℕ) → List (List ℕ) → List NormalPath → Option Refusal
  refused_in_paths before variables [] = None
  refused_in_paths before variables (p ∷ ps) = option_or (refused_path before variables p) (refused_in_paths (with_name_of before p.name) variables ps)

  -- of a pattern, where the final WHERE and the path names see these names: all that the clause names
  abbrev pub refused_seeing : Names → NormalPattern → Option Refusal
  refused_seeing s p = option_or (refused_in_paths [] s.variables p.paths) (refused_of s (trees_in p.condition))

  abbrev pub refused_pattern : NormalPattern → Option Refusal
  refused_pattern p = refused_seeing (with_paths no_names p.paths) p

-- whatever is asked, it is refused nowhere in a part, in path patterns, or in a pattern
abbrev pub IsFree : Part → Type 0
IsFree p = (q : ScopeQuestion) (columns : ColumnList) (s : Names) → refused_in q columns s p ≡ None

abbrev pub AreFree : List NormalPath → Type 0
AreFree ps = (q : ScopeQuestion) (columns : ColumnList) (before variables : List (List ℕ)) → refused_in_paths q columns before variables ps ≡ None

abbrev pub IsFreePattern : NormalPattern → Type 0
IsFreePattern p = (q : ScopeQuestion) (columns : ColumnList) → refused_pattern q columns p ≡ None
