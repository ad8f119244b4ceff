-- Which expressions have an aggregate over rows.
use Rattle.std.proofs.Common.{◌≡◌, ℕ, ◌+◌, ◌<◌, Bool, true, false, cond, not, List, [], ◌∷◌, ◌++◌, length, map, get_or, refl, sym, ap, ◌∙◌, arith, is_some, Option, Some, unwrap_or, option_map}
use Rattle.std.specs.Prelude.{◌||◌, find}
use Rattle.std.specs.List.{list_any}
use Rattle.gql_values3.specs.Datum.{Datum}
use Rattle.gql_values3.specs.Texts.{same_text}
use Rattle.gql_values3.specs.declared.table.ColumnKind.{ColumnKind}
use Rattle.gql_values3.specs.declared.table.ColumnKind.TheVariants as kind
use Rattle.gql_ast.specs.Tree.{Tree, name}
use Rattle.gql_ast.specs.Meaning.{tree_of}
use Rattle.gql_ast.specs.Outputs.{kind_of_name}
use Rattle.gql_ast.specs.Scope.{Entry, row_scope, group_of, group_in, is_group_name, holds_group, names_in}
use Rattle.gql_ast.specs.RowAggregates.{RowAggregate, is_over_group, row_aggregates, row_aggregates_of, row_aggregates_in}
use Rattle.gql_ast.specs.declared.expr.Expr.{Expr}
use Rattle.gql_ast.specs.declared.expr.Step.{Step}
use Rattle.gql_ast.proofs.PartLemmas.{parts_from, sides_from, parts_step, sides_step}
use Rattle.gql_ast.specs.ClauseColumns.{ColumnList}
use Rattle.gql_ast.specs.Projections.{has_none, is_key}

pub some_append : (xs ys : List RowAggregate) → not (has_none (xs ++ ys)) ≡ (not (has_none xs) || not (has_none ys))
some_append [] ys = refl
some_append (x ∷ xs) ys = refl

-- the parts from i on, and the sides from i on
abbrev pub some_in_parts : ColumnList → List Expr → ℕ → Bool
some_in_parts columns parts i = not (has_none (row_aggregates_of columns (parts_from parts i)))

abbrev pub some_in_sides : ColumnList → List Step → ℕ → Bool
some_in_sides columns steps i = not (has_none (row_aggregates_in columns (sides_from steps i)))

some_in_parts_step : (columns : ColumnList) (parts : List Expr) (i : ℕ) (e : Expr) → i < length parts → e ≡ get_or parts i e
    → some_in_parts columns parts i ≡ (not (has_none (row_aggregates columns (tree_of e))) || some_in_parts columns parts (i + 1))
unfolding row_aggregates
some_in_parts_step columns parts i e h p =
    ap (λ ts. not (has_none (row_aggregates_of columns ts))) (parts_step parts i e h p) ∙ some_append (row_aggregates columns (tree_of e)) (row_aggregates_of columns (parts_from parts (i + 1)))

some_in_sides_step : (columns : ColumnList) (steps : List Step) (i : ℕ) (s : Step) → i < length steps → s ≡ get_or steps i s
    → some_in_sides columns steps i ≡ (not (has_none (row_aggregates columns (tree_of s.operand))) || some_in_sides columns steps (i + 1))
unfolding row_aggregates
some_in_sides_step columns steps i s h p =
    ap (λ ls. not (has_none (row_aggregates_in columns ls))) (sides_step steps i s h p) ∙ some_append (row_aggregates columns (tree_of s.operand)) (row_aggregates_in columns (sides_from steps (i + 1)))

-- one that was asked, and then those behind it
pub some_in_parts_on : (columns : ColumnList) (parts : List Expr) (i : ℕ) (e : Expr) (has whole : Bool) → i < length parts → e ≡ get_or parts i e → has ≡ not (has_none (row_aggregates columns (tree_of e)))
    → some_in_parts columns parts i ≡ whole → (has || some_in_parts columns parts (i + 1)) ≡ whole
some_in_parts_on columns parts i e has whole h p asked so_far = ap (λ b. b || some_in_parts columns parts (i + 1)) asked ∙ sym (some_in_parts_step columns parts i e h p) ∙ so_far

pub some_in_sides_on : (columns : ColumnList) (steps : List Step) (i : ℕ) (s : Step) (has whole : Bool) → i < length steps → s ≡ get_or steps i s → has ≡ not (has_none (row_aggregates columns (tree_of s.operand)))
    → some_in_sides columns steps i ≡ whole → (has || some_in_sides columns steps (i + 1)) ≡ whole
some_in_sides_on columns steps i s has whole h p asked so_far = ap (λ b. b || some_in_sides columns steps (i + 1)) asked ∙ sym (some_in_sides_step columns steps i s h p) ∙ so_far

group_case : (b : Bool) (e : Entry) (c : List ℕ × ColumnKind) (s : Option Entry) (t : Option (List ℕ × ColumnKind)) → e.is_group ≡ holds_group c.1
    → group_in s ≡ holds_group (unwrap_or (option_map (λ (d : List ℕ × ColumnKind). d.1) t) kind.Plain)
    → group_in (cond b (Some e) s) ≡ holds_group (unwrap_or (option_map (λ (d : List ℕ × ColumnKind). d.1) (cond b (Some c) t)) kind.Plain)
group_case true e c s t p q = p
group_case false e c s t p q = q

-- with a value for each column, a name stands for a group where its column holds one
blank_group : (columns : ColumnList) (row : List Datum) (x : List ℕ) → length row ≡ length columns → is_group_name (row_scope columns row) x ≡ holds_group (kind_of_name columns x)
blank_group [] row x h = refl
blank_group (c ∷ cs) [] x h = absurd (omega arith)
blank_group (c ∷ cs) (d ∷ ds) x h =
    group_case (same_text x c.0) (record { name = c.0; is_group = holds_group c.1; datum = d }) c (find (λ (e : Entry). same_text x e.name) (row_scope cs ds)) (find (λ (k : List ℕ × ColumnKind). same_text x k.0) cs) refl
    (blank_group cs ds x (omega arith))

any_case : {A : Type 0} (b : Bool) (x : A) (c : Bool) (o : Option A) → c ≡ is_some o → (b || c) ≡ is_some (cond b (Some x) o)
any_case true x c o p = refl
any_case false x c o p = p

any_found : {A : Type 0} (p : A → Bool) (xs : List A) → list_any p xs ≡ is_some (find p xs)
any_found p [] = refl
any_found p (x ∷ xs) = any_case (p x) x (list_any p xs) (find p xs) (any_found p xs)

any_same : {A : Type 0} (p q : A → Bool) → ((x : A) → p x ≡ q x) → (xs : List A) → list_any p xs ≡ list_any q xs
any_same p q h [] = refl
any_same p q h (x ∷ xs) = λ i. h x i || any_same p q h xs i

pub over_group_is : (columns : ColumnList) (row : List Datum) (e : Tree) → length row ≡ length columns → is_some (group_of (row_scope columns row) e) ≡ is_over_group columns e
over_group_is columns row e h =
    sym (any_found (is_group_name (row_scope columns row)) (names_in e)) ∙ any_same (is_group_name (row_scope columns row)) (λ x. holds_group (kind_of_name columns x)) (λ x. blank_group columns row x h) (names_in e)

-- names are no aggregates
pub no_name_has_one : (all columns : ColumnList) → list_any (λ e. not (is_key all e)) (map (λ (c : List ℕ × ColumnKind). name c.0) columns) ≡ false
unfolding row_aggregates
no_name_has_one all [] = refl
no_name_has_one all (c ∷ cs) = no_name_has_one all cs
