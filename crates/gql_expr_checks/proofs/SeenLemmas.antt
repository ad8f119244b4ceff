-- Names that a walk has seen, and what one step of such a walk adds.
use Rattle.std.proofs.Common.{◌≡◌, ℕ, Bool, true, false, ◌||◌, List, [], ◌∷◌, ◌++◌, map, reverse, refl, ap, ◌∙◌}
use Rattle.std.specs.Prelude.{if◌then◌else◌}
use Rattle.std.specs.Option.{option_or}
use Rattle.std.proofs.lemmas.List.{reverse-append, map-append}
use Rattle.gql_values3.specs.Texts.{same_text}
use Rattle.gql_values3.specs.declared.table.ColumnKind.{ColumnKind}
use Rattle.gql_ast.specs.ClauseColumns.{ColumnList, is_column}
use Rattle.gql_expr_checks.specs.Repeated.{is_among, repeated}
use Rattle.gql_expr_checks.specs.Refusals.{refusal_of_first}
use Rattle.gql_ast.specs.declared.refusal.ColumnRef.TheVariants as column
use Rattle.gql_ast.specs.declared.refusal.Refusal.TheVariants as refusal
use Rattle.gql_expr_checks.specs.Machinery.Seen.{names_of, seen_names}

-- a name is a column exactly where it is among the columns' names
pub is_among-names_of : (columns : ColumnList) (x : List ℕ) → is_among (names_of columns) x ≡ is_column columns x
is_among-names_of [] x = refl
is_among-names_of (c ∷ cs) x = ap (λ b. same_text x c.0 || b) (is_among-names_of cs x)

among_append : (xs ys : List (List ℕ)) (x : List ℕ) → is_among (xs ++ ys) x ≡ (is_among xs x || is_among ys x)
among_append [] ys x = refl
among_append (y ∷ xs) ys x = by (same_text x y) (among_append xs ys x)
  where
    by : (b : Bool) → is_among (xs ++ ys) x ≡ (is_among xs x || is_among ys x) → (b || is_among (xs ++ ys) x) ≡ ((b || is_among xs x) || is_among ys x)
    by true h = refl
    by false h = h

or_swap : (a b : Bool) → (a || (b || false)) ≡ (b || a)
or_swap true true = refl
or_swap true false = refl
or_swap false true = refl
or_swap false false = refl

among_reverse : (xs : List (List ℕ)) (x : List ℕ) → is_among (reverse xs) x ≡ is_among xs x
among_reverse [] x = refl
among_reverse (y ∷ xs) x =
    ap (λ l. is_among l x) (reverse-append (y ∷ []) xs) ∙ among_append (reverse xs) (y ∷ []) x
    ∙ ap (λ b. b || (same_text x y || false)) (among_reverse xs x) ∙ or_swap (is_among xs x) (same_text x y)

pub is_among-seen_names : (columns : ColumnList) (x : List ℕ) → is_among (seen_names columns) x ≡ is_column columns x
is_among-seen_names columns x = among_reverse (names_of columns) x ∙ is_among-names_of columns x

pub names_of-push : (columns : ColumnList) (x : List ℕ) (k : ColumnKind) → names_of (columns ++ (x, k) ∷ []) ≡ names_of columns ++ x ∷ []
names_of-push columns x k = map-append (λ (c : List ℕ × ColumnKind). c.0) columns ((x, k) ∷ [])

pub seen_names-push : (columns : ColumnList) (x : List ℕ) (k : ColumnKind) → seen_names (columns ++ (x, k) ∷ []) ≡ x ∷ seen_names columns
seen_names-push columns x k = ap reverse (names_of-push columns x k) ∙ reverse-append (names_of columns) (x ∷ [])

pub ruleset seen = (is_among-seen_names, is_among-names_of, seen_names-push, names_of-push)

-- a property of a map, and then those behind it
pub repeated_step : (seen : List (List ℕ)) (x : List ℕ) (xs : List (List ℕ))
    → refusal_of_first refusal.Column (map column.Property (repeated seen (x ∷ xs)))
    ≡ option_or (refusal_of_first refusal.Column (if is_among seen x then column.Property x ∷ [] else [])) (refusal_of_first refusal.Column (map column.Property (repeated (x ∷ seen) xs)))
repeated_step seen x xs = by (is_among seen x)
  where
    by : (b : Bool) → refusal_of_first refusal.Column (map column.Property (if b then x ∷ repeated (x ∷ seen) xs else repeated (x ∷ seen) xs))
        ≡ option_or (refusal_of_first refusal.Column (if b then column.Property x ∷ [] else [])) (refusal_of_first refusal.Column (map column.Property (repeated (x ∷ seen) xs)))
    by true = refl
    by false = refl
