-- The names at fault and the misuses of a whole pattern, by the walk.
use Rattle.std.proofs.Common.{◌≡◌, ℕ, ◌+◌, Bool, true, false, not, ◌||◌, cond, List, [], ◌∷◌, ◌++◌, filter, flat_map, Option, Some, None, refl, sym, ap, ◌∙◌, arith}
use Rattle.std.proofs.Math.Bool.{or_comm}
use Rattle.std.specs.Prelude.{if◌then◌else◌}
use Rattle.std.specs.List.{list_any}
use Rattle.std.specs.Option.{option_or}
use Rattle.std.proofs.lemmas.List.Folds.{list_any-append}
use Rattle.gql_values3.specs.Texts.{same_text}
use Rattle.gql_ast.specs.ClauseColumns.{ColumnList, is_column}
use Rattle.gql_ast.specs.Scope.{names_in}
use Rattle.gql_ast.specs.declared.refusal.Refusal.TheVariants as refusal
use Rattle.gql_expr_checks.specs.ExprMisuses.{misused, elsewhere}
use Rattle.gql_expr_checks.specs.Refusals.{refusal_of_first, misuse_if}
use Rattle.gql_expr_checks.specs.Repeated.{is_among}
use Rattle.gql_expr_checks.proofs.RefusalLemmas.{first_of_in_two, misuse_in_two}
use Rattle.gql_norm.specs.NormalPattern.{NormalPath, NormalPattern}
use Rattle.gql_norm.specs.Places.{size}
use Rattle.gql_norm.specs.Declaration.{Declared, declarations}
use Rattle.gql_norm.specs.NewColumns.{columns_after}
use Rattle.gql_norm.specs.PredicateSpot.{predicates_in, trees_in}
use Rattle.gql_norm.specs.UnknownNames.{is_declared, is_name_among, path_name_of, unknown_at, unknown_in_paths, unknown_in_match}
use Rattle.gql_norm.specs.OtherDefects.{misused_in_path, misused_in_match}
use Rattle.gql_pattern_checks.specs.Machinery.Scopes.{no_names, with_paths, known_columns}
use Rattle.gql_pattern_checks.specs.Machinery.ScopeWalk.{refused_name, refused_in_paths, refused_pattern, with_name_of}
use Rattle.gql_pattern_checks.specs.declared.scoped.ScopeQuestion.TheVariants as question
use Rattle.gql_pattern_checks.proofs.AmongLemmas.{filter_alike}
use Rattle.gql_pattern_checks.proofs.DegreeLemmas.{entries_in_paths}
use Rattle.gql_pattern_checks.proofs.FinalLemmas.{final_is_column, final_is_group, holds_paths}
use Rattle.gql_pattern_checks.proofs.HoldLemmas.{has, holds_nothing, among_with}
use Rattle.gql_pattern_checks.proofs.PatternLemmas.{declared_seen, unknown_of_trees, misused_of_trees, unknown_in_body, misused_in_body}
use Rattle.gql_pattern_checks.proofs.PlaceLemmas.{entries_of, seen_behind}

-- E08. The variables of the clause are those that were gathered.
has_two : (xs ys : List (List ℕ × Bool)) (x : List ℕ) → has (xs ++ ys) x ≡ (has xs x || has ys x)
has_two xs ys x = list_any-append (λ (e : List ℕ × Bool). same_text x e.0) xs ys

declared_in_paths : (ps : List NormalPath) (x : List ℕ) → is_declared (flat_map (λ (q : NormalPath). declarations q.body) ps) x ≡ has (entries_in_paths ps) x
declared_in_paths [] x = refl
declared_in_paths (p ∷ ps) x =
    list_any-append (λ (d : Declared). same_text x d.name) (declarations p.body) (flat_map (λ (q : NormalPath). declarations q.body) ps)
    ∙ (λ i. (declared_seen [] (declarations p.body) x
    ∙ ap (λ es. has es x) (seen_behind p.body 0 [] (0 + size p.body) [] (omega arith) (λ q l. refl) (λ q l. refl))) i || declared_in_paths ps x i)
    ∙ sym (has_two (entries_of false p.body) (entries_in_paths ps) x)

declared_gathered : (p : NormalPattern) (x : List ℕ) → is_declared (flat_map (λ (q : NormalPath). declarations q.body) p.paths) x ≡ is_among (with_paths no_names p.paths).variables x
declared_gathered p x = declared_in_paths p.paths x ∙ sym ((holds_paths [] no_names [] p.paths holds_nothing).variables x)

abbrev named : NormalPath → Option (List ℕ) → NormalPath
named p v = record { name = v; selector = p.selector; body = p.body }

-- a path name is at fault where it is taken
module _ (columns : ColumnList) (before seen : List (List ℕ)) (ds : List Declared) (vs : List (List ℕ)) (h : (x : List ℕ) → is_name_among before x ≡ is_among seen x) (k : (x : List ℕ) → is_declared ds x ≡ is_among vs x) where
  name_refused : (p : NormalPath) (v : Option (List ℕ))
      → refusal_of_first refusal.Variable (filter (λ x. is_column columns x || is_name_among before x || is_declared ds x) (path_name_of (named p v))) ≡ refused_name columns seen vs v
  name_refused p None = refl
  name_refused p (Some x) =
      by (is_column columns x || is_name_among before x || is_declared ds x)
      ∙ (λ i. if is_column columns x || h x i || k x i then Some (refusal.Variable x) else None)
    where
      by : (b : Bool) → refusal_of_first refusal.Variable (cond b (x ∷ []) []) ≡ (if b then Some (refusal.Variable x) else None)
      by true = refl
      by false = refl

names_behind : (p : NormalPath) (before seen : List (List ℕ)) (v : Option (List ℕ)) → ((x : List ℕ) → is_name_among before x ≡ is_among seen x)
    → (x : List ℕ) → is_name_among (path_name_of (named p v) ++ before) x ≡ is_among (with_name_of seen v) x
names_behind p before seen None h x = h x
names_behind p before seen (Some y) h x = ap (λ b. same_text x y || b) (h x) ∙ or_comm (same_text x y) (is_among seen x) ∙ sym (among_with seen y x)

unknown_by_paths : (columns : ColumnList) (before seen : List (List ℕ)) (ds : List Declared) (vs : List (List ℕ)) (ps : List NormalPath)
    → ((x : List ℕ) → is_name_among before x ≡ is_among seen x) → ((x : List ℕ) → is_declared ds x ≡ is_among vs x)
    → refusal_of_first refusal.Variable (unknown_in_paths columns before ds ps) ≡ refused_in_paths question.Names columns seen vs ps
unknown_by_paths columns before seen ds vs [] h k = refl
unknown_by_paths columns before seen ds vs (p ∷ ps) h k =
    first_of_in_two refusal.Variable
    (filter (λ x. is_column columns x || is_name_among before x || is_declared ds x) (path_name_of p) ++ flat_map (unknown_at columns p.body) (predicates_in p.body 0 []))
    (unknown_in_paths columns (path_name_of p ++ before) ds ps)
    ∙ (λ i. option_or
    ((first_of_in_two refusal.Variable
    (filter (λ x. is_column columns x || is_name_among before x || is_declared ds x) (path_name_of p)) (flat_map (unknown_at columns p.body) (predicates_in p.body 0 []))
    ∙ (λ j. option_or (name_refused columns before seen ds vs h k p p.name j) (unknown_in_body columns p.body j))) i)
    (unknown_by_paths columns (path_name_of p ++ before) (with_name_of seen p.name) ds vs ps (names_behind p before seen p.name h) k i))

pub unknown_in_pattern : (columns : ColumnList) (p : NormalPattern) → refusal_of_first refusal.Variable (unknown_in_match columns p) ≡ refused_pattern question.Names columns p
unknown_in_pattern columns p =
    first_of_in_two refusal.Variable
    (unknown_in_paths columns [] (flat_map (λ (q : NormalPath). declarations q.body) p.paths) p.paths)
    (filter (λ x. not (is_column (columns_after columns p) x)) (flat_map names_in (trees_in p.condition)))
    ∙ (λ i. option_or
    (unknown_by_paths columns [] [] (flat_map (λ (q : NormalPath). declarations q.body) p.paths) (with_paths no_names p.paths).variables p.paths (λ x. refl) (declared_gathered p) i)
    ((ap (refusal_of_first refusal.Variable)
    (filter_alike (λ x. not (is_column (columns_after columns p) x)) (λ x. not (is_column (known_columns columns (with_paths no_names p.paths)) x)) (flat_map names_in (trees_in p.condition))
    (λ x m. ap not (final_is_column columns p x)))
    ∙ unknown_of_trees columns (with_paths no_names p.paths) (trees_in p.condition)) i))

-- E15
misused_by_paths : (columns : ColumnList) (seen vs : List (List ℕ)) (ps : List NormalPath) → misuse_if (list_any (misused_in_path columns) ps) ≡ refused_in_paths question.Misuses columns seen vs ps
misused_by_paths columns seen vs [] = refl
misused_by_paths columns seen vs (p ∷ ps) =
    misuse_in_two (misused_in_path columns p) (list_any (misused_in_path columns) ps)
    ∙ (λ i. option_or (misused_in_body columns p.body i) (misused_by_paths columns (with_name_of seen p.name) vs ps i))

pub misused_in_pattern : (columns : ColumnList) (p : NormalPattern) → misuse_if (misused_in_match columns p) ≡ refused_pattern question.Misuses columns p
misused_in_pattern columns p =
    misuse_in_two (list_any (misused_in_path columns) p.paths) (list_any (misused (columns_after columns p) elsewhere) (trees_in p.condition))
    ∙ (λ i. option_or (misused_by_paths columns [] (with_paths no_names p.paths).variables p.paths i)
    (misused_of_trees (columns_after columns p) columns (with_paths no_names p.paths) (trees_in p.condition) (final_is_group columns p) i))
