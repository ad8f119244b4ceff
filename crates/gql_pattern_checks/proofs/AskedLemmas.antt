-- Where a pattern has neither a path name nor a final WHERE, what is refused of it hangs on no names of the clause.
use Rattle.std.proofs.Common.{◌≡◌, ℕ, Bool, true, false, ◌||◌, List, [], ◌∷◌, Option, Some, None, refl, true≢false}
use Rattle.std.specs.Prelude.{is_some, option_map}
use Rattle.std.specs.Option.{option_or}
use Rattle.gql_ast.specs.ClauseColumns.{ColumnList}
use Rattle.gql_ast.specs.Tree.{Tree}
use Rattle.gql_norm.specs.NormalPattern.{NormalPath, NormalPattern}
use Rattle.gql_norm.specs.PredicateSpot.{trees_in}
use Rattle.gql_pattern_checks.specs.Machinery.Scopes.{no_names, with_paths}
use Rattle.gql_pattern_checks.specs.Machinery.ScopeWalk.{any_named, asks_for_names, refused_in, refused_in_paths, refused_of, refused_path_name, refused_pattern, refused_seeing, with_name_of}
use Rattle.gql_pattern_checks.specs.declared.scope.Names.{Names}
use Rattle.gql_pattern_checks.specs.declared.scoped.ScopeQuestion.{ScopeQuestion}
use Rattle.gql_pattern_checks.specs.declared.scoped.ScopeQuestion.TheVariants as question

neither_first : (a b : Bool) → (a || b) ≡ false → a ≡ false
neither_first false b h = refl
neither_first true b h = absurd (true≢false h)

neither_second : (a b : Bool) → (a || b) ≡ false → b ≡ false
neither_second false b h = h
neither_second true b h = absurd (true≢false h)

unnamed : (q : ScopeQuestion) (columns : ColumnList) (before vs ws : List (List ℕ)) (name : Option (List ℕ)) → is_some name ≡ false
    → refused_path_name q columns before vs name ≡ refused_path_name q columns before ws name
unnamed question.Names columns before vs ws None h = refl
unnamed question.Names columns before vs ws (Some x) h = absurd (true≢false h)
unnamed question.Misuses columns before vs ws name h = refl

none_named : (q : ScopeQuestion) (columns : ColumnList) (before vs ws : List (List ℕ)) (ps : List NormalPath) → any_named ps ≡ false
    → refused_in_paths q columns before vs ps ≡ refused_in_paths q columns before ws ps
none_named q columns before vs ws [] h = refl
none_named q columns before vs ws (p ∷ ps) h =
    λ i. option_or (option_or (unnamed q columns before vs ws p.name (neither_first (is_some p.name) (any_named ps) h) i) (refused_in q columns no_names p.body))
    (none_named q columns (with_name_of before p.name) vs ws ps (neither_second (is_some p.name) (any_named ps) h) i)

no_condition : (q : ScopeQuestion) (columns : ColumnList) (s t : Names) (condition : Option Tree) → is_some condition ≡ false
    → refused_of q columns s (trees_in condition) ≡ refused_of q columns t (trees_in condition)
no_condition q columns s t None h = refl
no_condition q columns s t (Some e) h = absurd (true≢false h)

pub unasked : (q : ScopeQuestion) (columns : ColumnList) (p : NormalPattern) → asks_for_names p ≡ false → refused_seeing q columns no_names p ≡ refused_pattern q columns p
unasked q columns p h =
    let all = with_paths no_names p.paths in
    λ i. option_or (none_named q columns [] [] all.variables p.paths (neither_second (is_some p.condition) (any_named p.paths) h) i)
    (no_condition q columns no_names all p.condition (neither_first (is_some p.condition) (any_named p.paths) h) i)

-- what is made of something that may be there
pub some_mapped : {S T : Type 0} (f : S → T) (o : Option S) → is_some (option_map f o) ≡ is_some o
some_mapped f None = refl
some_mapped f (Some x) = refl
