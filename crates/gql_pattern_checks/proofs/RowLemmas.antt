-- What is refused of parts in a row, beside each other, and told.
use Rattle.std.proofs.Common.{◌≡◌, ◌==◌, true, false, List, [], ◌∷◌, None, length, map, refl, sym, ap, arith}
use Rattle.std.proofs.lemmas.Bool.{eqb-true}
use Rattle.std.specs.Option.{option_or}
use Rattle.gql_ast.specs.ClauseColumns.{ColumnList}
use Rattle.gql_ast.specs.Tree.{Tree}
use Rattle.gql_norm.specs.NormalData.{predicate_data}
use Rattle.gql_norm.specs.declared.element.Predicate.{Predicate as CodePredicate}
use Rattle.gql_norm.specs.PredicateSpot.{tree_in}
use Rattle.gql_norm.specs.NormalPattern.{Part, in_a_row, side_by_side, sides_of}
use Rattle.gql_pattern_checks.specs.Machinery.Scopes.{with_part, known_columns}
use Rattle.gql_pattern_checks.specs.Machinery.ScopeWalk.{refused_under, refused_of, refused_in, refused_in_sides, refused_in_row, refused_beside}
use Rattle.gql_pattern_checks.specs.declared.scope.Names.{Names}
use Rattle.gql_pattern_checks.specs.declared.scoped.ScopeQuestion.{ScopeQuestion}
use Rattle.gql_pattern_checks.proofs.WalkLemmas.{alone}

pub refused_row : (q : ScopeQuestion) (columns : ColumnList) (s : Names) (p : Part) (ps : List Part)
    → refused_in q columns s (in_a_row p ps) ≡ refused_in_row q columns s (p ∷ ps)
refused_row q columns s p [] = alone (refused_in q columns s p)
refused_row q columns s p (r ∷ rs) = ap (λ o. option_or (refused_in q columns s p) o) (refused_row q columns (with_part false s p) r rs)

pub refused_union : (q : ScopeQuestion) (columns : ColumnList) (s : Names) (p : Part) (ps : List Part)
    → refused_in q columns s (side_by_side p ps) ≡ refused_beside q columns s (p ∷ ps)
refused_union q columns s p [] = alone (refused_in q columns s p)
refused_union q columns s p (r ∷ rs) = ap (λ o. option_or (refused_in q columns s p) o) (refused_union q columns s r rs)

pub refused_told : (q : ScopeQuestion) (columns : ColumnList) (s : Names) (ps : List Part)
    → refused_in_sides q columns s (sides_of ps) ≡ refused_beside q columns s ps
refused_told q columns s [] = refl
refused_told q columns s (p ∷ ps) = ap (λ o. option_or (refused_in q columns s p) o) (refused_told q columns s ps)

-- one expression
pub refused_one : (q : ScopeQuestion) (columns : ColumnList) (s : Names) (e : Tree)
    → refused_of q columns s (e ∷ []) ≡ refused_under q (known_columns columns s) e
refused_one q columns s e = sym (alone (refused_under q (known_columns columns s) e))

-- no predicates
pub refused_nothing : (q : ScopeQuestion) (columns : ColumnList) (s : Names) (predicates : List CodePredicate) → (length predicates == 0) ≡ true
    → refused_of q columns s (map tree_in (map predicate_data predicates)) ≡ None
refused_nothing q columns s [] none = refl
refused_nothing q columns s (p ∷ ps) none = let e : length (p ∷ ps) ≡ 0 = eqb-true (length (p ∷ ps)) 0 none in absurd (omega (arith, e))
