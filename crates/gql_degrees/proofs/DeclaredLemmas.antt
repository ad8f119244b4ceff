-- What path patterns declare, and that one element declares one variable at most.
use Rattle.std.proofs.Common.{◌≡◌, ℕ, ◌+◌, ◌<◌, ◌≤◌, List, [], ◌∷◌, ◌++◌, Option, Some, None, map, drop, get_or, length, subst, sym, ap, ◌∙◌, append_assoc, arith}
use Rattle.std.specs.Prelude.{slice_index_or}
use Rattle.gql_values3.specs.declared.table.ColumnKind.{ColumnKind}
use Rattle.gql_ast.specs.ClauseColumns.{ColumnList}
use Rattle.gql_expr_checks.proofs.DropLemmas.{drop_step}
use Rattle.gql_norm.specs.NormalData.{part_data, path_data}
use Rattle.gql_norm.specs.declared.path.NormalPath.{NormalPath as CodePath}
use Rattle.gql_norm.specs.Machinery.ColumnGrowth.{declared_in, declared_variable}
use Rattle.gql_degrees.specs.Machinery.KindWalk.{declared_in_all_paths}

pub path_more : (names : ColumnList) (paths : List CodePath) (i : ℕ) (p : CodePath) → i < length paths → p ≡ get_or paths i p
    → (names ++ declared_in (part_data p.body)) ++ declared_in_all_paths (map path_data (drop (i + 1) paths)) ≡ names ++ declared_in_all_paths (map path_data (drop i paths))
path_more names paths i p h k =
    append_assoc names (declared_in (part_data p.body)) (declared_in_all_paths (map path_data (drop (i + 1) paths)))
    ∙ ap (λ ps. names ++ declared_in_all_paths (map path_data ps)) (sym (drop_step paths i p h k))

pub few_declared : (k : ColumnKind) (variable : Option (List ℕ)) → length (declared_variable k variable) ≤ 1
few_declared k None = omega arith
few_declared k (Some x) = omega arith

-- one path declares what its body does
pub few_in_one : (paths : List CodePath) (p : CodePath) → 1 ≤ length paths → length paths < 2 → p ≡ slice_index_or paths 0 p → length (declared_in (part_data p.body)) ≤ 1
    → length (declared_in_all_paths (map path_data paths)) ≤ 1
few_in_one [] p least most is few = absurd (omega (arith, least))
few_in_one (q ∷ []) p least most is few = few_behind (declared_in (part_data q.body)) (subst (λ (r : CodePath). length (declared_in (part_data r.body)) ≤ 1) is few)
  where
    few_behind : (names : ColumnList) → length names ≤ 1 → length (names ++ []) ≤ 1
    few_behind [] few = few
    few_behind (n ∷ []) few = few
    few_behind (n ∷ m ∷ ns) few = absurd (omega (arith, few))
few_in_one (q ∷ r ∷ paths) p least most is few = absurd (omega (arith, most))
