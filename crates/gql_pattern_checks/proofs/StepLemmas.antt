-- One part of several, and then those behind it.
use Rattle.std.proofs.Common.{◌≡◌, ℕ, ◌+◌, ◌*◌, ◌<◌, false, List, map, max, length, drop, get_or, Option, sym, ap, ◌∙◌, arith}
use Rattle.std.specs.Option.{option_or}
use Rattle.gql_ast.specs.ClauseColumns.{ColumnList}
use Rattle.gql_ast.specs.declared.refusal.Refusal.{Refusal}
use Rattle.gql_expr_checks.proofs.DropLemmas.{drop_step}
use Rattle.gql_norm.specs.NormalPattern.{Part}
use Rattle.gql_norm.specs.NormalData.{part_data}
use Rattle.gql_norm.specs.declared.part.Part.{Part as CodePart}
use Rattle.gql_norm.specs.declared.part.Part.TheVariants as part
use Rattle.gql_norm.specs.Machinery.PartHeight.{part_height_of, highest_part}
use Rattle.gql_norm.proofs.HeightLemmas.{row_falls, union_falls}
use Rattle.gql_pattern_checks.specs.Machinery.Scopes.{with_part, with_parts}
use Rattle.gql_pattern_checks.specs.Machinery.ScopeWalk.{refused_in, refused_in_row}
use Rattle.gql_pattern_checks.specs.declared.scope.Names.{Names}
use Rattle.gql_pattern_checks.specs.declared.scoped.ScopeQuestion.{ScopeQuestion}

pub row_cut : (q : ScopeQuestion) (columns : ColumnList) (s : Names) (whole : Option Refusal) (parts : List CodePart) (i : ℕ) (p : CodePart) → i < length parts → p ≡ get_or parts i p
    → refused_in_row q columns s (map part_data (drop i parts)) ≡ whole
    → whole ≡ option_or (refused_in q columns s (part_data p)) (refused_in_row q columns (with_part false s (part_data p)) (map part_data (drop (i + 1) parts)))
row_cut q columns s whole parts i p below is h = sym h ∙ ap (λ ps. refused_in_row q columns s (map part_data ps)) (drop_step parts i p below is)

pub added_cut : (s t : Names) (parts : List CodePart) (i : ℕ) (p : CodePart) → i < length parts → p ≡ get_or parts i p → t ≡ with_part false s (part_data p)
    → with_parts false t (map part_data (drop (i + 1) parts)) ≡ with_parts false s (map part_data (drop i parts))
added_cut s t parts i p below is h =
    ap (λ u. with_parts false u (map part_data (drop (i + 1) parts))) h
    ∙ sym (ap (λ ps. with_parts false s (map part_data ps)) (drop_step parts i p below is))

-- the walk takes more steps than one between a part and what stands in it
pub row_falls_further : (x a b : CodePart) (cs : List CodePart) (p r : Part) (rs : List Part) → x ≡ part.Concat p r rs → part_data a ≡ p → part_data b ≡ r → map part_data cs ≡ rs
    → 6 * max (max (part_height_of (part_data a)) (part_height_of (part_data b))) (highest_part (map part_data cs)) + 4 < 6 * part_height_of (part_data x)
row_falls_further x a b cs p r rs e h k l = omega (arith, row_falls x a b cs p r rs e h k l)

pub union_falls_further : (x a b : CodePart) (cs : List CodePart) (p r : Part) (rs : List Part) → x ≡ part.Union p r rs → part_data a ≡ p → part_data b ≡ r → map part_data cs ≡ rs
    → 6 * max (max (part_height_of (part_data a)) (part_height_of (part_data b))) (highest_part (map part_data cs)) + 4 < 6 * part_height_of (part_data x)
union_falls_further x a b cs p r rs e h k l = omega (arith, union_falls x a b cs p r rs e h k l)
