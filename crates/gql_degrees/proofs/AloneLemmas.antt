-- Where no column comes in and at most one variable is declared, nothing is at fault.
use Rattle.std.proofs.Common.{◌≡◌, ◌≤◌, Bool, false, ◌||◌, List, [], ◌∷◌, Some, None, length, refl, sym, ap, ◌∙◌, arith}
use Rattle.std.specs.Prelude.{option_map, if◌then◌else◌}
use Rattle.gql_values3.specs.declared.table.ColumnKind.{ColumnKind}
use Rattle.gql_values3.specs.declared.table.ColumnKind.TheVariants as kind
use Rattle.gql_ast.specs.ClauseColumns.{ColumnList, is_column}
use Rattle.gql_norm.specs.declared.degree.Degree.{Degree}
use Rattle.gql_norm.specs.JoinDefects.{Spot}
use Rattle.gql_norm.specs.NormalPattern.{NormalPath, NormalPattern}
use Rattle.gql_degrees.specs.FirstFaults.{first_wrong_kind}
use Rattle.gql_degrees.specs.Machinery.KindWalk.{declared_in_all_paths, first_clash, none_before, others_than}
use Rattle.gql_degrees.specs.Machinery.JoinWalk.{first_among, first_joined, place_of_fault, suspects}
use Rattle.gql_degrees.proofs.KindLemmas.{first_is}

no_others : (k : ColumnKind) → others_than k none_before ≡ []
no_others kind.Node = refl
no_others _ = refl

no_clash : (declared : ColumnList) → length declared ≤ 1 → first_clash [] none_before declared ≡ None
no_clash [] few = refl
no_clash (d ∷ []) few = ap (λ others. if is_column others d.0 || false then Some d.0 else None) (no_others d.1)
no_clash (d ∷ e ∷ ds) few = absurd (omega (arith, few))

no_suspects : (declared : ColumnList) → length declared ≤ 1 → suspects [] [] [] declared ≡ []
no_suspects [] few = refl
no_suspects (d ∷ []) few = refl
no_suspects (d ∷ e ∷ ds) few = absurd (omega (arith, few))

pub no_wrong_kind : (columns : ColumnList) (p : NormalPattern) → columns ≡ [] → length (declared_in_all_paths p.paths) ≤ 1 → first_wrong_kind columns p ≡ None
no_wrong_kind columns p none few =
    sym (first_is columns p) ∙ ap (λ cs. first_clash cs none_before (declared_in_all_paths p.paths)) none ∙ no_clash (declared_in_all_paths p.paths) few

pub none_joined : (faulty : Degree → Degree → Bool) (columns : ColumnList) (ps : List NormalPath) → columns ≡ [] → length (declared_in_all_paths ps) ≤ 1
    → first_joined faulty columns ps ≡ None
none_joined faulty columns ps none few =
    ap (λ names. option_map (λ (s : Spot). s.1) (first_among (place_of_fault faulty columns ps) None names))
    (ap (λ cs. suspects cs [] [] (declared_in_all_paths ps)) none ∙ no_suspects (declared_in_all_paths ps) few)
