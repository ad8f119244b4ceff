use Rattle.std.proofs.Common.{◌≡◌, ◌≤◌, length, map, subst, refl, sym, ap, ◌∙◌}
use Rattle.gql_norm.specs.NormalData.{path_data, pattern_data}
use Rattle.gql_degrees.specs.Machinery.KindWalk.{declared_in_all_paths}
use Rattle.gql_degrees.proofs.AloneLemmas.{no_wrong_kind}
use Rattle.gql_degrees.proofs.kinds.wrong_kind.Goals as goal

pub returns-then-is_one_element : goal.returns-then-is_one_element
returns-then-is_one_element c =
    let alone = c.is_one_element.ensures c.if-is_one_element.true in
    sym (no_wrong_kind c.args.columns.now (pattern_data c.args.pattern.now) (sym c.as_slice.ensures ∙ alone.0)
    (subst (λ paths. length (declared_in_all_paths (map path_data paths)) ≤ 1) c.as_slice-2.ensures alone.1))
