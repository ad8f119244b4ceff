use Rattle.std.proofs.Common.{◌≤◌, length, map, subst, refl, sym, ◌∙◌}
use Rattle.gql_norm.specs.NormalData.{path_data}
use Rattle.gql_degrees.specs.Machinery.JoinData.{at_fault}
use Rattle.gql_degrees.proofs.AloneLemmas.{none_joined}
use Rattle.gql_degrees.proofs.joins.joined_by_declared.Goals as goal

pub returns-then-is_alone : goal.returns-then-is_alone
returns-then-is_alone c =
    let alone = c.if-is_alone.ensures.0 refl in
    sym (none_joined (at_fault c.args.join) c.args.columns.now (map path_data c.args.paths.now) alone.0
    (subst (λ names. length names ≤ 1) (c.as_slice.ensures ∙ c.in_ok-declared.ensures) alone.1))
