use Rattle.std.proofs.Common.{◌≡◌, IfOk, map, subst, ◌∙◌}
use Rattle.gql_norm.specs.JoinDefects.{has_group}
use Rattle.gql_norm.specs.NormalData.{path_data, pattern_data}
use Rattle.gql_degrees.specs.Machinery.JoinWalk.{first_joined}
use Rattle.gql_degrees.proofs.JoinLemmas.{joined_is}
use Rattle.gql_degrees.proofs.joins.joined_group.Goals as goal

pub returns : goal.returns
returns c =
    subst (λ z. IfOk c.first_joined.result (λ name. name ≡ z))
    ((λ i. first_joined has_group (c.as_slice.ensures i) (map path_data (c.as_slice-2.ensures i))) ∙ joined_is has_group c.args.columns.now (pattern_data c.args.pattern.now).paths)
    c.first_joined.ensures
