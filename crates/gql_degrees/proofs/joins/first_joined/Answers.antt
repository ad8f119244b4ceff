use Rattle.std.proofs.Common.{map, refl, sym}
use Rattle.gql_norm.specs.NormalData.{path_data}
use Rattle.gql_degrees.specs.Machinery.JoinData.{at_fault}
use Rattle.gql_degrees.proofs.AloneLemmas.{none_joined}
use Rattle.gql_degrees.proofs.joins.first_joined.Goals as goal

pub returns-then-is_one_element : goal.returns-then-is_one_element
returns-then-is_one_element c =
    let alone = c.is_one_element.ensures c.if-is_one_element.true in
    sym (none_joined (at_fault c.args.join) c.args.columns.now (map path_data c.args.paths.now) alone.0 alone.1)
