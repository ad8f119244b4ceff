use Rattle.std.proofs.Common.{◌≡◌, map, OnOk, subst, ap, ◌∙◌}
use Rattle.gql_norm.specs.NewColumns.{columns_after}
use Rattle.gql_norm.specs.NormalData.{path_data, pattern_data}
use Rattle.gql_norm.specs.Machinery.ColumnGrowth.{with_columns}
use Rattle.gql_scope.specs.Machinery.Gathering.{Gathered, columns_of}
use Rattle.gql_scope.proofs.GatheringLemmas.{gathered_columns}
use Rattle.gql_scope.proofs.match_columns.push_match.Goals as goal

pub returns : goal.returns
returns c =
    let columns = c.args.scope.now in
    let paths = c.as_slice.result.now in
    subst (λ after. OnOk c.push_found.result (c.push_found.new.scope ≡ after))
    (ap (λ (g : Gathered). with_columns columns (columns_of g.groups g.names)) c.in_ok-found.ensures
    ∙ gathered_columns columns (map path_data paths)
    ∙ ap (λ ps. columns_after columns (record { paths = map path_data ps; condition = (pattern_data c.args.pattern.now).condition })) c.as_slice.ensures)
    c.push_found.ensures
