use Rattle.std.proofs.Common.{map, ap, sym, ◌∙◌}
use Rattle.gql_norm.specs.NormalData.{path_data}
use Rattle.gql_term.specs.Machinery.OpenReferences.{first_barred_path}
use Rattle.gql_term.proofs.BarredLemmas.{paths_are}
use Rattle.gql_term.proofs.references.group_ref.Goals as goal

pub returns : goal.returns
returns c = c.first_in_paths.ensures ∙ ap (λ ps. first_barred_path (map path_data ps)) c.as_slice.ensures ∙ sym (paths_are (map path_data c.args.pattern.now.paths))
