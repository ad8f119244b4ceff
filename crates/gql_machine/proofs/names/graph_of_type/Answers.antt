use Rattle.std.proofs.Common.{◌∙◌, ap}
use Rattle.std.specs.Prelude.{option_map, find}
use Rattle.gql_machine.specs.StateRefusals.{has_type}
use Rattle.gql_machine.proofs.NameLemmas.{first_seen}
use Rattle.gql_machine.proofs.names.graph_of_type.Goals as goal

pub returns : goal.returns
returns c =
    let name = c.args.name.now in
    c.first_of_type.ensures ∙ first_seen name c.graphs.result.now ∙ ap (λ gs. option_map (λ p. p.0) (find (λ p. has_type name p.1) gs)) c.graphs.ensures.graphs
