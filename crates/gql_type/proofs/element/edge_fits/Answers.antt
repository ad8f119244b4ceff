use Rattle.std.proofs.Common.{◌∙◌, ap}
use Rattle.gql_type.specs.Machinery.InOrder.{edge_matches}
use Rattle.gql_type.proofs.ConformanceLemmas.{numbers_of, records_of, edge_in_any}
use Rattle.gql_type.proofs.element.edge_fits.Goals as goal

pub of-requires : goal.of-requires
of-requires c = numbers_of c.args.nodes.now c.requires.nodes.0 c.requires.nodes.1

pub returns : goal.returns
returns c = λ g same.
    let nodes = c.args.nodes.now in
    c.edge_matches.ensures ∙ ap (λ ns. edge_matches ns c.args.kind.now c.args.edge.now) c.of.ensures
    ∙ edge_in_any c.args.kind.now nodes c.args.edge.now g c.requires.kind (records_of nodes c.requires.nodes.0 c.requires.nodes.1) c.requires.edge same
