use Rattle.std.proofs.Common.{◌∙◌, ap, map}
use Rattle.std.proofs.lemmas.Bool.{and_parts}
use Rattle.std.specs.Prelude.{is_some}
use Rattle.std.specs.List.{list_all}
use Rattle.gql_values3.specs.PropertyGraph.{are_numbers, is_node_record}
use Rattle.gql_graph.proofs.GraphLemmas.{ascending}
use Rattle.gql_graph.proofs.SearchLemmas.{is_some-find, is_some-option_copied}
use Rattle.gql_rowcode.proofs.SoundLemmas.{node_number}
use Rattle.gql_rowcode.proofs.joining.is_among.Goals as goal

pub find_node-requires : goal.find_node-requires
find_node-requires c =
    ascending node_number c.args.nodes.now c.args.next_node (and_parts (are_numbers (map node_number c.args.nodes.now) c.args.next_node) (list_all is_node_record c.args.nodes.now) c.requires).0

pub returns : goal.returns
returns c = c.is_some.ensures ∙ is_some-option_copied c.find_node.result ∙ ap (λ o. is_some o) c.find_node.ensures ∙ is_some-find _ c.args.nodes.now
