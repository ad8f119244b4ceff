use Rattle.std.proofs.Common.{arith}
use Rattle.gql_graph.specs.contracts.graph.Graph.{the_view}
use Rattle.gql_graph.proofs.RoomLemmas.{has}
use Rattle.gql_graph.proofs.edits.GraphEdit.holds_itself.Goals as goal

-- neither list is longer than its capacity
pub returns : goal.returns
returns c =
    let held = the_view c.self.inside in
    rw (← c.self.view_is) (has held held.graph (omega (arith, c.self.inside.nodes.ok.0)) (omega (arith, c.self.inside.edges.ok.0)))
