-- A graph in memory with the room that it has: which graphs it can hold without memory, and what a change of it does.
use Rattle.std.specs.Prelude.{ℕ, Bool, ◌&&◌, nat_le, length}
use Rattle.gql_values3.specs.PropertyGraph.{PropertyGraph}

-- the graph, and how many nodes and edges there is room for
pub record GraphInMemory : Type 0 where
  pub graph : PropertyGraph
  pub node_room : ℕ
  pub edge_room : ℕ

-- there is room for the graph
abbrev pub has_room : GraphInMemory → PropertyGraph → Bool
has_room held g = nat_le (length g.nodes) held.node_room && nat_le (length g.edges) held.edge_room
