-- What a graph says of the numbers of its nodes and edges.
use Rattle.std.proofs.Common.{◌≡◌, ℕ, ◌^◌, ◌<◌, true, List, map, length, nat_lt, arith}
use Rattle.std.proofs.lemmas.Bool.{and_parts}
use Rattle.std.proofs.lemmas.Bool.Decides.{nat_tests}
use Rattle.gql_values3.specs.declared.records.NodeRecord.{NodeRecord}
use Rattle.gql_values3.specs.declared.records.EdgeRecord.{EdgeRecord}
use Rattle.gql_values3.specs.PropertyGraph.{numbers_ascend, are_numbers, are_nodes, is_node_record, is_edge_record, is_graph}
use Rattle.std.specs.List.{list_all}
use Rattle.gql_graph.specs.Machinery.Ascending.{AscendsBy}
use Rattle.gql_graph.proofs.NumberLemmas.{ascends, fewer}

module _ {X : Type 0} (key : X → ℕ) (xs : List X) (next : ℕ) (are : are_numbers (map key xs) next ≡ true) where
  -- the numbers of a graph's items ascend
  pub ascending : AscendsBy key xs
  ascending = ascends key xs 0 next (and_parts _ _ are).0

  -- and there are fewer than 2^32 of them
  pub few : length xs < 2 ^ 32
  few = let h = fewer key xs 0 next (and_parts _ _ are).0 in grind (arith, nat_tests, h, (and_parts (numbers_ascend 0 (map key xs) next) (nat_lt next (2 ^ 32)) are).1)

module _ (nodes : List NodeRecord) (edges : List EdgeRecord) (next_node next_edge : ℕ) (one : is_graph (record { nodes = nodes; edges = edges; next_node = next_node; next_edge = next_edge }) ≡ true) where
  -- the tests of the numbers are part of that of the graph
  pub node_numbers : are_numbers (map (λ r. r.number.0) nodes) next_node ≡ true
  node_numbers = (and_parts _ (list_all is_node_record nodes) (and_parts (are_nodes nodes next_node) _ one).0).0

  pub edge_numbers : are_numbers (map (λ r. r.number.0) edges) next_edge ≡ true
  edge_numbers = (and_parts _ (list_all (is_edge_record nodes) edges) (and_parts (are_nodes nodes next_node) _ one).1).0

  -- so nodes and edges ascend by number, as a search asks
  pub nodes_ascend : AscendsBy (λ r. r.number.0) nodes
  nodes_ascend = ascending (λ r. r.number.0) nodes next_node node_numbers

  pub edges_ascend : AscendsBy (λ r. r.number.0) edges
  edges_ascend = ascending (λ r. r.number.0) edges next_edge edge_numbers

  -- and a u32 counts the nodes
  pub few_nodes : length nodes < 2 ^ 32
  few_nodes = few (λ r. r.number.0) nodes next_node node_numbers
