-- What stands at a place and has the number is what a look-up finds.
use Rattle.std.proofs.Common.{◌≡◌, ℕ, ◌<◌, eqb, true, List, length, get_or, Some, sym}
use Rattle.std.specs.Prelude.{find}
use Rattle.gql_values3.specs.PropertyGraph.{PropertyGraph, is_graph}
use Rattle.gql_values3.specs.Lookup.{node_of, edge_of}
use Rattle.gql_values3.specs.declared.element.NodeId.{NodeId}
use Rattle.gql_values3.specs.declared.element.EdgeId.{EdgeId}
use Rattle.gql_values3.specs.declared.records.NodeRecord.{NodeRecord}
use Rattle.gql_values3.specs.declared.records.EdgeRecord.{EdgeRecord}
use Rattle.gql_rowcode.proofs.MemberLemmas.{InOrder, has_at}
use Rattle.gql_rowcode.proofs.NumberLemmas.{NumberLess, numbers_in_order, find_number}
use Rattle.gql_rowcode.proofs.SoundLemmas.{graph_facts, node_number, edge_number}

found_near : {X : Type 0} (key : X → ℕ) (xs : List X) (i n : ℕ) (x : X) → InOrder (NumberLess key) xs → i < length xs → x ≡ get_or xs i x → key x ≡ n → find (λ y. eqb (key y) n) xs ≡ Some x
found_near key xs i n x up within here e = find_number key xs n x up (has_at xs x i within (sym here)) e

pub node_found : (g : PropertyGraph) (i : ℕ) (n : NodeId) (r : NodeRecord) → is_graph g ≡ true → i < length g.nodes → r ≡ get_or g.nodes i r → r.number.0 ≡ n.0 → node_of g n ≡ Some r
node_found g i n r is within here e = found_near node_number g.nodes i n.0 r (numbers_in_order node_number g.nodes 0 g.next_node (graph_facts g is).node_order) within here e

pub edge_found : (g : PropertyGraph) (i : ℕ) (n : EdgeId) (r : EdgeRecord) → is_graph g ≡ true → i < length g.edges → r ≡ get_or g.edges i r → r.number.0 ≡ n.0 → edge_of g n ≡ Some r
edge_found g i n r is within here e = found_near edge_number g.edges i n.0 r (numbers_in_order edge_number g.edges 0 g.next_edge (graph_facts g is).edge_order) within here e
