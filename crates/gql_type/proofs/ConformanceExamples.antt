-- Examples of conformance, which compute: a type of one node type, a bank's, and graphs that miss it by one thing each.
use Rattle.std.proofs.Common.{◌≡◌, ℕ, pos, true, false, List, [], ◌∷◌, codes, Some, refl}
use Rattle.gql_values3.specs.Datum.{null, boolean, integer, text, list, data_of}
use Rattle.gql_values3.specs.PropertyGraph.{PropertyGraph}
use Rattle.gql_values3.specs.declared.element.NodeId.{NodeId}
use Rattle.gql_values3.specs.declared.element.Elem.TheVariants as elem
use Rattle.gql_values3.specs.declared.element.Ends.{Ends}
use Rattle.gql_values3.specs.declared.element.Ends.TheVariants as ends
use Rattle.gql_values3.specs.declared.prop_kind.Scalar.TheVariants as scalar
use Rattle.gql_values3.specs.declared.prop_kind.PropKind.TheVariants as kind
use Rattle.gql_values3.specs.declared.records.NodeRecord.{NodeRecord}
use Rattle.gql_values3.specs.declared.records.EdgeRecord.{EdgeRecord}
use Rattle.gql_graph.specs.declared.graph_type.GraphType.{GraphType}
use Rattle.gql_type.specs.PropertyKinds.{is_of_kind}
use Rattle.gql_type.specs.GraphTypes.{is_graph_type}
use Rattle.gql_type.specs.Conformance.{PropertyList, same_set, conforms, first_misfit, is_least_misfit}

abbrev number : ℕ → NodeId
number n = record { 0 = n }

abbrev graph : List NodeRecord → List EdgeRecord → PropertyGraph
graph nodes edges = record { nodes = nodes; edges = edges; next_node = 9; next_edge = 9 }

abbrev node : ℕ → List (List ℕ) → PropertyList → NodeRecord
node n ls ps = record { number = record { 0 = n }; labels = ls; properties = ps }

abbrev edge : ℕ → Ends → List (List ℕ) → PropertyList → EdgeRecord
edge n between ls ps = record { number = record { 0 = n }; ends = between; labels = ls; properties = ps }

abbrev from_to : ℕ → ℕ → Ends
from_to s t = ends.Directed (number s) (number t)

abbrev between : ℕ → ℕ → Ends
between l h = ends.Undirected (number l) (number h)

-- {(p :P {k INT NOT NULL})}
abbrev p_type : GraphType
p_type = record { nodes = record { labels = codes "P" ∷ []; body = record { name = codes "k"; kind = kind.One scalar.Int; required = true } ∷ [] } ∷ []; edges = [] }

abbrev with_k : PropertyList
with_k = (codes "k", integer (pos 1)) ∷ []

-- INSERT (:P) leaves a node that lacks k
without_k : first_misfit (graph (node 1 (codes "P" ∷ []) [] ∷ []) []) p_type ≡ Some (elem.Node (number 1))
without_k = refl

-- INSERT (x:P) SET x.k = 1 leaves one that has it
has_k : conforms (graph (node 1 (codes "P" ∷ []) with_k ∷ []) []) p_type ≡ true
has_k = refl

an_empty_graph_conforms : conforms (graph [] []) p_type ≡ true
an_empty_graph_conforms = refl

-- of two misfits the one of the lesser number
the_lesser_number : first_misfit (graph (node 1 (codes "P" ∷ []) with_k ∷ node 2 (codes "Q" ∷ []) with_k ∷ node 3 [] [] ∷ []) []) p_type ≡ Some (elem.Node (number 2))
the_lesser_number = refl

it_is_least : is_least_misfit (graph (node 1 (codes "P" ∷ []) with_k ∷ node 2 (codes "Q" ∷ []) with_k ∷ node 3 [] [] ∷ []) []) p_type (elem.Node (number 2)) ≡ true
it_is_least = refl

the_other_is_not : is_least_misfit (graph (node 1 (codes "P" ∷ []) with_k ∷ node 2 (codes "Q" ∷ []) with_k ∷ node 3 [] [] ∷ []) []) p_type (elem.Node (number 3)) ≡ false
the_other_is_not = refl

an_extra_label : conforms (graph (node 1 (codes "P" ∷ codes "Q" ∷ []) with_k ∷ []) []) p_type ≡ false
an_extra_label = refl

no_label : conforms (graph (node 1 [] with_k ∷ []) []) p_type ≡ false
no_label = refl

an_unnamed_property : conforms (graph (node 1 (codes "P" ∷ []) ((codes "j", boolean true) ∷ with_k) ∷ []) []) p_type ≡ false
an_unnamed_property = refl

another_kind : conforms (graph (node 1 (codes "P" ∷ []) ((codes "k", text (codes "1")) ∷ []) ∷ []) []) p_type ≡ false
another_kind = refl

-- an edge where the type has none
no_edge_type : first_misfit (graph (node 1 (codes "P" ∷ []) with_k ∷ []) (edge 1 (from_to 1 1) [] [] ∷ [])) p_type ≡ Some (elem.Edge (record { 0 = 1 }))
no_edge_type = refl

-- nodes come before edges
nodes_first : first_misfit (graph (node 7 (codes "P" ∷ []) [] ∷ []) (edge 1 (from_to 7 7) [] [] ∷ [])) p_type ≡ Some (elem.Node (number 7))
nodes_first = refl

-- {(acct :Account), (shop :Shop), (acct)-[:Pays {of INT}]->(shop), (acct)~[:Near]~(shop)}
abbrev shops : GraphType
shops = record {
  nodes = record { labels = codes "Account" ∷ []; body = [] } ∷ record { labels = codes "Shop" ∷ []; body = [] } ∷ [];
  edges = record { directed = true; first = 0; second = 1; labels = codes "Pays" ∷ []; body = record { name = codes "of"; kind = kind.One scalar.Int; required = false } ∷ [] }
      ∷ record { directed = false; first = 0; second = 1; labels = codes "Near" ∷ []; body = [] } ∷ [];
}

shops_is_in_order : is_graph_type shops ≡ true
shops_is_in_order = refl

-- node 1 is an account, node 2 a shop
abbrev town : List EdgeRecord → PropertyGraph
town edges = graph (node 1 (codes "Account" ∷ []) [] ∷ node 2 (codes "Shop" ∷ []) [] ∷ []) edges

an_account_pays_a_shop : conforms (town (edge 1 (from_to 1 2) (codes "Pays" ∷ []) [] ∷ [])) shops ≡ true
an_account_pays_a_shop = refl

a_shop_pays_none : first_misfit (town (edge 1 (from_to 1 2) (codes "Pays" ∷ []) [] ∷ edge 3 (from_to 2 1) (codes "Pays" ∷ []) [] ∷ [])) shops ≡ Some (elem.Edge (record { 0 = 3 }))
a_shop_pays_none = refl

paying_is_directed : conforms (town (edge 1 (between 1 2) (codes "Pays" ∷ []) [] ∷ [])) shops ≡ false
paying_is_directed = refl

-- the account's number is the lesser here, and the greater below
near_a_shop : conforms (town (edge 1 (between 1 2) (codes "Near" ∷ []) [] ∷ [])) shops ≡ true
near_a_shop = refl

a_shop_near : conforms (graph (node 1 (codes "Shop" ∷ []) [] ∷ node 2 (codes "Account" ∷ []) [] ∷ []) (edge 1 (between 1 2) (codes "Near" ∷ []) [] ∷ [])) shops ≡ true
a_shop_near = refl

two_accounts_are_not_near : conforms (graph (node 1 (codes "Account" ∷ []) [] ∷ node 2 (codes "Account" ∷ []) [] ∷ []) (edge 1 (between 1 2) (codes "Near" ∷ []) [] ∷ [])) shops ≡ false
two_accounts_are_not_near = refl

-- LIST<INT> holds NULL, LIST<INT NOT NULL> doesn't; an empty list is of both
a_list_with_null : is_of_kind (kind.Many scalar.Int false) (list (data_of (integer (pos 1) ∷ null ∷ []))) ≡ true
a_list_with_null = refl

no_null_among_them : is_of_kind (kind.Many scalar.Int true) (list (data_of (integer (pos 1) ∷ null ∷ []))) ≡ false
no_null_among_them = refl

an_empty_list : is_of_kind (kind.Many scalar.Int true) (list (data_of [])) ≡ true
an_empty_list = refl

another_item : is_of_kind (kind.Many scalar.Int false) (list (data_of (text (codes "1") ∷ []))) ≡ false
another_item = refl

a_scalar_is_no_list : is_of_kind (kind.Many scalar.Int false) (integer (pos 1)) ≡ false
a_scalar_is_no_list = refl

-- a set has no order
any_order : same_set (codes "a" ∷ codes "b" ∷ []) (codes "b" ∷ codes "a" ∷ []) ≡ true
any_order = refl
