-- Examples of DELETE, computed: each was worked out by hand from the rules.
use Rattle.std.proofs.Common.{◌≡◌, ℕ, List, [], ◌∷◌, codes, Result, Ok, Err, refl}
use Rattle.gql_values3.specs.Datum.{null, node, edge}
use Rattle.gql_values3.specs.PropertyGraph.{PropertyGraph}
use Rattle.gql_values3.specs.declared.element.Ends.{Ends}
use Rattle.gql_values3.specs.declared.element.Ends.TheVariants.{Directed, Undirected}
use Rattle.gql_values3.specs.declared.records.NodeRecord.{NodeRecord}
use Rattle.gql_values3.specs.declared.records.EdgeRecord.{EdgeRecord}
use Rattle.gql_values3.specs.declared.table.ColumnKind.TheVariants as kind
use Rattle.gql_ast.specs.ClauseColumns.{ColumnList}
use Rattle.gql_ast.specs.declared.change.Detachment.{Detachment}
use Rattle.gql_ast.specs.declared.change.Detachment.TheVariants.{Detach, NoDetach}
use Rattle.gql_ast.specs.declared.refusal.Refusal.{Refusal}
use Rattle.gql_ast.specs.declared.refusal.Refusal.TheVariants as refusal
use Rattle.gql_eval.specs.RowLists.{RowList}
use Rattle.gql_change.specs.Changing.{Changed, changed_by_deletion}

abbrev plain_node : ℕ → NodeRecord
plain_node n = record { number = record { 0 = n }; labels = []; properties = [] }

abbrev plain_edge : ℕ → Ends → EdgeRecord
plain_edge n ends = record { number = record { 0 = n }; ends = ends; labels = []; properties = [] }

abbrev to : ℕ → ℕ → Ends
to s t = Directed (record { 0 = s }) (record { 0 = t })

abbrev between : ℕ → ℕ → Ends
between l h = Undirected (record { 0 = l }) (record { 0 = h })

abbrev graph_of : List NodeRecord → List EdgeRecord → PropertyGraph
graph_of nodes edges = record { nodes = nodes; edges = edges; next_node = 4; next_edge = 6 }

abbrev all_nodes : List NodeRecord
all_nodes = plain_node 1 ∷ plain_node 2 ∷ plain_node 3 ∷ []

-- 1→2 (1), 2→3 (2), 3→1 (3), 2~3 (4) and a loop on 3 (5)
abbrev triangle : PropertyGraph
triangle = graph_of all_nodes (plain_edge 1 (to 1 2) ∷ plain_edge 2 (to 2 3) ∷ plain_edge 3 (to 3 1) ∷ plain_edge 4 (between 2 3) ∷ plain_edge 5 (to 3 3) ∷ [])

abbrev columns : ColumnList
columns = (codes "x", kind.Node) ∷ (codes "e", kind.Edge) ∷ []

abbrev after : Detachment → List (List ℕ) → RowList → Result Changed Refusal
after d names rows = changed_by_deletion triangle [] columns rows d names

abbrev x_alone : List (List ℕ)
x_alone = codes "x" ∷ []

abbrev both : List (List ℕ)
both = codes "x" ∷ codes "e" ∷ []

abbrev left_on_node : ℕ → ℕ → Result Changed Refusal
left_on_node n e = Err (refusal.Edges (record { 0 = n }) (record { 0 = e }))

abbrev three : RowList
three = (node 3 ∷ null ∷ []) ∷ []

-- the least edge on the node refuses it
the_least_edge_refuses : after NoDetach x_alone three ≡ left_on_node 3 2
the_least_edge_refuses = refl

-- an edge that is named doesn't count, also where another row names it; the next one refuses
abbrev three_with_two : RowList
three_with_two = (node 3 ∷ edge 2 ∷ []) ∷ []

a_named_edge_is_not_left : after NoDetach both three_with_two ≡ left_on_node 3 3
a_named_edge_is_not_left = refl

-- with all its edges, the loop too, it goes; a row that names an edge twice changes nothing
abbrev three_with_all : RowList
three_with_all = (node 3 ∷ edge 2 ∷ []) ∷ (null ∷ edge 3 ∷ []) ∷ (node 3 ∷ edge 4 ∷ []) ∷ (null ∷ edge 5 ∷ []) ∷ (null ∷ edge 5 ∷ []) ∷ []

abbrev without_three : PropertyGraph
without_three = graph_of (plain_node 1 ∷ plain_node 2 ∷ []) (plain_edge 1 (to 1 2) ∷ [])

a_node_goes_with_its_edges : after NoDetach both three_with_all ≡ Ok (without_three, three_with_all)
a_node_goes_with_its_edges = refl

-- DETACH takes them without their names, and no others
detach_takes_the_edges : after Detach x_alone three ≡ Ok (without_three, three)
detach_takes_the_edges = refl

-- an edge alone goes
abbrev edge_four : RowList
edge_four = (null ∷ edge 4 ∷ []) ∷ []

an_edge_goes : after NoDetach both edge_four ≡ Ok (graph_of all_nodes (plain_edge 1 (to 1 2) ∷ plain_edge 2 (to 2 3) ∷ plain_edge 3 (to 3 1) ∷ plain_edge 5 (to 3 3) ∷ []), edge_four)
an_edge_goes = refl

-- NULL, an element that is no longer there, and a name without a column are skipped
abbrev nothing_there : RowList
nothing_there = (null ∷ null ∷ []) ∷ (node 9 ∷ edge 9 ∷ []) ∷ []

nothing_goes : after NoDetach (codes "y" ∷ both) nothing_there ≡ Ok (triangle, nothing_there)
nothing_goes = refl

-- of two nodes with edges left the least is told, whichever row names it first
abbrev three_and_two : RowList
three_and_two = (node 3 ∷ null ∷ []) ∷ (node 2 ∷ edge 1 ∷ []) ∷ []

the_least_node_refuses : after NoDetach both three_and_two ≡ left_on_node 2 2
the_least_node_refuses = refl

-- all nodes at once, with DETACH
abbrev everything : RowList
everything = (node 2 ∷ null ∷ []) ∷ (node 3 ∷ null ∷ []) ∷ (node 1 ∷ null ∷ []) ∷ []

all_goes : after Detach x_alone everything ≡ Ok (graph_of [] [], everything)
all_goes = refl
