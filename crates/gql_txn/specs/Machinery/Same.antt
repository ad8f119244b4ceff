-- Whether two graphs are the same: the same elements with the same content, and the same next numbers.
use Rattle.std.specs.Prelude.{ℕ, Bool, ◌==◌, ◌&&◌, List}
use Rattle.std.specs.Ordering.{is_eq}
use Rattle.std.specs.Cmp.Lexicographic.{pointwise}
use Rattle.gql_values3.specs.Datum.{Datum}
use Rattle.gql_values3.specs.ValueOrder.{datum_cmp}
use Rattle.gql_values3.specs.Texts.{same_text}
use Rattle.gql_values3.specs.PropertyGraph.{PropertyGraph}
use Rattle.gql_values3.specs.declared.records.NodeRecord.{NodeRecord}
use Rattle.gql_values3.specs.declared.records.EdgeRecord.{EdgeRecord}
use Rattle.gql_graph.specs.Edits.{same_ends}

-- the same texts in the same order
abbrev pub same_texts : List (List ℕ) → List (List ℕ) → Bool
same_texts some others = pointwise same_text some others

-- the same name and the same value
abbrev pub same_property : List ℕ × Datum → List ℕ × Datum → Bool
same_property p q = same_text p.0 q.0 && is_eq (datum_cmp p.1 q.1)

-- the same properties in the same order
abbrev pub same_properties : List (List ℕ × Datum) → List (List ℕ × Datum) → Bool
same_properties some others = pointwise same_property some others

-- the same number, labels and properties
abbrev pub same_node : NodeRecord → NodeRecord → Bool
same_node a b = a.number.0 == b.number.0 && (same_texts a.labels b.labels && same_properties a.properties b.properties)

-- and the same ends
abbrev pub same_edge : EdgeRecord → EdgeRecord → Bool
same_edge a b = a.number.0 == b.number.0 && (same_ends a.ends b.ends && (same_texts a.labels b.labels && same_properties a.properties b.properties))

abbrev pub same_nodes : List NodeRecord → List NodeRecord → Bool
same_nodes some others = pointwise same_node some others

abbrev pub same_edges : List EdgeRecord → List EdgeRecord → Bool
same_edges some others = pointwise same_edge some others

-- the next node and the next edge take the same numbers
abbrev pub same_numbers : PropertyGraph → PropertyGraph → Bool
same_numbers g h = g.next_node == h.next_node && g.next_edge == h.next_edge

abbrev pub same_graph : PropertyGraph → PropertyGraph → Bool
same_graph g h = same_numbers g h && (same_nodes g.nodes h.nodes && same_edges g.edges h.edges)
