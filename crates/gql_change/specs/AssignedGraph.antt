-- The graph behind SET or REMOVE: each element with what is done to it.
use Rattle.std.specs.Prelude.{ℕ, List, [], ◌∷◌, map, filter}
use Rattle.gql_values3.specs.Meaning.{datum_of}
use Rattle.gql_values3.specs.PropertyGraph.{PropertyGraph}
use Rattle.gql_values3.specs.declared.element.Elem.{Elem}
use Rattle.gql_values3.specs.declared.element.Elem.TheVariants as elem
use Rattle.gql_values3.specs.declared.records.NodeRecord.{NodeRecord}
use Rattle.gql_values3.specs.declared.records.EdgeRecord.{EdgeRecord}
use Rattle.gql_change.specs.Storing.{PropertyList, with_property, put_label, without_label}
use Rattle.gql_change.specs.Conflicts.{same_elem}
use Rattle.gql_change.specs.declared.assignment.Act.{Act}
use Rattle.gql_change.specs.declared.assignment.Act.TheVariants as act
use Rattle.gql_change.specs.declared.assignment.Assignment.{Assignment}

-- what is done to an element, in order
abbrev pub acts_on : Elem → List Assignment → List Act
acts_on e given = map (λ (a : Assignment). a.act) (filter (λ (a : Assignment). same_elem a.target e) given)

-- the properties behind acts, one after the other; an act on a label leaves them
abbrev pub properties_after : List Act → PropertyList → PropertyList
properties_after [] ps = ps
properties_after (act.Property x a ∷ more) ps = properties_after more (with_property x (datum_of a) ps)
properties_after (act.Label l ∷ more) ps = properties_after more ps
properties_after (act.NoLabel l ∷ more) ps = properties_after more ps

-- the labels behind acts, one after the other; an act on a property leaves them
abbrev pub labels_after : List Act → List (List ℕ) → List (List ℕ)
labels_after [] ls = ls
labels_after (act.Property x a ∷ more) ls = labels_after more ls
labels_after (act.Label l ∷ more) ls = labels_after more (put_label l ls)
labels_after (act.NoLabel l ∷ more) ls = labels_after more (without_label l ls)

-- a node with what is done to it; its number stays
abbrev pub node_after : List Act → NodeRecord → NodeRecord
node_after acts r = record { number = r.number; labels = labels_after acts r.labels; properties = properties_after acts r.properties }

-- an edge with what is done to it; its number and its ends stay
abbrev pub edge_after : List Act → EdgeRecord → EdgeRecord
edge_after acts r = record { number = r.number; ends = r.ends; labels = labels_after acts r.labels; properties = properties_after acts r.properties }

-- the graph with what is done to each of its elements; none comes or goes
abbrev pub assigned : List Assignment → PropertyGraph → PropertyGraph
assigned given g = record {
  nodes = map (λ (r : NodeRecord). node_after (acts_on (elem.Node r.number) given) r) g.nodes;
  edges = map (λ (r : EdgeRecord). edge_after (acts_on (elem.Edge r.number) given) r) g.edges;
  next_node = g.next_node;
  next_edge = g.next_edge;
}
