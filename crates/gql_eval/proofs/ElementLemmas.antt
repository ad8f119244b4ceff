-- An element with a property is in the graph.
use Rattle.std.proofs.Common.{◌≡◌, true, List, ℕ, Option, Some, None, refl}
use Rattle.std.specs.Prelude.{Ok, find, option_map, is_some}
use Rattle.gql_values3.specs.Datum.{Datum}
use Rattle.gql_values3.specs.Texts.{same_text}
use Rattle.gql_values3.specs.PropertyGraph.{PropertyGraph}
use Rattle.gql_values3.specs.Lookup.{node_of, edge_of, property_of, properties_in, has_element}
use Rattle.gql_values3.specs.declared.records.NodeRecord.{NodeRecord}
use Rattle.gql_values3.specs.declared.records.EdgeRecord.{EdgeRecord}
use Rattle.gql_values3.specs.declared.element.Elem.{Elem}
use Rattle.gql_values3.specs.declared.element.Elem.TheVariants as elem
use Rattle.gql_ast.specs.ElementTests.{undeleted}

-- the value of a name among properties
abbrev named : List (List ℕ × Datum) → List ℕ → Option Datum
named ps p = option_map (λ (q : List ℕ × Datum). q.1) (find (λ q. same_text p q.0) ps)

found_among : {R : Type 0} (ps : R → List (List ℕ × Datum)) (o : Option R) (p : List ℕ) (d : Datum)
    → named (properties_in (option_map ps o)) p ≡ Some d → is_some o ≡ true
found_among ps None p d h = absurd (cc)
found_among ps (Some r) p d h = refl

there : (g : PropertyGraph) (e : Elem) (p : List ℕ) (d : Datum) → property_of g e p ≡ Some d → has_element g e ≡ true
there g (elem.Node n) p d h = found_among (λ (r : NodeRecord). r.properties) (node_of g n) p d h
there g (elem.Edge n) p d h = found_among (λ (r : EdgeRecord). r.properties) (edge_of g n) p d h

pub there_with_property : (g : PropertyGraph) (e : Elem) (p : List ℕ) (d : Datum) → property_of g e p ≡ Some d → undeleted g e ≡ Ok e
there_with_property g e p d h = rw (there g e p d h) refl
