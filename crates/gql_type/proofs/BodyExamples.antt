-- Examples of what the text of a graph type means, and of what is refused of it. They compute.
use Rattle.std.proofs.Common.{◌≡◌, ℕ, true, false, List, [], ◌∷◌, codes, Some, None, refl}
use Rattle.gql_values3.specs.declared.prop_kind.Scalar.TheVariants as scalar
use Rattle.gql_values3.specs.declared.prop_kind.PropKind.{PropKind}
use Rattle.gql_values3.specs.declared.prop_kind.PropKind.TheVariants as kind
use Rattle.gql_ast.specs.declared.change.Arrow.TheVariants as arrow
use Rattle.gql_ast.specs.declared.graph_type.TypeProperty.{TypeProperty}
use Rattle.gql_ast.specs.declared.graph_type.ElementBody.{ElementBody}
use Rattle.gql_ast.specs.declared.graph_type.TypeElement.{TypeElement}
use Rattle.gql_ast.specs.declared.graph_type.TypeElement.TheVariants as element
use Rattle.gql_ast.specs.declared.graph_type.TypeBody.{TypeBody}
use Rattle.gql_graph.specs.declared.graph_type.GraphType.{GraphType}
use Rattle.gql_type.specs.BodyFaults.{wrong_aliases, repeated_names}
use Rattle.gql_type.specs.BodyMeaning.{label_set, graph_type_of}

abbrev property : List ℕ → PropKind → TypeProperty
property name of = record { name = name; kind = of; required = false }

abbrev labelled : List (List ℕ) → ElementBody
labelled ls = record { labels = Some ls; properties = None }

abbrev blank : ElementBody
blank = record { labels = None; properties = None }

abbrev body : List TypeElement → TypeBody
body es = record { elements = es }

-- {(p :P {k INT NOT NULL})}
one_node_type : graph_type_of (body (element.Node (Some (codes "p")) (record { labels = Some (codes "P" ∷ []); properties = Some (record { name = codes "k"; kind = kind.One scalar.Int; required = true } ∷ []) }) ∷ []))
    ≡ record { nodes = record { labels = codes "P" ∷ []; body = record { name = codes "k"; kind = kind.One scalar.Int; required = true } ∷ [] } ∷ []; edges = [] }
one_node_type = refl

-- labels are put in order, each once
a_set_of_labels : label_set (codes "b" ∷ codes "a" ∷ codes "b" ∷ []) ≡ codes "a" ∷ codes "b" ∷ []
a_set_of_labels = refl

-- properties are put in order by name
by_name : graph_type_of (body (element.Node None (record { labels = None; properties = Some (property (codes "b") (kind.One scalar.Int) ∷ property (codes "a") (kind.One scalar.Bool) ∷ []) }) ∷ []))
    ≡ record { nodes = record { labels = []; body = record { name = codes "a"; kind = kind.One scalar.Bool; required = false } ∷ record { name = codes "b"; kind = kind.One scalar.Int; required = false } ∷ [] } ∷ []; edges = [] }
by_name = refl

-- (a), (b), and an edge type before them
abbrev with_edge : TypeElement → TypeBody
with_edge e = body (e ∷ element.Node None blank ∷ element.Node (Some (codes "a")) blank ∷ element.Node (Some (codes "b")) blank ∷ [])

abbrev meant : List (List ℕ) → GraphType
meant ls = graph_type_of (with_edge (element.Edge (codes "a") arrow.Left (labelled ls) (codes "b")))

-- (a)<-[:L]-(b) is the directed edge from b to a; node types count from 0, those without alias too
a_left_arrow : (meant (codes "L" ∷ [])).edges ≡ record { directed = true; first = 2; second = 1; labels = codes "L" ∷ []; body = [] } ∷ []
a_left_arrow = refl

undirected : (graph_type_of (with_edge (element.Edge (codes "a") arrow.Undirected blank (codes "b")))).edges ≡ record { directed = false; first = 1; second = 2; labels = []; body = [] } ∷ []
undirected = refl

-- an alias is known before its declaration, too
known_everywhere : wrong_aliases (with_edge (element.Edge (codes "a") arrow.Right blank (codes "b"))) ≡ []
known_everywhere = refl

-- {(p)-[]->(p)} uses p twice
an_unknown_alias : wrong_aliases (body (element.Edge (codes "p") arrow.Right blank (codes "p") ∷ [])) ≡ codes "p" ∷ codes "p" ∷ []
an_unknown_alias = refl

-- of two declarations the later one is at fault, and an unknown alias before it comes first
an_alias_twice : wrong_aliases (body (element.Node (Some (codes "p")) blank ∷ element.Edge (codes "q") arrow.Right blank (codes "p") ∷ element.Node (Some (codes "p")) blank ∷ [])) ≡ codes "q" ∷ codes "p" ∷ []
an_alias_twice = refl

-- one name in two elements is no fault, in one element it is
names_of_two : repeated_names (element.Node None (record { labels = None; properties = Some (property (codes "k") (kind.One scalar.Int) ∷ []) }) ∷ element.Node None (record { labels = None; properties = Some (property (codes "k") (kind.One scalar.Int) ∷ []) }) ∷ []) ≡ []
names_of_two = refl

a_name_twice : repeated_names (element.Node None (record { labels = None; properties = Some (property (codes "k") (kind.One scalar.Int) ∷ property (codes "k") (kind.One scalar.Text) ∷ []) }) ∷ []) ≡ codes "k" ∷ []
a_name_twice = refl
