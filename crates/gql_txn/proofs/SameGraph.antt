-- The test whether two graphs are the same decides it.
use Rattle.std.proofs.Common.{◌≡◌, ℕ, Bool, true, ◌&&◌, List, eqb, refl, sym, ap, ◌∙◌}
use Rattle.std.specs.Bool.{Decides}
use Rattle.std.specs.Ordering.{is_eq}
use Rattle.std.specs.declared.cmp.Ordering.{Ordering}
use Rattle.std.specs.declared.cmp.Ordering.TheVariants.{Less, Equal, Greater}
use Rattle.std.specs.Cmp.Lexicographic.{pointwise_decides}
use Rattle.std.proofs.lemmas.Bool.{and_from, and_parts, eqb-true, eq-eqb}
use Rattle.std.proofs.lemmas.Cmp.{tied_itself}
use Rattle.std.proofs.lemmas.Slice.Eq.{bytes_eq-Decides}
use Rattle.gql_values3.specs.Datum.{Datum}
use Rattle.gql_values3.specs.ValueOrder.{datum_cmp}
use Rattle.gql_values3.specs.Texts.{same_text}
use Rattle.gql_values3.specs.PropertyGraph.{PropertyGraph}
use Rattle.gql_values3.specs.declared.element.Ends.{Ends}
use Rattle.gql_values3.specs.declared.element.Ends.TheVariants.{Directed, Undirected}
use Rattle.gql_values3.specs.declared.records.NodeRecord.{NodeRecord}
use Rattle.gql_values3.specs.declared.records.EdgeRecord.{EdgeRecord}
use Rattle.gql_values3.proofs.OrderLaws.{datum_cmp_total, exact_datum}
use Rattle.gql_graph.specs.Edits.{same_ends}
use Rattle.gql_txn.specs.Machinery.Same.{same_texts, same_property, same_properties, same_node, same_edge, same_nodes, same_edges, same_numbers, same_graph}

-- two tests decide what both of their facts make
module _ (b c : Bool) (P Q R : Type 0) where
  pub both_decide : Decides b P → Decides c Q → (P → Q → R) → (R → P) → (R → Q) → Decides (b && c) R
  both_decide p q join left right = (λ h. let parts = and_parts b c h in join (p.0 parts.0) (q.0 parts.1), λ r. and_from b c (p.1 (left r)) (q.1 (right r)))

number_decides : (m n : ℕ) → Decides (eqb m n) (m ≡ n)
number_decides m n = (eqb-true m n, eq-eqb m n)

texts_decide : (xs ys : List (List ℕ)) → Decides (same_texts xs ys) (xs ≡ ys)
texts_decide xs ys = pointwise_decides bytes_eq-Decides xs ys

equal_if : (o : Ordering) → is_eq o ≡ true → o ≡ Equal
equal_if Less h = absurd (cc)
equal_if Equal h = refl
equal_if Greater h = absurd (cc)

value_decides : (x y : Datum) → Decides (is_eq (datum_cmp x y)) (x ≡ y)
value_decides x y = (λ h. exact_datum x y (equal_if (datum_cmp x y) h), λ e. ap (λ (z : Datum). is_eq (datum_cmp x z)) (sym e) ∙ ap is_eq (tied_itself datum_cmp_total x))

property_decides : (p q : List ℕ × Datum) → Decides (same_property p q) (p ≡ q)
property_decides p q =
    both_decide (same_text p.0 q.0) (is_eq (datum_cmp p.1 q.1)) (p.0 ≡ q.0) (p.1 ≡ q.1) (p ≡ q)
    (bytes_eq-Decides p.0 q.0) (value_decides p.1 q.1) (λ a b i. (a i, b i)) (ap (λ (x : List ℕ × Datum). x.0)) (ap (λ (x : List ℕ × Datum). x.1))

properties_decide : (ps qs : List (List ℕ × Datum)) → Decides (same_properties ps qs) (ps ≡ qs)
properties_decide ps qs = pointwise_decides property_decides ps qs

-- what labels and properties are
abbrev SameContent : List (List ℕ) → List (List ℕ × Datum) → List (List ℕ) → List (List ℕ × Datum) → Type 0
SameContent ls ps ms qs = (ls ≡ ms) × (ps ≡ qs)

content_decides : (ls : List (List ℕ)) (ps : List (List ℕ × Datum)) (ms : List (List ℕ)) (qs : List (List ℕ × Datum)) → Decides (same_texts ls ms && same_properties ps qs) (SameContent ls ps ms qs)
content_decides ls ps ms qs = both_decide (same_texts ls ms) (same_properties ps qs) (ls ≡ ms) (ps ≡ qs) (SameContent ls ps ms qs) (texts_decide ls ms) (properties_decide ps qs) (λ a b. (a, b)) (λ r. r.0) (λ r. r.1)

pub node_decides : (a b : NodeRecord) → Decides (same_node a b) (a ≡ b)
node_decides a b =
    both_decide (eqb a.number.0 b.number.0) (same_texts a.labels b.labels && same_properties a.properties b.properties) (a.number.0 ≡ b.number.0) (SameContent a.labels a.properties b.labels b.properties) (a ≡ b)
    (number_decides a.number.0 b.number.0) (content_decides a.labels a.properties b.labels b.properties)
    (λ n c i. record { number = record { 0 = n i }; labels = c.0 i; properties = c.1 i })
    (ap (λ (r : NodeRecord). r.number.0)) (λ e. (ap (λ (r : NodeRecord). r.labels) e, ap (λ (r : NodeRecord). r.properties) e))

abbrev first_end : Ends → ℕ
first_end (Directed s t) = s.0
first_end (Undirected l h) = l.0

abbrev second_end : Ends → ℕ
second_end (Directed s t) = t.0
second_end (Undirected l h) = h.0

ends_decide : (x y : Ends) → Decides (same_ends x y) (x ≡ y)
ends_decide (Directed a b) (Directed c d) =
    both_decide (eqb a.0 c.0) (eqb b.0 d.0) (a.0 ≡ c.0) (b.0 ≡ d.0) (Directed a b ≡ Directed c d)
    (number_decides a.0 c.0) (number_decides b.0 d.0) (λ p q i. Directed (record { 0 = p i }) (record { 0 = q i })) (ap first_end) (ap second_end)
ends_decide (Undirected a b) (Undirected c d) =
    both_decide (eqb a.0 c.0) (eqb b.0 d.0) (a.0 ≡ c.0) (b.0 ≡ d.0) (Undirected a b ≡ Undirected c d)
    (number_decides a.0 c.0) (number_decides b.0 d.0) (λ p q i. Undirected (record { 0 = p i }) (record { 0 = q i })) (ap first_end) (ap second_end)
ends_decide (Directed a b) (Undirected c d) = (λ h. absurd (cc), λ e. absurd (cc))
ends_decide (Undirected a b) (Directed c d) = (λ h. absurd (cc), λ e. absurd (cc))

abbrev SameRest : EdgeRecord → EdgeRecord → Type 0
SameRest a b = (a.ends ≡ b.ends) × SameContent a.labels a.properties b.labels b.properties

rest_decides : (a b : EdgeRecord) → Decides (same_ends a.ends b.ends && (same_texts a.labels b.labels && same_properties a.properties b.properties)) (SameRest a b)
rest_decides a b =
    both_decide (same_ends a.ends b.ends) (same_texts a.labels b.labels && same_properties a.properties b.properties) (a.ends ≡ b.ends) (SameContent a.labels a.properties b.labels b.properties) (SameRest a b)
    (ends_decide a.ends b.ends) (content_decides a.labels a.properties b.labels b.properties) (λ e c. (e, c)) (λ r. r.0) (λ r. r.1)

pub edge_decides : (a b : EdgeRecord) → Decides (same_edge a b) (a ≡ b)
edge_decides a b =
    both_decide (eqb a.number.0 b.number.0) (same_ends a.ends b.ends && (same_texts a.labels b.labels && same_properties a.properties b.properties)) (a.number.0 ≡ b.number.0) (SameRest a b) (a ≡ b)
    (number_decides a.number.0 b.number.0) (rest_decides a b)
    (λ n r i. record { number = record { 0 = n i }; ends = r.0 i; labels = r.1.0 i; properties = r.1.1 i })
    (ap (λ (r : EdgeRecord). r.number.0)) (λ e. (ap (λ (r : EdgeRecord). r.ends) e, (ap (λ (r : EdgeRecord). r.labels) e, ap (λ (r : EdgeRecord). r.properties) e)))

abbrev pub SameNumbers : PropertyGraph → PropertyGraph → Type 0
SameNumbers g h = (g.next_node ≡ h.next_node) × (g.next_edge ≡ h.next_edge)

pub numbers_decide : (g h : PropertyGraph) → Decides (same_numbers g h) (SameNumbers g h)
numbers_decide g h =
    both_decide (eqb g.next_node h.next_node) (eqb g.next_edge h.next_edge) (g.next_node ≡ h.next_node) (g.next_edge ≡ h.next_edge) (SameNumbers g h)
    (number_decides g.next_node h.next_node) (number_decides g.next_edge h.next_edge) (λ n e. (n, e)) (λ r. r.0) (λ r. r.1)

abbrev SameElements : PropertyGraph → PropertyGraph → Type 0
SameElements g h = (g.nodes ≡ h.nodes) × (g.edges ≡ h.edges)

pub graph_decides : (g h : PropertyGraph) → Decides (same_graph g h) (g ≡ h)
graph_decides g h =
    both_decide (same_numbers g h) (same_nodes g.nodes h.nodes && same_edges g.edges h.edges) (SameNumbers g h) (SameElements g h) (g ≡ h)
    (numbers_decide g h)
    (both_decide (same_nodes g.nodes h.nodes) (same_edges g.edges h.edges) (g.nodes ≡ h.nodes) (g.edges ≡ h.edges) (SameElements g h)
    (pointwise_decides node_decides g.nodes h.nodes) (pointwise_decides edge_decides g.edges h.edges) (λ n e. (n, e)) (λ r. r.0) (λ r. r.1))
    (λ n e i. record { nodes = e.0 i; edges = e.1 i; next_node = n.0 i; next_edge = n.1 i })
    (λ e. (ap (λ (x : PropertyGraph). x.next_node) e, ap (λ (x : PropertyGraph). x.next_edge) e))
    (λ e. (ap (λ (x : PropertyGraph). x.nodes) e, ap (λ (x : PropertyGraph). x.edges) e))
