-- Node types, edge types and graph types: what is read was spelled, and what was spelled is read.
use Rattle.std.proofs.Common.{◌≡◌, ℕ, ◌<◌, ◌^◌, Bool, not, cond, eqb, List, [], ◌∷◌, ◌++◌, length, Option, Some, None, Result, Ok, Err, refl, sym, ap, subst, ◌∙◌, append_assoc}
use Rattle.std.proofs.Math.Bool.{not-not}
use Rattle.std.specs.Prelude.{IfOk, MatchResult}
use Rattle.std.specs.Int.{w64, to_be_bytes}
use Rattle.std.specs.List.{flat_map}
use Rattle.std.proofs.lemmas.Bool.{eqb-true}
use Rattle.std.proofs.lemmas.List.{append-nil, nil_from_length}
use Rattle.gql_graph.specs.declared.graph_type.PropType.{PropType}
use Rattle.gql_graph.specs.declared.graph_type.NodeType.{NodeType}
use Rattle.gql_graph.specs.declared.graph_type.EdgeType.{EdgeType}
use Rattle.gql_graph.specs.declared.graph_type.GraphType.{GraphType}
use Rattle.gql_fields.specs.declared.misread.Misread.{Misread}
use Rattle.gql_fields.specs.declared.misread.Misread.TheVariants as misreads
use Rattle.gql_fields.specs.Spelling.{labels_spelled, flag_spelled}
use Rattle.gql_fields.specs.Machinery.Reading.{◌>>=◌, Gives, number_at, flag_at, counted_at, labels_at}
use Rattle.gql_fields.proofs.FieldLemmas.{IsBytes, Takes, Takes-then, bind_some, when_some, some_is, wide64, number_takes, number_again}
use Rattle.gql_fields.proofs.ItemLemmas.{IsSpelled, IsReadAgain, counted_spelled, counted_takes, counted_again}
use Rattle.gql_fields.proofs.LabelLemmas.{labels_take, labels_again}
use Rattle.gql_fields.proofs.ValueLemmas.{flag_takes, flag_again}
use Rattle.gql_typecode.specs.TypeSpelling.{body_spelled, node_type_spelled, edge_type_spelled, graph_type_spelled}
use Rattle.gql_typecode.specs.KeptTypes.{IsKeptNodeType, IsKeptEdgeType, IsKeptType}
use Rattle.gql_typecode.specs.declared.type_ends.TypeEnds.{TypeEnds}
use Rattle.gql_typecode.specs.Machinery.TypeReading.{body_at, node_type_at, ends_at, edge_type_between, edge_type_at, graph_type_at, whole_type_at}
use Rattle.gql_typecode.proofs.KindLemmas.{found_is}
use Rattle.gql_typecode.proofs.BodyLemmas.{body_takes, body_again}

-- ---- node types

abbrev node_with : List (List ℕ) → List PropType → NodeType
node_with labels body = record { labels = labels; body = body }

-- a node type that is read was spelled
pub node_type_takes : IsSpelled node_type_spelled IsKeptNodeType node_type_at
unfolding node_type_at
node_type_takes bytes x fits e =
    let a = bind_some (labels_at bytes) (λ labels. body_at labels.1 >>= λ body. Some (node_with labels.0 body.0, body.1)) x e in
    let b = bind_some (body_at a.0.1) (λ body. Some (node_with a.0.0 body.0, body.1)) x a.2 in
    let labels = labels_take bytes a.0 fits a.1 in
    let body = body_takes a.0.1 b.0 labels.0.rest_fits b.1 in
    let whole = Takes-then bytes (labels_spelled a.0.0) a.0.1 (body_spelled b.0.0) b.0.1 labels.0 body.0 in
    found_is (λ (y : NodeType × List ℕ). Takes bytes (node_type_spelled y.0) y.1 × IsKeptNodeType y.0) (node_with a.0.0 b.0.0) b.0.1 x b.2 (whole, (labels.1, body.1))

-- one that was spelled is read
pub node_type_again : IsReadAgain node_type_spelled IsKeptNodeType node_type_at
unfolding node_type_at
node_type_again t rest kept =
    ap node_type_at (append_assoc (labels_spelled t.labels) (body_spelled t.body) rest)
    ∙ rw (labels_again t.labels (body_spelled t.body ++ rest) kept.0, body_again t.body rest kept.1) refl

-- ---- the ends of an edge type

abbrev ends_spelled : TypeEnds → List ℕ
ends_spelled e = flag_spelled (not e.directed) ∷ (to_be_bytes w64 e.first ++ to_be_bytes w64 e.second)

abbrev AreKeptEnds : TypeEnds → Type 0
AreKeptEnds e = (e.first < 2 ^ 64) × (e.second < 2 ^ 64)

abbrev ends_with : Bool → ℕ → ℕ → TypeEnds
ends_with undirected first second = record { directed = not undirected; first = first; second = second }

-- ends that are read were spelled
ends_take : IsSpelled ends_spelled AreKeptEnds ends_at
unfolding ends_at
ends_take bytes x fits e =
    let a = bind_some (flag_at bytes) (λ undirected. number_at w64 undirected.1 >>= λ first. number_at w64 first.1 >>= λ second. Some (ends_with undirected.0 first.0 second.0, second.1)) x e in
    let b = bind_some (number_at w64 a.0.1) (λ first. number_at w64 first.1 >>= λ second. Some (ends_with a.0.0 first.0 second.0, second.1)) x a.2 in
    let d = bind_some (number_at w64 b.0.1) (λ second. Some (ends_with a.0.0 b.0.0 second.0, second.1)) x b.2 in
    let flag = flag_takes bytes a.0 fits a.1 in
    let first = number_takes w64 (2 ^ 64) wide64 a.0.1 b.0.0 b.0.1 flag.rest_fits b.1 in
    let second = number_takes w64 (2 ^ 64) wide64 b.0.1 d.0.0 d.0.1 first.0.rest_fits d.1 in
    let places = Takes-then a.0.1 (to_be_bytes w64 b.0.0) b.0.1 (to_be_bytes w64 d.0.0) d.0.1 first.0 second.0 in
    let all = Takes-then bytes (flag_spelled a.0.0 ∷ []) a.0.1 (to_be_bytes w64 b.0.0 ++ to_be_bytes w64 d.0.0) d.0.1 flag places in
    let whole : Takes bytes (ends_spelled (ends_with a.0.0 b.0.0 d.0.0)) d.0.1 = subst (λ (u : Bool). Takes bytes (flag_spelled u ∷ (to_be_bytes w64 b.0.0 ++ to_be_bytes w64 d.0.0)) d.0.1) (sym (not-not a.0.0)) all in
    found_is (λ (y : TypeEnds × List ℕ). Takes bytes (ends_spelled y.0) y.1 × AreKeptEnds y.0) (ends_with a.0.0 b.0.0 d.0.0) d.0.1 x d.2 (whole, (first.1, second.1))

-- those that were spelled are read
ends_again : IsReadAgain ends_spelled AreKeptEnds ends_at
unfolding ends_at
ends_again t rest kept =
    let behind : List ℕ = to_be_bytes w64 t.second ++ rest in
    ap (λ (y : List ℕ). ends_at (flag_spelled (not t.directed) ∷ y)) (append_assoc (to_be_bytes w64 t.first) (to_be_bytes w64 t.second) rest)
    ∙ rw (flag_again (not t.directed) (to_be_bytes w64 t.first ++ behind), number_again w64 (2 ^ 64) wide64 t.first behind kept.0, number_again w64 (2 ^ 64) wide64 t.second rest kept.1, not-not t.directed) refl

-- ---- edge types

abbrev ends_of : EdgeType → TypeEnds
ends_of t = record { directed = t.directed; first = t.first; second = t.second }

-- an edge type that is read was spelled
pub edge_type_takes : IsSpelled edge_type_spelled IsKeptEdgeType edge_type_at
unfolding edge_type_at
edge_type_takes bytes x fits e =
    let a = bind_some (ends_at bytes) (λ ends. labels_at ends.1 >>= λ labels. body_at labels.1 >>= λ body. Some (edge_type_between ends.0 labels.0 body.0, body.1)) x e in
    let b = bind_some (labels_at a.0.1) (λ labels. body_at labels.1 >>= λ body. Some (edge_type_between a.0.0 labels.0 body.0, body.1)) x a.2 in
    let d = bind_some (body_at b.0.1) (λ body. Some (edge_type_between a.0.0 b.0.0 body.0, body.1)) x b.2 in
    let ends = ends_take bytes a.0 fits a.1 in
    let labels = labels_take a.0.1 b.0 ends.0.rest_fits b.1 in
    let body = body_takes b.0.1 d.0 labels.0.rest_fits d.1 in
    let two = Takes-then bytes (ends_spelled a.0.0) a.0.1 (labels_spelled b.0.0) b.0.1 ends.0 labels.0 in
    let whole = Takes-then bytes (ends_spelled a.0.0 ++ labels_spelled b.0.0) b.0.1 (body_spelled d.0.0) d.0.1 two body.0 in
    let kept : IsKeptEdgeType (edge_type_between a.0.0 b.0.0 d.0.0) = record { first = ends.1.0; second = ends.1.1; labels = labels.1; body = body.1 } in
    found_is (λ (y : EdgeType × List ℕ). Takes bytes (edge_type_spelled y.0) y.1 × IsKeptEdgeType y.0) (edge_type_between a.0.0 b.0.0 d.0.0) d.0.1 x d.2 (whole, kept)

-- one that was spelled is read
pub edge_type_again : IsReadAgain edge_type_spelled IsKeptEdgeType edge_type_at
unfolding edge_type_at
edge_type_again t rest kept =
    let behind : List ℕ = body_spelled t.body ++ rest in
    let regrouped : edge_type_spelled t ++ rest ≡ ends_spelled (ends_of t) ++ (labels_spelled t.labels ++ behind) =
    append_assoc (ends_spelled (ends_of t) ++ labels_spelled t.labels) (body_spelled t.body) rest ∙ append_assoc (ends_spelled (ends_of t)) (labels_spelled t.labels) behind in
    ap edge_type_at regrouped
    ∙ rw (ends_again (ends_of t) (labels_spelled t.labels ++ behind) (kept.first, kept.second), labels_again t.labels behind kept.labels, body_again t.body rest kept.body) refl

-- ---- graph types

abbrev type_with : List NodeType → List EdgeType → GraphType
type_with nodes edges = record { nodes = nodes; edges = edges }

-- a graph type that is read was spelled
pub graph_type_takes : IsSpelled graph_type_spelled IsKeptType graph_type_at
unfolding graph_type_at
graph_type_takes bytes x fits e =
    let a = bind_some (counted_at node_type_at bytes) (λ nodes. counted_at edge_type_at nodes.1 >>= λ edges. Some (type_with nodes.0 edges.0, edges.1)) x e in
    let b = bind_some (counted_at edge_type_at a.0.1) (λ edges. Some (type_with a.0.0 edges.0, edges.1)) x a.2 in
    let nodes = counted_takes node_type_spelled IsKeptNodeType node_type_at node_type_takes bytes a.0 fits a.1 in
    let edges = counted_takes edge_type_spelled IsKeptEdgeType edge_type_at edge_type_takes a.0.1 b.0 nodes.0.rest_fits b.1 in
    let front : List ℕ = counted_spelled node_type_spelled a.0.0 in
    let both = Takes-then bytes front a.0.1 (counted_spelled edge_type_spelled b.0.0) b.0.1 nodes.0 edges.0 in
    let whole : Takes bytes (graph_type_spelled (type_with a.0.0 b.0.0)) b.0.1 = subst (λ (y : List ℕ). Takes bytes y b.0.1) (sym (append_assoc front (to_be_bytes w64 (length b.0.0)) (flat_map edge_type_spelled b.0.0))) both in
    let kept : IsKeptType (type_with a.0.0 b.0.0) = record { few_nodes = nodes.1.0; few_edges = edges.1.0; nodes = nodes.1.1; edges = edges.1.1 } in
    found_is (λ (y : GraphType × List ℕ). Takes bytes (graph_type_spelled y.0) y.1 × IsKeptType y.0) (type_with a.0.0 b.0.0) b.0.1 x b.2 (whole, kept)

-- one that was spelled is read
pub graph_type_again : IsReadAgain graph_type_spelled IsKeptType graph_type_at
unfolding graph_type_at
graph_type_again t rest kept =
    let front : List ℕ = counted_spelled node_type_spelled t.nodes in
    let back : List ℕ = counted_spelled edge_type_spelled t.edges in
    let regrouped : graph_type_spelled t ++ rest ≡ front ++ (back ++ rest) =
    ap (λ (y : List ℕ). y ++ rest) (append_assoc front (to_be_bytes w64 (length t.edges)) (flat_map edge_type_spelled t.edges)) ∙ append_assoc front back rest in
    ap graph_type_at regrouped
    ∙ rw (counted_again node_type_spelled IsKeptNodeType node_type_at node_type_again t.nodes (back ++ rest) (kept.few_nodes, kept.nodes), counted_again edge_type_spelled IsKeptEdgeType edge_type_at edge_type_again t.edges rest (kept.few_edges, kept.edges)) refl

-- a graph type that is read to the last byte was spelled by exactly these bytes
pub whole_type_takes : (bytes : List ℕ) (t : GraphType) → IsBytes bytes → whole_type_at bytes ≡ Some t → IsKeptType t × (bytes ≡ graph_type_spelled t)
unfolding whole_type_at
whole_type_takes bytes t fits e =
    let a = bind_some (graph_type_at bytes) (λ found. cond (eqb (length found.1) 0) (Some found.0) None) t e in
    let g = when_some (eqb (length a.0.1) 0) a.0.0 t a.2 in
    let found = graph_type_takes bytes a.0 fits a.1 in
    let nothing : a.0.1 ≡ [] = nil_from_length a.0.1 (eqb-true _ _ g.0) in
    let is : bytes ≡ graph_type_spelled a.0.0 = found.0.parts ∙ ap (λ (y : List ℕ). graph_type_spelled a.0.0 ++ y) nothing ∙ append-nil (graph_type_spelled a.0.0) in
    subst (λ (u : GraphType). IsKeptType u × (bytes ≡ graph_type_spelled u)) g.1 (found.1, is)

-- one that was spelled is read to the last byte
pub whole_type_again : (t : GraphType) → IsKeptType t → whole_type_at (graph_type_spelled t) ≡ Some t
unfolding whole_type_at
whole_type_again t kept = ap whole_type_at (sym (append-nil (graph_type_spelled t))) ∙ rw (graph_type_again t [] kept) refl

-- what a reader returned was spelled
pub result_is_spelled : (bytes : List ℕ) (r : Result GraphType Misread) → IsBytes bytes → Gives (λ t. t) r (whole_type_at bytes) → IfOk r (λ t. IsKeptType t × (bytes ≡ graph_type_spelled t))
result_is_spelled bytes (Ok t) fits told = whole_type_takes bytes t fits told
result_is_spelled bytes (Err e) fits told = tt

none_is_some : {A : Type 0} (r : Option A) (x : A) → r ≡ None → r ≡ Some x → ⊥
none_is_some r x e h = cc

-- it returns what was spelled, unless there was no memory
pub result_is_complete : (bytes : List ℕ) (r : Result GraphType Misread) → Gives (λ t. t) r (whole_type_at bytes) → (t : GraphType) → IsKeptType t → bytes ≡ graph_type_spelled t → MatchResult r (λ u. u ≡ t) (λ e. e ≡ misreads.OutOfMemory)
result_is_complete bytes (Ok u) told t kept is = some_is u t (sym told ∙ ap whole_type_at is ∙ whole_type_again t kept)
result_is_complete bytes (Err misreads.OutOfMemory) told t kept is = refl
result_is_complete bytes (Err misreads.NoForm) told t kept is = absurd (none_is_some (whole_type_at bytes) t told (ap whole_type_at is ∙ whole_type_again t kept))
