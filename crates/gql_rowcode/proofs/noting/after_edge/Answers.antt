use Rattle.std.proofs.Common.{◌≡◌, ◌∙◌, ℕ, true, false, List, Some, ap, sym}
use Rattle.gql_graph.specs.declared.graph_type.GraphType.{GraphType}
use Rattle.gql_rowcode.specs.Machinery.Noted.{graph_seen, edge_joins}
use Rattle.gql_rowcode.proofs.PlaceLemmas.{listed_seen}
use Rattle.gql_rowcode.proofs.NotingLemmas.{PlaceIs, edge_nowhere, nodes_at, edge_refused, edge_noted}
use Rattle.gql_rowcode.proofs.noting.after_edge.Goals as goal

pub place_of-requires : goal.place_of-requires
place_of-requires c = rw c.as_slice.ensures.value (listed_seen c.args.seen.graphs.items c.requires.seen.graphs_listed)

pub returns-in_default : goal.returns-in_default
returns-in_default c = λ first. edge_nowhere c.args.seen c.args.name.now c.args.added first (rw c.as_slice.ensures.value at (sym c.place_of.ensures ∙ c.in_default.is))

pub returns-then-not-edge_joins : goal.returns-then-not-edge_joins
returns-then-not-edge_joins c =
    let at : PlaceIs c.args.seen c.args.name.now (Some c.in-Some.place) = rw c.as_slice.ensures.value at (sym c.in-Some.ensures) in
    let refused : edge_joins c.args.seen.types.items c.args.added (Some (graph_seen c.index.result.now.1)) ≡ false = ap (λ (types : List (List ℕ × GraphType)). edge_joins types c.args.added (Some (graph_seen c.index.result.now.1))) (sym c.as_slice-2.ensures.value) ∙ sym c.edge_joins.ensures ∙ c.if-not-edge_joins.true in
    λ first. edge_refused c.args.seen c.args.name.now c.in-Some.place c.index.result.now at c.index.ensures first c.args.added refused

pub returns : goal.returns
returns c =
    let at : PlaceIs c.args.seen c.args.name.now (Some c.in-Some.place) = rw c.as_slice.ensures.value at (sym c.in-Some.ensures) in
    let joins : edge_joins c.args.seen.types.items c.args.added (Some (graph_seen c.index.result.now.1)) ≡ true = ap (λ (types : List (List ℕ × GraphType)). edge_joins types c.args.added (Some (graph_seen c.index.result.now.1))) (sym c.as_slice-2.ensures.value) ∙ sym c.edge_joins.ensures ∙ c.if-not-edge_joins.false in
    λ first. edge_noted c.args.seen c.args.name.now c.in-Some.place c.index.result.now at c.index.ensures first c.args.added c.in_ok-with_edge.field-0
    (listed_seen c.args.seen.graphs.items c.requires.seen.graphs_listed) joins c.in_ok-with_edge.ensures.graphs c.in_ok-with_edge.ensures.types

pub edge_joins-requires-clause-nodes : goal.edge_joins-requires-clause-nodes
edge_joins-requires-clause-nodes c =
    let at : PlaceIs c.args.seen c.args.name.now (Some c.in-Some.place) = rw c.as_slice.ensures.value at (sym c.in-Some.ensures) in
    nodes_at c.args.seen c.args.name.now c.in-Some.place c.index.result.now at c.index.ensures c.requires.seen
