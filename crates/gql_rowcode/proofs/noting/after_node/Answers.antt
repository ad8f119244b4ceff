use Rattle.std.proofs.Common.{◌≡◌, ◌∙◌, ℕ, true, false, List, Some, ap, sym}
use Rattle.gql_graph.specs.declared.graph_type.GraphType.{GraphType}
use Rattle.gql_rowcode.specs.Machinery.Noted.{graph_seen, node_joins}
use Rattle.gql_rowcode.proofs.PlaceLemmas.{listed_seen}
use Rattle.gql_rowcode.proofs.NotingLemmas.{PlaceIs, node_nowhere, node_refused, node_noted}
use Rattle.gql_rowcode.proofs.noting.after_node.Goals as goal

pub place_of-requires : goal.place_of-requires
place_of-requires c = rw c.as_slice.ensures.value (listed_seen c.args.seen.graphs.items c.requires.seen.graphs_listed)

pub returns-in_default : goal.returns-in_default
returns-in_default c = λ first. node_nowhere c.args.seen c.args.name.now c.args.added first (rw c.as_slice.ensures.value at (sym c.place_of.ensures ∙ c.in_default.is))

pub returns-then-not-node_joins : goal.returns-then-not-node_joins
returns-then-not-node_joins c =
    let at : PlaceIs c.args.seen c.args.name.now (Some c.in-Some.place) = rw c.as_slice.ensures.value at (sym c.in-Some.ensures) in
    let refused : node_joins c.args.seen.types.items c.args.added (Some (graph_seen c.index.result.now.1)) ≡ false = ap (λ (types : List (List ℕ × GraphType)). node_joins types c.args.added (Some (graph_seen c.index.result.now.1))) (sym c.as_slice-2.ensures.value) ∙ sym c.node_joins.ensures ∙ c.if-not-node_joins.true in
    λ first. node_refused c.args.seen c.args.name.now c.in-Some.place c.index.result.now at c.index.ensures first c.args.added refused

pub returns : goal.returns
returns c =
    let at : PlaceIs c.args.seen c.args.name.now (Some c.in-Some.place) = rw c.as_slice.ensures.value at (sym c.in-Some.ensures) in
    let joins : node_joins c.args.seen.types.items c.args.added (Some (graph_seen c.index.result.now.1)) ≡ true = ap (λ (types : List (List ℕ × GraphType)). node_joins types c.args.added (Some (graph_seen c.index.result.now.1))) (sym c.as_slice-2.ensures.value) ∙ sym c.node_joins.ensures ∙ c.if-not-node_joins.false in
    λ first. node_noted c.args.seen c.args.name.now c.in-Some.place c.index.result.now at c.index.ensures first c.args.added c.in_ok-with_node.field-0
    (listed_seen c.args.seen.graphs.items c.requires.seen.graphs_listed) joins c.in_ok-with_node.ensures.graphs c.in_ok-with_node.ensures.types
