-- What was read, put in order by name, is the catalog.
use Rattle.std.proofs.Common.{◌≡◌, ◌∙◌, ℕ, cond, true, ◌&&◌, List, map, Option, Some, None, ap}
use Rattle.std.specs.List.{list_all}
use Rattle.std.proofs.lemmas.Bool.{and_parts}
use Rattle.std.specs.Cmp.{IsStrictWeakOrder}
use Rattle.std.proofs.lemmas.Cmp.{nat_list_cmp_total}
use Rattle.std.proofs.lemmas.List.Sorted.{ranks_by}
use Rattle.gql_values3.specs.PropertyGraph.{is_graph}
use Rattle.gql_values3.specs.Texts.{texts_ascend}
use Rattle.gql_graph.specs.Bare.{bare}
use Rattle.gql_graph.specs.Catalog.{CatalogGraph, CatalogData, is_catalog}
use Rattle.gql_graph.specs.declared.graph_type.GraphType.{GraphType}
use Rattle.gql_graph.specs.declared.held.Held.{Held}
use Rattle.gql_type.specs.GraphTypes.{is_graph_type}
use Rattle.gql_type.specs.SoundCatalog.{is_sound, fits_kind}
use Rattle.gql_eval.specs.StableSort.{stably_sorted}
use Rattle.gql_eval.proofs.StableSort.{map_sorted}
use Rattle.gql_rowcode.specs.declared.seen.GraphSeen.{GraphSeen}
use Rattle.gql_rowcode.specs.declared.seen.Seen.{Seen}
use Rattle.gql_rowcode.specs.Machinery.Noted.{in_order, name_before, noted_of, named_seen, graph_seen}
use Rattle.gql_rowcode.proofs.SortedLemmas.{when}
use Rattle.gql_rowcode.proofs.MemberLemmas.{Has, has_map, all_has, all_from}
use Rattle.gql_graph.proofs.CatalogLemmas.{names}

pub by_name : {A : Type 0} → IsStrictWeakOrder (name_before {A = A})
by_name {A} = ranks_by nat_list_cmp_total (λ (p : List ℕ × A). p.0)

sorted_seen : (gs : List (List ℕ × GraphSeen)) → map named_seen (stably_sorted name_before gs) ≡ stably_sorted name_before (map named_seen gs)
sorted_seen gs = map_sorted named_seen (name_before {A = CatalogGraph}) gs

-- these graphs and types are those of the catalog
pub catalog_is : (s : Seen) (held : List (List ℕ × Held)) (types : List (List ℕ × GraphType)) → map bare held ≡ map named_seen (stably_sorted name_before s.graphs.items) → types ≡ stably_sorted name_before s.types.items
    → record { graphs = map bare held; types = types } ≡ in_order (noted_of s)
catalog_is s held types graphs_are types_are =
    let graphs : map bare held ≡ stably_sorted name_before (map named_seen s.graphs.items) = graphs_are ∙ sorted_seen s.graphs.items in
    λ i. record { graphs = graphs i; types = types_are i }

pub sound_catalog : (c : CatalogData) → is_sound c ≡ true → is_catalog c ≡ true
sound_catalog c sound =
    (and_parts (is_catalog c) (list_all (λ (t : List ℕ × GraphType). is_graph_type t.1) c.types) (and_parts (is_catalog c && list_all (λ (t : List ℕ × GraphType). is_graph_type t.1) c.types) (list_all (λ (g : List ℕ × CatalogGraph). fits_kind c.types g.1.graph g.1.kind) c.graphs) sound).0).0

-- its names ascend, and each graph is one
pub read_catalog : (s : Seen) → is_sound (in_order (noted_of s)) ≡ true → is_catalog (in_order (noted_of s)) ≡ true
read_catalog s sound = sound_catalog (in_order (noted_of s)) sound

pub read_graphs : (s : Seen) → is_sound (in_order (noted_of s)) ≡ true → list_all (λ (g : List ℕ × GraphSeen). is_graph (graph_seen g.1).graph) (stably_sorted name_before s.graphs.items) ≡ true
read_graphs s sound = all_from (λ (g : List ℕ × GraphSeen). is_graph (graph_seen g.1).graph) (stably_sorted name_before s.graphs.items) each
  where
    all : list_all (λ (g : List ℕ × CatalogGraph). is_graph g.1.graph) (map named_seen (stably_sorted name_before s.graphs.items)) ≡ true
    all =
        ap (list_all (λ (g : List ℕ × CatalogGraph). is_graph g.1.graph)) (sorted_seen s.graphs.items)
        ∙ (and_parts (texts_ascend (names (in_order (noted_of s)).graphs) && texts_ascend (names (in_order (noted_of s)).types)) (list_all (λ (g : List ℕ × CatalogGraph). is_graph g.1.graph) (in_order (noted_of s)).graphs) (read_catalog s sound)).1

    each : (g : List ℕ × GraphSeen) → Has (stably_sorted name_before s.graphs.items) g → is_graph (graph_seen g.1).graph ≡ true
    each g h = all_has (λ (g : List ℕ × CatalogGraph). is_graph g.1.graph) (map named_seen (stably_sorted name_before s.graphs.items)) (named_seen g) all (has_map named_seen (stably_sorted name_before s.graphs.items) g h)

-- so they are taken
pub of_made : (s : Seen) (r : Option CatalogData) (d : CatalogData) → d ≡ in_order (noted_of s) → is_sound (in_order (noted_of s)) ≡ true → r ≡ cond (is_catalog d) (Some d) None → r ≡ Some (in_order (noted_of s))
of_made s r d is sound made = made ∙ when (is_catalog d) (Some d) None (ap is_catalog is ∙ read_catalog s sound) ∙ ap (λ (x : CatalogData). Some x) is

pub one_made : (a b : CatalogData) (r : Option CatalogData) → r ≡ Some a → r ≡ Some b → a ≡ b
one_made a b r p q = cc
