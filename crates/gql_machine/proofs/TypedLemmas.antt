-- Each graph that has a type conforms to it, whatever is done to the catalog. Key idea: a new graph has no elements, a graph takes the place of
-- another where it conforms, and a type goes only where no graph has it.
use Rattle.std.proofs.Common.{◌≡◌, ℕ, Bool, true, false, not, ◌&&◌, cond, List, [], ◌∷◌, map, Option, Some, None, refl, ap, ◌∙◌}
use Rattle.std.specs.Prelude.{if◌then◌else◌, option_map, find, is_some}
use Rattle.std.specs.List.{list_all}
use Rattle.std.proofs.lemmas.Bool.{and_from, and_parts}
use Rattle.gql_values3.specs.PropertyGraph.{PropertyGraph, is_graph}
use Rattle.gql_values3.specs.Texts.{same_text, texts_ascend}
use Rattle.gql_graph.specs.Catalog.{CatalogGraph, CatalogData, held_in, type_in, with_graph, without_graph, with_type, without_type, replaced, is_catalog}
use Rattle.gql_graph.specs.declared.graph_type.GraphType.{GraphType}
use Rattle.gql_graph.proofs.CatalogLemmas.{names}
use Rattle.gql_graph.proofs.NamedLemmas.{names_ascend-put, names_ascend-without, list_all-put, list_all-without}
use Rattle.gql_type.specs.SoundCatalog.{is_sound}
use Rattle.gql_type.specs.GraphTypes.{is_graph_type}
use Rattle.gql_txn.specs.Edits.{is_unused}
use Rattle.gql_txn.specs.TxnData.{misfit_in, new_graph}
use Rattle.gql_txn.proofs.SoundLemmas.{fits, empty_fits, fit_with_type, fit_without_type, fit_replaced}
use Rattle.gql_machine.specs.StateRefusals.{has_type, graph_of_type}
use Rattle.gql_machine.specs.TypedGraphs.{is_typed}

abbrev Graphs : Type 0
Graphs = List (List ℕ × CatalogGraph)

-- the three parts
pub record Typed (c : CatalogData) : Type 0 where
  pub graphs : texts_ascend (names c.graphs) ≡ true
  pub types : texts_ascend (names c.types) ≡ true
  pub fit : list_all (fits c.types) c.graphs ≡ true

pub typed : (c : CatalogData) → is_typed c ≡ true → Typed c
typed c h =
    let both = and_parts (texts_ascend (names c.graphs) && texts_ascend (names c.types)) (list_all (fits c.types) c.graphs) h in
    let first = and_parts (texts_ascend (names c.graphs)) (texts_ascend (names c.types)) both.0 in
    record { graphs = first.0; types = first.1; fit = both.1 }

pub is_typed-from : (c : CatalogData) → Typed c → is_typed c ≡ true
is_typed-from c t =
    and_from (texts_ascend (names c.graphs) && texts_ascend (names c.types)) (list_all (fits c.types) c.graphs)
    (and_from (texts_ascend (names c.graphs)) (texts_ascend (names c.types)) t.graphs t.types) t.fit

-- in a sound catalog they do
pub sound_typed : (c : CatalogData) → is_sound c ≡ true → is_typed c ≡ true
sound_typed c h =
    let in_order = list_all (λ (t : List ℕ × GraphType). is_graph_type t.1) c.types in
    let fit = list_all (fits c.types) c.graphs in
    let both = and_parts (is_catalog c && in_order) fit h in
    let first = and_parts (is_catalog c) in_order both.0 in
    let parts = and_parts (texts_ascend (names c.graphs) && texts_ascend (names c.types)) (list_all (λ (g : List ℕ × CatalogGraph). is_graph g.1.graph) c.graphs) first.0 in
    and_from (texts_ascend (names c.graphs) && texts_ascend (names c.types)) fit parts.0 both.1

-- A new graph

pub typed_with_graph : (c : CatalogData) (name : List ℕ) (kind : Option (List ℕ)) → held_in c name ≡ None → ((t : List ℕ) → kind ≡ Some t → is_some (type_in c t) ≡ true) → Typed c
    → Typed (with_graph name (new_graph kind) c)
typed_with_graph c name kind new there t = record {
  graphs = names_ascend-put name (new_graph kind) c.graphs new t.graphs;
  types = t.types;
  fit = list_all-put name (new_graph kind) (fits c.types) c.graphs (empty_fits c.types kind there) t.fit;
}

-- A graph that goes

pub typed_without_graph : (c : CatalogData) (name : List ℕ) → Typed c → Typed (without_graph name c)
typed_without_graph c name t = record {
  graphs = names_ascend-without name c.graphs t.graphs;
  types = t.types;
  fit = list_all-without name (fits c.types) c.graphs t.fit;
}

-- Another list of types

pub typed_with_type : (c : CatalogData) (name : List ℕ) (new : GraphType) → type_in c name ≡ None → Typed c → Typed (with_type name new c)
typed_with_type c name new none t = record {
  graphs = t.graphs;
  types = names_ascend-put name new c.types none t.types;
  fit = fit_with_type name new c none t.fit;
}

-- no graph has the type
none_has : (name : List ℕ) (gs : Graphs) → option_map (λ (p : List ℕ × CatalogGraph). p.0) (find (λ (p : List ℕ × CatalogGraph). has_type name p.1) gs) ≡ None
    → list_all (λ (p : List ℕ × CatalogGraph). not (has_type name p.1)) gs ≡ true
none_has name [] e = refl
none_has name (g ∷ gs) e = go (has_type name g.1) refl (none_has name gs) e
  where
    go : (b : Bool) → has_type name g.1 ≡ b
        → (option_map (λ (p : List ℕ × CatalogGraph). p.0) (find (λ (p : List ℕ × CatalogGraph). has_type name p.1) gs) ≡ None → list_all (λ (p : List ℕ × CatalogGraph). not (has_type name p.1)) gs ≡ true)
        → option_map (λ (p : List ℕ × CatalogGraph). p.0) (cond b (Some g) (find (λ (p : List ℕ × CatalogGraph). has_type name p.1) gs)) ≡ None
        → list_all (λ (p : List ℕ × CatalogGraph). not (has_type name p.1)) (g ∷ gs) ≡ true
    go true h rest e = absurd (cc)
    go false h rest e = and_from (not (has_type name g.1)) (list_all (λ (p : List ℕ × CatalogGraph). not (has_type name p.1)) gs) (ap not h) (rest e)

-- so that it may go
pub unused : (c : CatalogData) (name : List ℕ) → graph_of_type c name ≡ None → is_unused name c ≡ true
unused c name none = none_has name c.graphs none

pub typed_without_type : (c : CatalogData) (name : List ℕ) → graph_of_type c name ≡ None → Typed c → Typed (without_type name c)
typed_without_type c name none t = record {
  graphs = t.graphs;
  types = names_ascend-without name c.types t.types;
  fit = fit_without_type name c (unused c name none) t.fit;
}

-- Another graph in the place of one

module _ (name : List ℕ) (new : PropertyGraph) where
  abbrev put : List ℕ × CatalogGraph → List ℕ × CatalogGraph
  put g = if same_text name g.0 then (g.0, record { graph = new; kind = g.1.kind }) else g

  names_case : (b : Bool) (g : List ℕ × CatalogGraph) → (if b then (g.0, record { graph = new; kind = g.1.kind }) else g).0 ≡ g.0
  names_case true g = refl
  names_case false g = refl

  names_put : (gs : Graphs) → names (map put gs) ≡ names gs
  names_put [] = refl
  names_put (g ∷ gs) = λ i. names_case (same_text name g.0) g i ∷ names_put gs i

pub typed_replaced : (c : CatalogData) (name : List ℕ) (g : PropertyGraph) → misfit_in c name g ≡ None → Typed c → Typed (replaced name g c)
typed_replaced c name g none t = record {
  graphs = ap texts_ascend (names_put name g c.graphs) ∙ t.graphs;
  types = t.types;
  fit = fit_replaced c name g t.graphs none t.fit;
}
