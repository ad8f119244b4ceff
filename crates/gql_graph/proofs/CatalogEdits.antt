-- A catalog with one more graph or graph type, and without one, is a catalog.
use Rattle.std.proofs.Common.{◌≡◌, ◌∙◌, ℕ, true, ◌&&◌, List, map, None, Result, Ok, Err, sym, ap}
use Rattle.std.proofs.Math.Bool.{and-true}
use Rattle.std.specs.Prelude.{OnOk, OnErr}
use Rattle.std.specs.List.{list_all}
use Rattle.std.proofs.lemmas.Bool.{and_from, and_parts}
use Rattle.gql_values3.specs.Texts.{texts_ascend}
use Rattle.gql_values3.specs.PropertyGraph.{is_graph}
use Rattle.gql_graph.specs.Catalog.{CatalogGraph, CatalogData, is_catalog, named, put_named, without_named}
use Rattle.gql_graph.specs.Bare.{bare, bare_held}
use Rattle.gql_graph.specs.declared.graph_type.GraphType.{GraphType}
use Rattle.gql_graph.specs.declared.held.Held.{Held}
use Rattle.gql_graph.proofs.CatalogLemmas.{names, is_one, names-bare}
use Rattle.gql_graph.proofs.NamedLemmas.{put_under, without_under, names_ascend-put, names_ascend-without, list_all-put, list_all-without}

abbrev pub catalog : List (List ℕ × CatalogGraph) → List (List ℕ × GraphType) → CatalogData
catalog gs ts = record { graphs = gs; types = ts }

module _ (gs : List (List ℕ × CatalogGraph)) (ts : List (List ℕ × GraphType)) where
  pub catalog_parts : is_catalog (catalog gs ts) ≡ true → (texts_ascend (names gs) ≡ true) × (texts_ascend (names ts) ≡ true) × (list_all is_one gs ≡ true)
  catalog_parts h =
      let outer = and_parts (texts_ascend (names gs) && texts_ascend (names ts)) (list_all is_one gs) h in
      let inner = and_parts (texts_ascend (names gs)) (texts_ascend (names ts)) outer.0 in
      (inner.0, inner.1, outer.1)

  pub catalog_from : texts_ascend (names gs) ≡ true → texts_ascend (names ts) ≡ true → list_all is_one gs ≡ true → is_catalog (catalog gs ts) ≡ true
  catalog_from g t all = and_from (texts_ascend (names gs) && texts_ascend (names ts)) (list_all is_one gs) (and_from (texts_ascend (names gs)) (texts_ascend (names ts)) g t) all

-- where each graph is one, the names tell whether it is a catalog
pub told_by_names : (hs : List (List ℕ × Held)) (ts : List (List ℕ × GraphType)) → list_all is_one (map bare hs) ≡ true
    → (texts_ascend (names hs) && texts_ascend (names ts)) ≡ is_catalog (catalog (map bare hs) ts)
told_by_names hs ts all =
    ap (λ ns. texts_ascend ns && texts_ascend (names ts)) (sym (names-bare hs))
    ∙ sym (ap (λ b. (texts_ascend (names (map bare hs)) && texts_ascend (names ts)) && b) all ∙ and-true (texts_ascend (names (map bare hs)) && texts_ascend (names ts)))

module _ (name : List ℕ) (gs : List (List ℕ × CatalogGraph)) (ts : List (List ℕ × GraphType)) (one : is_catalog (catalog gs ts) ≡ true) where
  more_graphs : (g : CatalogGraph) → is_graph g.graph ≡ true → named name gs ≡ None → is_catalog (catalog (put_named name g gs) ts) ≡ true
  more_graphs g graph none =
      let parts = catalog_parts gs ts one in
      catalog_from (put_named name g gs) ts (names_ascend-put name g gs none parts.0) parts.1 (list_all-put name g is_one gs graph parts.2)

  fewer_graphs : is_catalog (catalog (without_named name gs) ts) ≡ true
  fewer_graphs =
      let parts = catalog_parts gs ts one in
      catalog_from (without_named name gs) ts (names_ascend-without name gs parts.0) parts.1 (list_all-without name is_one gs parts.2)

  more_types : (t : GraphType) → named name ts ≡ None → is_catalog (catalog gs (put_named name t ts)) ≡ true
  more_types t none =
      let parts = catalog_parts gs ts one in
      catalog_from gs (put_named name t ts) parts.0 (names_ascend-put name t ts none parts.1) parts.2

  pub fewer_types : (after : List (List ℕ × GraphType)) → after ≡ without_named name ts → is_catalog (catalog gs after) ≡ true
  fewer_types after is =
      let parts = catalog_parts gs ts one in
      ap (λ us. is_catalog (catalog gs us)) is ∙ catalog_from gs (without_named name ts) parts.0 (names_ascend-without name ts parts.1) parts.2

  -- as a call that may find no memory leaves it
  pub type_put : {A B : Type 0} (r : Result A B) (t : GraphType) (after : List (List ℕ × GraphType)) → named name ts ≡ None
      → OnOk r (after ≡ put_named name t ts) → OnErr r (after ≡ ts) → is_catalog (catalog gs after) ≡ true
  type_put (Ok a) t after none done kept = ap (λ us. is_catalog (catalog gs us)) done ∙ more_types t none
  type_put (Err e) t after none done kept = ap (λ us. is_catalog (catalog gs us)) kept ∙ one

-- the same of the graphs as they are held
module _ (name : List ℕ) (hs after : List (List ℕ × Held)) (ts : List (List ℕ × GraphType)) (one : is_catalog (catalog (map bare hs) ts) ≡ true) where
  pub graph_taken : after ≡ without_named name hs → is_catalog (catalog (map bare after) ts) ≡ true
  graph_taken is = ap (λ gs. is_catalog (catalog gs ts)) (ap (map bare) is ∙ without_under bare_held name hs) ∙ fewer_graphs name (map bare hs) ts one

  pub graph_put : {A B : Type 0} (r : Result A B) (h : Held) → is_graph h.graph.graph ≡ true → named name (map bare hs) ≡ None
      → OnOk r (after ≡ put_named name h hs) → OnErr r (after ≡ hs) → is_catalog (catalog (map bare after) ts) ≡ true
  graph_put (Ok a) h graph none done kept =
      ap (λ gs. is_catalog (catalog gs ts)) (ap (map bare) done ∙ put_under bare_held name h hs) ∙ more_graphs name (map bare hs) ts one (bare_held h) graph none
  graph_put (Err e) h graph none done kept = ap (λ gs. is_catalog (catalog (map bare gs) ts)) kept ∙ one

-- and what a call that may find no memory made of the catalog
pub on_ok : {A B : Type 0} (r : Result A B) {P Q : Type 0} → (P → Q) → OnOk r P → OnOk r Q
on_ok (Ok a) f p = f p
on_ok (Err e) f p = tt

pub on_err : {A B : Type 0} (r : Result A B) {P Q : Type 0} → (P → Q) → OnErr r P → OnErr r Q
on_err (Ok a) f p = tt
on_err (Err e) f p = f p
