-- Each change of a sound catalog leaves a sound one.
use Rattle.std.proofs.Common.{◌≡◌, ◌≢◌, ℕ, Bool, true, false, cond, not, ◌&&◌, List, [], ◌∷◌, map, Option, Some, None, refl, sym, ap, ◌∙◌, IsTrue}
use Rattle.std.specs.Prelude.{find, is_some, option_map, if◌then◌else◌}
use Rattle.std.specs.List.{AllByRecursion, list_all}
use Rattle.std.proofs.lemmas.Bool.{and_from, and_parts}
use Rattle.gql_values3.specs.PropertyGraph.{PropertyGraph, is_graph}
use Rattle.gql_values3.specs.Texts.{same_text, texts_ascend}
use Rattle.gql_values3.proofs.WordLemmas.{same_is}
use Rattle.gql_graph.specs.Catalog.{CatalogGraph, CatalogData, is_catalog, named, put_named, without_named, is_before, held_in, type_in, with_graph, without_graph, with_type, without_type, replaced, empty_graph}
use Rattle.gql_graph.specs.declared.graph_type.GraphType.{GraphType}
use Rattle.gql_graph.proofs.CatalogLemmas.{names}
use Rattle.gql_graph.proofs.NamedLemmas.{list_all-put, list_all-without}
use Rattle.gql_type.specs.GraphTypes.{is_graph_type}
use Rattle.gql_type.proofs.ConformanceLemmas.{no_misfit}
use Rattle.gql_type.specs.SoundCatalog.{conforms_to, fits_kind, is_sound}
use Rattle.gql_rowcode.proofs.MemberLemmas.{all_has}
use Rattle.gql_rowcode.proofs.NameLemmas.{named_has, named_here, named_later, text_same}
use Rattle.gql_rowcode.proofs.OrderingLists.{Pairs, all_of_map}
use Rattle.gql_rowcode.proofs.OrderingKeys.{names_differ}
use Rattle.gql_txn.specs.TxnData.{type_named, type_of_held, type_of_graph, misfit_under, misfit_in, new_graph}
use Rattle.gql_txn.specs.Edits.{is_named, is_unused}
use Rattle.gql_txn.specs.declared.kept.Kept.{Kept}
use Rattle.gql_txn.specs.declared.kept.Kept.TheVariants as form
use Rattle.gql_txn.specs.Machinery.Meaning.{kept_of}
use Rattle.gql_txn.proofs.ValueLemmas.{other_key}

-- ---- soundness, part by part

abbrev is_type : List ℕ × GraphType → Bool
is_type t = is_graph_type t.1

-- the graph fits its type
abbrev pub fits : List (List ℕ × GraphType) → List ℕ × CatalogGraph → Bool
fits types g = fits_kind types g.1.graph g.1.kind

record SoundParts (c : CatalogData) : Type 0 where
  catalog : is_catalog c ≡ true
  types : list_all is_type c.types ≡ true
  graphs : list_all (fits c.types) c.graphs ≡ true

parts_of : (c : CatalogData) → is_sound c ≡ true → SoundParts c
parts_of c h =
    let outer = and_parts (is_catalog c && list_all is_type c.types) (list_all (fits c.types) c.graphs) h in
    let inner = and_parts (is_catalog c) (list_all is_type c.types) outer.0 in
    record { catalog = inner.0; types = inner.1; graphs = outer.1 }

sound_by : (c : CatalogData) → is_catalog c ≡ true → list_all is_type c.types ≡ true → list_all (fits c.types) c.graphs ≡ true → is_sound c ≡ true
sound_by c p q r = and_from (is_catalog c && list_all is_type c.types) (list_all (fits c.types) c.graphs) (and_from (is_catalog c) (list_all is_type c.types) p q) r

-- what passes one test, passes another
all_too : {X : Type 0} (p q : X → Bool) → ((x : X) → p x ≡ true → q x ≡ true) → (xs : List X) → list_all p xs ≡ true → list_all q xs ≡ true
all_too p q too [] h = refl
all_too p q too (x ∷ xs) h =
    let parts = and_parts (p x) (list_all p xs) h in
    and_from (q x) (list_all q xs) (too x parts.0) (all_too p q too xs parts.1)

-- or two tests
all_both_too : {X : Type 0} (p r q : X → Bool) → ((x : X) → p x ≡ true → r x ≡ true → q x ≡ true) → (xs : List X) → list_all p xs ≡ true → list_all r xs ≡ true → list_all q xs ≡ true
all_both_too p r q too [] h k = refl
all_both_too p r q too (x ∷ xs) h k =
    let parts = and_parts (p x) (list_all p xs) h in
    let others = and_parts (r x) (list_all r xs) k in
    and_from (q x) (list_all q xs) (too x parts.0 others.0) (all_both_too p r q too xs parts.1 others.1)

-- what a change made is sound, and so is the kept catalog, which is a copy now
pub sound_after : (new made : CatalogData) → new ≡ made → is_catalog new ≡ true → (is_catalog made ≡ true → is_sound made ≡ true) → is_sound new ≡ true
sound_after new made e one sound = ap is_sound e ∙ sound (ap is_catalog (sym e) ∙ one)

pub both_sound : (old new : CatalogData) (kept copied : Kept) → is_sound new ≡ true → is_sound (kept_of old kept) ≡ true → copied ≡ form.Whole (kept_of old kept) → IsTrue (is_sound new) × IsTrue (is_sound (kept_of new copied))
both_sound old new kept copied sound was e = (sound, ap (λ (k : Kept). is_sound (kept_of new k)) e ∙ was)

-- ---- graphs come and go

pub sound_without_graph : (name : List ℕ) (c : CatalogData) → is_sound c ≡ true → is_catalog (without_graph name c) ≡ true → is_sound (without_graph name c) ≡ true
sound_without_graph name c h one =
    let parts = parts_of c h in
    sound_by (without_graph name c) one parts.types (list_all-without name (fits c.types) c.graphs parts.graphs)

empty_conforms : (o : Option GraphType) → is_some o ≡ true → conforms_to empty_graph o ≡ true
empty_conforms None h = absurd cc
empty_conforms (Some t) h = refl

-- a graph without elements conforms to each type that is there
pub empty_fits : (types : List (List ℕ × GraphType)) (kind : Option (List ℕ)) → ((t : List ℕ) → kind ≡ Some t → is_some (named t types) ≡ true) → fits_kind types empty_graph kind ≡ true
empty_fits types None there = refl
empty_fits types (Some t) there = empty_conforms (named t types) (there t refl)

pub sound_with_graph : (name : List ℕ) (kind : Option (List ℕ)) (c : CatalogData) → is_sound c ≡ true → ((t : List ℕ) → kind ≡ Some t → is_some (type_in c t) ≡ true)
    → is_catalog (with_graph name (new_graph kind) c) ≡ true → is_sound (with_graph name (new_graph kind) c) ≡ true
sound_with_graph name kind c h there one =
    let parts = parts_of c h in
    sound_by (with_graph name (new_graph kind) c) one parts.types (list_all-put name (new_graph kind) (fits c.types) c.graphs (empty_fits c.types kind there) parts.graphs)

-- ---- graph types come and go

-- what stands under another name stays
named_step : {X : Type 0} (n : List ℕ) (y : List ℕ × X) (ys zs : List (List ℕ × X)) → named n ys ≡ named n zs → named n (y ∷ ys) ≡ named n (y ∷ zs)
named_step {X} n y ys zs more = by_case (same_text n y.0) (find (λ (z : List ℕ × X). same_text n z.0) ys) (find (λ (z : List ℕ × X). same_text n z.0) zs) more
  where
    by_case : (b : Bool) (o p : Option (List ℕ × X)) → option_map (λ (z : List ℕ × X). z.1) o ≡ option_map (λ (z : List ℕ × X). z.1) p
        → option_map (λ (z : List ℕ × X). z.1) (cond b (Some y) o) ≡ option_map (λ (z : List ℕ × X). z.1) (cond b (Some y) p)
    by_case true o p e = refl
    by_case false o p e = e

either_named : {X : Type 0} (n : List ℕ) (o : Option X) (b : Bool) (ys zs : List (List ℕ × X)) → named n ys ≡ o → named n zs ≡ o → named n (cond b ys zs) ≡ o
either_named n o true ys zs p q = p
either_named n o false ys zs p q = q

named_put : {X : Type 0} (n name : List ℕ) (x : X) (ys : List (List ℕ × X)) → same_text n name ≡ false → named n (put_named name x ys) ≡ named n ys
named_put n name x [] apart = named_later n (name, x) [] apart
named_put n name x (y ∷ ys) apart =
    either_named n (named n (y ∷ ys)) (is_before name y.0) ((name, x) ∷ y ∷ ys) (y ∷ put_named name x ys)
    (named_later n (name, x) (y ∷ ys) apart) (named_step n y (put_named name x ys) ys (named_put n name x ys apart))

named_without : {X : Type 0} (n name : List ℕ) (ys : List (List ℕ × X)) → n ≢ name → named n (without_named name ys) ≡ named n ys
named_without n name [] differ = refl
named_without {X} n name (y ∷ ys) differ = by_case (same_text name y.0) refl (named_without n name ys differ)
  where
    by_case : (b : Bool) → same_text name y.0 ≡ b → named n (without_named name ys) ≡ named n ys → named n (cond (not b) (y ∷ without_named name ys) (without_named name ys)) ≡ named n (y ∷ ys)
    by_case true e more = more ∙ sym (named_later n y ys (other_key n y.0 (λ same. differ (same ∙ sym (same_is name y.0 e)))))
    by_case false e more = named_step n y (without_named name ys) ys more

-- a name under which nothing stands is none of a type that a graph conforms to
conforms_differs : (g : PropertyGraph) (types : List (List ℕ × GraphType)) (n name : List ℕ) → named name types ≡ None → conforms_to g (named n types) ≡ true → n ≢ name
conforms_differs g types n name none h same =
    let never : conforms_to g None ≡ true = ap (conforms_to g) (sym (ap (λ (m : List ℕ). named m types) same ∙ none)) ∙ h in
    cc

put_fits : (types : List (List ℕ × GraphType)) (name : List ℕ) (t : GraphType) (g : PropertyGraph) (kind : Option (List ℕ)) → named name types ≡ None → fits_kind types g kind ≡ true → fits_kind (put_named name t types) g kind ≡ true
put_fits types name t g None none h = refl
put_fits types name t g (Some n) none h =
    ap (conforms_to g) (named_put n name t types (other_key n name (conforms_differs g types n name none h))) ∙ h

pub fit_with_type : (name : List ℕ) (t : GraphType) (c : CatalogData) → type_in c name ≡ None → list_all (fits c.types) c.graphs ≡ true → list_all (fits (put_named name t c.types)) c.graphs ≡ true
fit_with_type name t c none fit = all_too (fits c.types) (fits (put_named name t c.types)) (λ g one. put_fits c.types name t g.1.graph g.1.kind none one) c.graphs fit

pub sound_with_type : (name : List ℕ) (t : GraphType) (c : CatalogData) → is_sound c ≡ true → type_in c name ≡ None → is_graph_type t ≡ true → is_catalog (with_type name t c) ≡ true → is_sound (with_type name t c) ≡ true
sound_with_type name t c h none kind one =
    let parts = parts_of c h in
    sound_by (with_type name t c) one (list_all-put name t is_type c.types kind parts.types) (fit_with_type name t c none parts.graphs)

without_fits : (types : List (List ℕ × GraphType)) (name : List ℕ) (g : PropertyGraph) (kind : Option (List ℕ)) → fits_kind types g kind ≡ true → not (is_named name kind) ≡ true → fits_kind (without_named name types) g kind ≡ true
without_fits types name g None h unused = refl
without_fits types name g (Some n) h unused = ap (conforms_to g) (named_without n name types (λ same. named_other (same_text name n) unused (ap (same_text name) same ∙ itself))) ∙ h
  where
    itself : same_text name name ≡ true
    itself = text_same name

    named_other : (b : Bool) → not b ≡ true → b ≡ true → ⊥
    named_other true p q = cc
    named_other false p q = cc

pub fit_without_type : (name : List ℕ) (c : CatalogData) → is_unused name c ≡ true → list_all (fits c.types) c.graphs ≡ true → list_all (fits (without_named name c.types)) c.graphs ≡ true
fit_without_type name c unused fit =
    all_both_too (fits c.types) (λ (p : List ℕ × CatalogGraph). not (is_named name p.1.kind)) (fits (without_named name c.types)) (λ g one free. without_fits c.types name g.1.graph g.1.kind one free) c.graphs fit unused

pub sound_without_type : (name : List ℕ) (c : CatalogData) → is_sound c ≡ true → is_unused name c ≡ true → is_catalog (without_type name c) ≡ true → is_sound (without_type name c) ≡ true
sound_without_type name c h unused one =
    let parts = parts_of c h in
    sound_by (without_type name c) one (list_all-without name is_type c.types parts.types) (fit_without_type name c unused parts.graphs)

-- a type that is found by its name is one
found_passes : (n : List ℕ) (ts : List (List ℕ × GraphType)) (t : GraphType) → named n ts ≡ Some t → list_all is_type ts ≡ true → is_graph_type t ≡ true
found_passes n ts t e all = all_has is_type ts (n, t) all (named_has n ts t e)

kind_passes : (types : List (List ℕ × GraphType)) (kind : Option (List ℕ)) (t : GraphType) → list_all is_type types ≡ true → type_named types kind ≡ Some t → is_graph_type t ≡ true
kind_passes types None t all e = absurd cc
kind_passes types (Some n) t all e = found_passes n types t e all

held_passes : (c : CatalogData) (o : Option CatalogGraph) (t : GraphType) → list_all is_type c.types ≡ true → type_of_held c o ≡ Some t → is_graph_type t ≡ true
held_passes c None t all e = absurd cc
held_passes c (Some g) t all e = kind_passes c.types g.kind t all e

-- the type of a graph is one
pub type_passes : (c : CatalogData) (name : List ℕ) (t : GraphType) → is_sound c ≡ true → type_of_graph c name ≡ Some t → is_graph_type t ≡ true
type_passes c name t h e = held_passes c (held_in c name) t (parts_of c h).types e

-- ---- a graph in the place of another

conforms_too : (g graph : PropertyGraph) (o : Option GraphType) → misfit_under o graph ≡ None → conforms_to g o ≡ true → conforms_to graph o ≡ true
conforms_too g graph None none h = h
conforms_too g graph (Some t) none h = no_misfit graph t none

fits_too : (types : List (List ℕ × GraphType)) (g graph : PropertyGraph) (kind : Option (List ℕ)) → misfit_under (type_named types kind) graph ≡ None → fits_kind types g kind ≡ true → fits_kind types graph kind ≡ true
fits_too types g graph None none h = refl
fits_too types g graph (Some n) none h = conforms_too g graph (named n types) none h

named_absent : {X : Type 0} (name : List ℕ) (ys : List (List ℕ × X)) → AllByRecursion (λ (y : List ℕ × X). name ≢ y.0) ys → named name ys ≡ None
named_absent name [] all = refl
named_absent name (y ∷ ys) all = named_later name y ys (other_key name y.0 all.0) ∙ named_absent name ys all.1

-- a name that was found is not found behind it
named_once : (name : List ℕ) (g : List ℕ × CatalogGraph) (gs : List (List ℕ × CatalogGraph)) → same_text name g.0 ≡ true → Pairs (λ (a b : List ℕ). a ≢ b) (names (g ∷ gs)) → named name gs ≡ None
named_once name g gs e differ =
    ap (λ (n : List ℕ). named n gs) (same_is name g.0 e) ∙ named_absent g.0 gs (all_of_map (λ (n : List ℕ). g.0 ≢ n) (λ (p : List ℕ × CatalogGraph). p.0) gs differ.0)

module _ (c : CatalogData) (name : List ℕ) (graph : PropertyGraph) where
  abbrev put_graph : List ℕ × CatalogGraph → List ℕ × CatalogGraph
  put_graph g = if same_text name g.0 then (g.0, record { graph = graph; kind = g.1.kind }) else g

  -- the graph of that name has no misfit
  abbrev NoMisfit : List (List ℕ × CatalogGraph) → Type 0
  NoMisfit gs = misfit_under (type_of_held c (named name gs)) graph ≡ None

  put_case : (b : Bool) (g : List ℕ × CatalogGraph) (gs more : List (List ℕ × CatalogGraph)) → same_text name g.0 ≡ b → Pairs (λ (a b : List ℕ). a ≢ b) (names (g ∷ gs)) → NoMisfit (g ∷ gs) → fits c.types g ≡ true
      → (NoMisfit gs → list_all (fits c.types) more ≡ true) → list_all (fits c.types) (cond b (g.0, record { graph = graph; kind = g.1.kind }) g ∷ more) ≡ true
  put_case true g gs more e differ none fit rest =
      let here : misfit_under (type_named c.types g.1.kind) graph ≡ None = ap (λ (o : Option CatalogGraph). misfit_under (type_of_held c o) graph) (sym (named_here name g gs e)) ∙ none in
      let behind : NoMisfit gs = ap (λ (o : Option CatalogGraph). misfit_under (type_of_held c o) graph) (named_once name g gs e differ) in
      and_from (fits_kind c.types graph g.1.kind) (list_all (fits c.types) more) (fits_too c.types g.1.graph graph g.1.kind here fit) (rest behind)
  put_case false g gs more e differ none fit rest =
      let behind : NoMisfit gs = ap (λ (o : Option CatalogGraph). misfit_under (type_of_held c o) graph) (sym (named_later name g gs e)) ∙ none in
      and_from (fits c.types g) (list_all (fits c.types) more) fit (rest behind)

  all_fit : (gs : List (List ℕ × CatalogGraph)) → Pairs (λ (a b : List ℕ). a ≢ b) (names gs) → NoMisfit gs → list_all (fits c.types) gs ≡ true → list_all (fits c.types) (map put_graph gs) ≡ true
  all_fit [] differ none fit = refl
  all_fit (g ∷ gs) differ none fit =
      let parts = and_parts (fits c.types g) (list_all (fits c.types) gs) fit in
      put_case (same_text name g.0) g gs (map put_graph gs) refl differ none parts.0 (λ behind. all_fit gs differ.1 behind parts.1)

  pub fit_replaced : texts_ascend (names c.graphs) ≡ true → misfit_in c name graph ≡ None → list_all (fits c.types) c.graphs ≡ true → list_all (fits c.types) (replaced name graph c).graphs ≡ true
  fit_replaced ascend none fit = all_fit c.graphs (names_differ (names c.graphs) ascend) none fit

  pub sound_replaced : is_sound c ≡ true → misfit_in c name graph ≡ None → is_catalog (replaced name graph c) ≡ true → is_sound (replaced name graph c) ≡ true
  sound_replaced h none one =
      let parts = parts_of c h in
      let both = and_parts (texts_ascend (names c.graphs) && texts_ascend (names c.types)) (list_all (λ (g : List ℕ × CatalogGraph). is_graph g.1.graph) c.graphs) parts.catalog in
      let ascend : texts_ascend (names c.graphs) ≡ true = (and_parts (texts_ascend (names c.graphs)) (texts_ascend (names c.types)) both.0).0 in
      sound_by (replaced name graph c) one parts.types (fit_replaced ascend none parts.graphs)
