-- A store that keeps a catalog, and is told what one other graph changes, keeps the catalog with that graph.
use Rattle.std.proofs.Common.{◌≡◌, ◌≢◌, ℕ, Bool, true, false, not, ◌&&◌, List, [], ◌∷◌, ◌++◌, map, Option, Some, None, refl, sym, ap, subst, ◌∙◌, inl, inr}
use Rattle.std.specs.Prelude.{Contains}
use Rattle.std.specs.List.{AllByRecursion, flat_map, list_all, list_any}
use Rattle.std.proofs.lemmas.Bool.{and_from, and_parts}
use Rattle.gql_values3.specs.PropertyGraph.{PropertyGraph, is_graph}
use Rattle.gql_values3.specs.Texts.{same_text, texts_ascend, texts_differ}
use Rattle.gql_values3.proofs.WordLemmas.{same_is}
use Rattle.gql_graph.specs.Catalog.{CatalogGraph, CatalogData, held_in, replaced}
use Rattle.gql_ports.specs.Held.{Holding, keys_ascend, value_at, value_after}
use Rattle.gql_ports.specs.Told.{MatchTold}
use Rattle.gql_ports.specs.declared.stored.Record.{Record}
use Rattle.gql_type.specs.SoundCatalog.{is_sound}
use Rattle.gql_rowcode.specs.Records.{Form, version, key_of, record_of, IsForm}
use Rattle.gql_rowcode.specs.StandFor.{graph_forms, catalog_forms, AreRecordsOf, StandFor}
use Rattle.gql_graph.proofs.CatalogLemmas.{names, is_one}
use Rattle.gql_rowcode.proofs.MemberLemmas.{Has, InOrder, all_has, has_from, contains_from, has_map, has_map_back, each_has, each_from, any_has, any_back}
use Rattle.gql_rowcode.proofs.NameLemmas.{NameLess, named_has, names_in_order, text_same}
use Rattle.gql_rowcode.proofs.CatalogLemmas.{sound_catalog}
use Rattle.gql_rowcode.proofs.SoundLemmas.{graph_facts, sound_facts}
use Rattle.gql_rowcode.proofs.OrderingLists.{Across, Pairs, all_map, pairs_append, pairs_map, pairs_flat_map}
use Rattle.gql_rowcode.proofs.OrderingKeys.{Apart, catalog_apart, graph_apart}
use Rattle.gql_rowcode.proofs.KeyLemmas.{keys_are}
use Rattle.gql_rowcode.proofs.SaidLemmas.{Says, says_form, form_says}
use Rattle.gql_txn.specs.Keeps.{Keeps}
use Rattle.gql_txn.specs.Machinery.GraphChanges.{is_said, is_keyed, unless, new_forms, with_type_of, gone_forms}
use Rattle.gql_txn.specs.Machinery.Storing.{AppliesInOrder}
use Rattle.gql_txn.proofs.ChangeLemmas.{keys}
use Rattle.gql_txn.proofs.KeptLemmas.{ascending, held_replaced}
use Rattle.gql_txn.proofs.StoreLemmas.{leads_empty}
use Rattle.gql_txn.proofs.GraphChangeLemmas as change
use Rattle.gql_txn.proofs.ValueLemmas.{record_with, other_key, value_first, value_behind, value_contained, contained_value}

-- ---- keys that differ pair by pair

-- each key of its own
texts_apart : (ks : List (List ℕ)) → Pairs (λ (a b : List ℕ). a ≢ b) ks → texts_differ ks ≡ true
texts_apart [] pairs = refl
texts_apart (k ∷ ks) pairs = and_from (not (list_any (same_text k) ks)) (texts_differ ks) (ap not (none ks pairs.0)) (texts_apart ks pairs.1)
  where
    none : (ls : List (List ℕ)) → AllByRecursion (λ (b : List ℕ). k ≢ b) ls → list_any (same_text k) ls ≡ false
    none [] all = refl
    none (l ∷ ls) all = rw (other_key k l all.0) (none ls all.1)

abbrev KeysApart : List Record → Type 0
KeysApart rs = Pairs (λ (a b : Record). a.key ≢ b.key) rs

-- what is in such a list stands at its key
value_alone : (rs : List Record) (r : Record) → KeysApart rs → Has rs r → value_at rs r.key ≡ Some r.value
value_alone [] r apart h = absurd h
value_alone (x ∷ xs) r apart (inl e) = value_first x xs r.key (ap (λ (s : Record). same_text s.key x.key) e ∙ text_same x.key) ∙ ap (λ (s : Record). Some s.value) (sym e)
value_alone (x ∷ xs) r apart (inr h) =
    let differ : x.key ≢ r.key = each_has (λ (b : Record). x.key ≢ b.key) xs r apart.0 h in
    value_behind x xs r.key (other_key r.key x.key (λ e. differ (sym e))) ∙ value_alone xs r apart.1 h

-- forms of one list with one key are one
one_key : (fs : List Form) (f g : Form) → Pairs Apart fs → Has fs f → Has fs g → key_of f ≡ key_of g → f ≡ g
one_key [] f g apart h k e = absurd h
one_key (x ∷ xs) f g apart (inl a) (inl b) e = a ∙ sym b
one_key (x ∷ xs) f g apart (inl a) (inr k) e = absurd (each_has (Apart x) xs g apart.0 k (ap key_of (sym a) ∙ e))
one_key (x ∷ xs) f g apart (inr h) (inl b) e = absurd (each_has (Apart x) xs f apart.0 h (ap key_of (sym b) ∙ sym e))
one_key (x ∷ xs) f g apart (inr h) (inr k) e = one_key xs f g apart.1 h k e

-- some of a list's forms
unless_apart : (test : Form → Bool) (fs : List Form) → Pairs Apart fs → Pairs Apart (flat_map (λ (f : Form). unless (test f) f) fs)
unless_apart test fs apart = pairs_flat_map Apart Apart (λ (f : Form). unless (test f) f) (λ f g differ. across (test f) (test g) f g differ) fs (own fs) apart
  where
    across : (b d : Bool) (f g : Form) → Apart f g → Across Apart (unless b f) (unless d g)
    across true d f g differ = tt
    across false true f g differ = (tt, tt)
    across false false f g differ = ((differ, tt), tt)

    alone : (b : Bool) (f : Form) → Pairs Apart (unless b f)
    alone true f = tt
    alone false f = (tt, tt)

    own : (gs : List Form) → AllByRecursion (λ (f : Form). Pairs Apart (unless (test f) f)) gs
    own [] = tt
    own (g ∷ gs) = (alone (test g) g, own gs)

is_some_not : {A : Type 0} (o : Option A) (x : A) → o ≡ Some x → o ≡ None → ⊥
is_some_not o x e none = let never : Some x ≡ None = sym e ∙ none in cc

-- the value behind what was put and dropped
value_put : (puts : List Record) (drops : List (List ℕ)) (key value : List ℕ) (old : Option (List ℕ)) → value_at puts key ≡ Some value → value_after puts drops key old ≡ Some value
value_put puts drops key value old e = rw e refl

value_dropped : (puts : List Record) (drops : List (List ℕ)) (key : List ℕ) (old : Option (List ℕ)) → value_at puts key ≡ None → list_any (same_text key) drops ≡ true → value_after puts drops key old ≡ None
value_dropped puts drops key old e d = rw (e, d) refl

value_stays : (puts : List Record) (drops : List (List ℕ)) (key : List ℕ) (old : Option (List ℕ)) → value_at puts key ≡ None → list_any (same_text key) drops ≡ false → value_after puts drops key old ≡ old
value_stays puts drops key old e d = rw (e, d) refl

is_true_not : (b : Bool) → b ≡ true → b ≡ false → ⊥
is_true_not true e f = cc
is_true_not false e f = cc

-- a graph of a sound catalog is one
module _ (name : List ℕ) where
  one_graph : (c : CatalogData) (g : CatalogGraph) → held_in c name ≡ Some g → is_sound c ≡ true → is_graph g.graph ≡ true
  one_graph c g there sound =
      let ones = (and_parts (texts_ascend (names c.graphs) && texts_ascend (names c.types)) (list_all is_one c.graphs) (sound_catalog c sound)).1 in
      all_has is_one c.graphs (name, g) ones (named_has name c.graphs g there)

module _ (c : CatalogData) (name : List ℕ) (before : PropertyGraph) (after : CatalogGraph) (there : held_in c name ≡ Some after) (sound : is_sound c ≡ true) (was_sound : is_sound (replaced name before c) ≡ true) where
  abbrev was : CatalogData
  was = replaced name before c

  abbrev news : List Form
  news = new_forms name before after

  abbrev gones : List Form
  gones = gone_forms name before after

  up : InOrder NameLess c.graphs
  up = names_in_order c.graphs (ascending c (sound_catalog c sound))

  now_apart : Pairs Apart (catalog_forms c)
  now_apart = catalog_apart c (sound_catalog c sound)

  new_is : (f : Form) → Has news f → Says c f
  new_is = change.new_says c name before after there up

  abbrev then_graph : CatalogGraph
  then_graph = with_type_of after before

  was_one : is_graph before ≡ true
  was_one = one_graph name was then_graph (held_replaced name c before after there) was_sound

  gone_unsaid : (f : Form) → Has gones f → (g : Form) → Says c g → key_of g ≡ key_of f → ⊥
  gone_unsaid = change.gone_unsaid c name before after there up (sound_facts c sound).graphs_fit (graph_facts before was_one)

  news_apart : Pairs Apart news
  news_apart = unless_apart (is_said before) (graph_forms (name, after)) (graph_apart (name, after) (one_graph name c after there sound))

  gones_apart : Pairs Apart gones
  gones_apart = unless_apart (is_keyed after.graph) (graph_forms (name, then_graph)) (graph_apart (name, then_graph) was_one)

  abbrev Differ : List ℕ → List ℕ → Type 0
  Differ a b = a ≢ b

  across : Across Differ (map key_of news) (map key_of gones)
  across =
      all_map (λ (a : List ℕ). AllByRecursion (Differ a) (map key_of gones)) key_of news
      (each_from (λ (f : Form). AllByRecursion (Differ (key_of f)) (map key_of gones)) news
      (λ f new. all_map (Differ (key_of f)) key_of gones (each_from (λ (g : Form). Differ (key_of f) (key_of g)) gones (λ g gone e. gone_unsaid g gone f (new_is f new) e))))

  all_differ : Pairs Differ (map key_of news ++ map key_of gones)
  all_differ = pairs_append Differ (map key_of news) (map key_of gones) (pairs_map Differ key_of news news_apart) (pairs_map Differ key_of gones gones_apart) across

  -- no key is told twice
  pub told_once : texts_differ (keys (map record_of news) ++ map key_of gones) ≡ true
  told_once = texts_apart (keys (map record_of news) ++ map key_of gones) (subst (λ (ks : List (List ℕ)). Pairs Differ (ks ++ map key_of gones)) (sym (keys_are news)) all_differ)

  module _ (was_fit : AllByRecursion IsForm (catalog_forms was)) (new_fit : AllByRecursion IsForm news) where
    was_form : (f : Form) → Says was f → IsForm f
    was_form f s = each_has IsForm (catalog_forms was) f was_fit (form_says was f s)

    now_form : (f : Form) → Says c f → IsForm f
    now_form f s = elim (change.was_or_new c name before after there up f s) [ inl a ↦ was_form f a | inr h ↦ each_has IsForm news f new_fit h ]

    -- all that is said now can be said
    now_fit : AllByRecursion IsForm (catalog_forms c)
    now_fit = each_from IsForm (catalog_forms c) (λ f h. now_form f (says_form c f h))

    -- keys that are dropped are those of what is gone
    drop_of : (key : List ℕ) → list_any (same_text key) (map key_of gones) ≡ true → (f : Form) × Has gones f × (key_of f ≡ key)
    drop_of key any =
        let a = any_back (same_text key) (map key_of gones) any in
        let b = has_map_back key_of gones a.0 a.1 in
        (b.0, b.1, sym b.2 ∙ sym (same_is key a.0 a.2))

    is_dropped : (f : Form) → Has gones f → list_any (same_text (key_of f)) (map key_of gones) ≡ true
    is_dropped f h = any_has (same_text (key_of f)) (map key_of gones) (key_of f) (has_map key_of gones f h) (text_same (key_of f))

    put_of : (key value : List ℕ) → value_at (map record_of news) key ≡ Some value → (f : Form) × Has news f × (record_with key value ≡ record_of f)
    put_of key value e = has_map_back record_of news (record_with key value) (has_from (map record_of news) (record_with key value) (value_contained (map record_of news) key value e))

    module _ (h k : Holding) (are : AreRecordsOf h.records was) (told : AppliesInOrder (map record_of news) (map key_of gones) h k) where
      abbrev puts : List Record
      puts = map record_of news

      abbrev drops : List (List ℕ)
      drops = map key_of gones

      -- what stands at a key behind it
      at : (key : List ℕ) → value_at k.records key ≡ value_after puts drops key (value_at h.records key)
      at key = told.0.values key

      put_at : (g : Form) → Has news g → value_at puts (key_of g) ≡ Some (record_of g).value
      put_at g new = value_alone puts (record_of g) (pairs_map (λ (a b : Record). a.key ≢ b.key) record_of news news_apart) (has_map record_of news g new)

      abbrev Told : Record → Type 0
      Told r = (f : Form) × Contains (catalog_forms c) f × (r ≡ record_of f)

      said_put : (r : Record) (value : List ℕ) → value_at puts r.key ≡ Some value → value_at k.records r.key ≡ Some r.value → Told r
      said_put r value e is =
          let one : Some value ≡ Some r.value = sym (value_put puts drops r.key value (value_at h.records r.key) e) ∙ sym (at r.key) ∙ is in
          let same : value ≡ r.value = cc in
          let p = put_of r.key r.value (e ∙ ap (λ (v : List ℕ). Some v) same) in
          (p.0, contains_from (catalog_forms c) p.0 (form_says c p.0 (new_is p.0 p.1)), p.2)

      -- what stays of the old records is said now
      said_old : (f : Form) (r : Record) → r ≡ record_of f → Says was f → value_at puts r.key ≡ None → list_any (same_text r.key) drops ≡ false → Told r
      said_old f r is s no_put no_drop =
          elim (change.keyed_or_gone c name before after there up f s) [
            | inl g ↦ still g.0 g.1 g.2
            | inr gone ↦ absurd (is_true_not (list_any (same_text (key_of f)) drops) (is_dropped f gone) (ap (λ (x : Record). list_any (same_text x.key) drops) (sym is) ∙ no_drop))
          ]
        where
          still : (g : Form) → Says c g → key_of g ≡ key_of f → Told r
          still g now e =
              elim (change.was_or_new c name before after there up g now) [
                | inl old ↦
                    let one : g ≡ f = one_key (catalog_forms was) g f (catalog_apart was (sound_catalog was was_sound)) (form_says was g old) (form_says was f s) e in
                    (g, contains_from (catalog_forms c) g (form_says c g now), is ∙ ap record_of (sym one))
                | inr new ↦ absurd (is_some_not (value_at puts r.key) (record_of g).value (ap (λ (x : List ℕ). value_at puts x) (ap (λ (x : Record). x.key) is ∙ sym e) ∙ put_at g new) no_put)
              ]

      said_case : (o : Option (List ℕ)) (b : Bool) (r : Record) → value_at puts r.key ≡ o → list_any (same_text r.key) drops ≡ b → value_at k.records r.key ≡ Some r.value → Told r
      said_case (Some value) b r e d is = said_put r value e is
      said_case None true r e d is = absurd (is_some_not (value_at k.records r.key) r.value is (at r.key ∙ value_dropped puts drops r.key (value_at h.records r.key) e d))
      said_case None false r e d is =
          let old : value_at h.records r.key ≡ Some r.value = sym (value_stays puts drops r.key (value_at h.records r.key) e d) ∙ sym (at r.key) ∙ is in
          let s = are.said r (value_contained h.records r.key r.value old) in
          said_old s.0 r s.2 (says_form was s.0 (has_from (catalog_forms was) s.0 s.1)) e d

      said : (r : Record) → Contains k.records r → Told r
      said r in_k = said_case (value_at puts r.key) (list_any (same_text r.key) drops) r refl refl (contained_value k.records r told.1 in_k)

      in_store : (f : Form) → value_at k.records (key_of f) ≡ Some (record_of f).value → Contains k.records (record_of f)
      in_store f e = value_contained k.records (key_of f) (record_of f).value e

      kept_new : (f : Form) → Has news f → value_at k.records (key_of f) ≡ Some (record_of f).value
      kept_new f new = at (key_of f) ∙ value_put puts drops (key_of f) (record_of f).value (value_at h.records (key_of f)) (put_at f new)

      -- what is said still stands as it stood, or is put once more
      kept_old : (o : Option (List ℕ)) (b : Bool) (f : Form) → Says c f → Says was f → value_at puts (key_of f) ≡ o → list_any (same_text (key_of f)) drops ≡ b → value_at k.records (key_of f) ≡ Some (record_of f).value
      kept_old (Some value) b f now old e d =
          let p = put_of (key_of f) value e in
          let same_key : key_of p.0 ≡ key_of f = ap (λ (x : Record). x.key) (sym p.2) in
          let one : p.0 ≡ f = one_key (catalog_forms c) p.0 f now_apart (form_says c p.0 (new_is p.0 p.1)) (form_says c f now) same_key in
          kept_new f (subst (Has news) one p.1)
      kept_old None true f now old e d =
          let g = drop_of (key_of f) d in
          absurd (gone_unsaid g.0 g.1 f now (sym g.2))
      kept_old None false f now old e d =
          at (key_of f) ∙ value_stays puts drops (key_of f) (value_at h.records (key_of f)) e d
          ∙ contained_value h.records (record_of f) are.ascend (are.kept f (contains_from (catalog_forms was) f (form_says was f old)))

      kept : (f : Form) → Contains (catalog_forms c) f → Contains k.records (record_of f)
      kept f in_c =
          let now = says_form c f (has_from (catalog_forms c) f in_c) in
          in_store f (elim (change.was_or_new c name before after there up f now) [
            | inl old ↦ kept_old (value_at puts (key_of f)) (list_any (same_text (key_of f)) drops) f now old refl refl
            | inr new ↦ kept_new f new
          ])

      -- the store stands for the catalog
      pub stands_told : StandFor k.records c
      stands_told = by_records k.records refl
        where
          by_records : (rs : List Record) → k.records ≡ rs → StandFor k.records c
          by_records [] e = absurd (has_from [] (record_of version) (subst (λ (xs : List Record). Contains xs (record_of version)) e (kept version (contains_from (catalog_forms c) version (inl refl)))))
          by_records (r ∷ rs) e = subst (λ (xs : List Record). StandFor xs c) (sym e) (sound, now_fit, subst (λ (xs : List Record). AreRecordsOf xs c) e (record { ascend = told.1; said = said; kept = kept }))

-- a store that keeps the catalog before keeps the other
module _ (c : CatalogData) (name : List ℕ) (before : PropertyGraph) (after : CatalogGraph) (there : held_in c name ≡ Some after) (sound : is_sound c ≡ true) (was_sound : is_sound (replaced name before c) ≡ true) where
  stands_case : (rs : List Record) (h k : Holding) → h.records ≡ rs → (h.records ≡ [] → ⊥) → StandFor rs (replaced name before c) → AllByRecursion IsForm (new_forms name before after)
      → AppliesInOrder (map record_of (new_forms name before after)) (map key_of (gone_forms name before after)) h k → StandFor k.records c
  stands_case [] h k e some stands new_fit told = absurd (some e)
  stands_case (r ∷ rs) h k e some stands new_fit told =
      stands_told c name before after there sound was_sound stands.1 new_fit h k (subst (λ (xs : List Record). AreRecordsOf xs (replaced name before c)) (sym e) stands.2) told

  pub keeps_changed : (a b : Option Holding) → ((h : Holding) → a ≡ Some h → h.records ≡ [] → ⊥) → AllByRecursion IsForm (new_forms name before after)
      → MatchTold a b (AppliesInOrder (map record_of (new_forms name before after)) (map key_of (gone_forms name before after))) → Keeps a (replaced name before c) → Keeps b c
  keeps_changed None None some fit told keeps = tt
  keeps_changed None (Some k) some fit told keeps = absurd told
  keeps_changed (Some h) None some fit told keeps = absurd told
  keeps_changed (Some h) (Some k) some fit told keeps = stands_case h.records h k refl (some h refl) keeps fit told

-- a store without records that is told all of them keeps the catalog
pub keeps_all : (a b : Option Holding) (all : List Record) (c : CatalogData) → ((h : Holding) → a ≡ Some h → h.records ≡ []) → keys_ascend all ≡ true → StandFor all c → MatchTold a b (AppliesInOrder all []) → Keeps b c
keeps_all None None all c none ascend stands told = tt
keeps_all None (Some k) all c none ascend stands told = absurd told
keeps_all (Some h) None all c none ascend stands told = absurd told
keeps_all (Some h) (Some k) all c none ascend stands told =
    elim ((leads_empty [] all h k ascend (none h refl) told).empty (none h refl)) [
      | inl is ↦ subst (λ (rs : List Record). StandFor rs c) (sym is) stands
      | inr same ↦ subst (λ (rs : List Record). StandFor rs c) (sym (same.0 ∙ sym same.1)) stands
    ]
