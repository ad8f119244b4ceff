-- A graph in the place of another, and that one back again.
use Rattle.std.proofs.Common.{◌≡◌, ℕ, Bool, true, false, cond, ◌&&◌, List, [], ◌∷◌, map, Option, Some, None, refl, sym, ap, subst, ◌∙◌, inl, inr}
use Rattle.std.specs.Prelude.{find, option_map, if◌then◌else◌}
use Rattle.std.proofs.lemmas.Bool.{and_parts}
use Rattle.gql_values3.specs.PropertyGraph.{PropertyGraph, is_graph}
use Rattle.gql_values3.specs.Texts.{same_text, texts_ascend}
use Rattle.gql_values3.proofs.WordLemmas.{same_is}
use Rattle.gql_graph.specs.Catalog.{CatalogGraph, CatalogData, is_catalog, graph_of, held_in, named, replaced}
use Rattle.gql_graph.proofs.CatalogLemmas.{names}
use Rattle.std.specs.List.{list_all}
use Rattle.gql_graph.specs.Room.{GraphInMemory}
use Rattle.gql_rowcode.proofs.MemberLemmas.{Has}
use Rattle.gql_rowcode.proofs.NameLemmas.{names_in_order, named_has, one_named}
use Rattle.gql_txn.specs.declared.kept.Kept.{Kept}
use Rattle.gql_txn.specs.declared.kept.Kept.TheVariants as form
use Rattle.gql_txn.specs.Machinery.Meaning.{kept_of}

-- a graph found by its name is one with its type
held_from : (o : Option (List ℕ × CatalogGraph)) (g : PropertyGraph) → option_map (λ (p : List ℕ × CatalogGraph). p.1.graph) o ≡ Some g → (w : CatalogGraph) × (option_map (λ (p : List ℕ × CatalogGraph). p.1) o ≡ Some w) × (w.graph ≡ g)
held_from None g e = absurd (cc)
held_from (Some p) g e = (p.1, refl, cc)

not_held : (o : Option (List ℕ × CatalogGraph)) → option_map (λ (p : List ℕ × CatalogGraph). p.1.graph) o ≡ None → option_map (λ (p : List ℕ × CatalogGraph). p.1) o ≡ None
not_held None e = refl
not_held (Some p) e = absurd (cc)

map_stays : {X : Type 0} (f : X → X) (xs : List X) → ((x : X) → Has xs x → f x ≡ x) → map f xs ≡ xs
map_stays f [] stays = refl
map_stays f (x ∷ xs) stays = (λ i. stays x (inl refl) i ∷ map_stays f xs (λ y h. stays y (inr h)) i)

pub ascending : (c : CatalogData) → is_catalog c ≡ true → texts_ascend (names c.graphs) ≡ true
ascending c h =
    let both = and_parts (texts_ascend (names c.graphs) && texts_ascend (names c.types)) (list_all (λ (g : List ℕ × CatalogGraph). is_graph g.1.graph) c.graphs) h in
    (and_parts (texts_ascend (names c.graphs)) (texts_ascend (names c.types)) both.0).0

module _ (name : List ℕ) where
  -- a graph in the place of that of the name
  abbrev put : PropertyGraph → List ℕ × CatalogGraph → List ℕ × CatalogGraph
  put graph p = if same_text name p.0 then (p.0, record { graph = graph; kind = p.1.kind }) else p

  twice_case : (b : Bool) (g h : PropertyGraph) (p : List ℕ × CatalogGraph) → same_text name p.0 ≡ b → put h (cond b (p.0, record { graph = g; kind = p.1.kind }) p) ≡ put h p
  twice_case true g h p e = rw e refl
  twice_case false g h p e = refl

  put_twice : (g h : PropertyGraph) (ps : List (List ℕ × CatalogGraph)) → map (put h) (map (put g) ps) ≡ map (put h) ps
  put_twice g h [] = refl
  put_twice g h (p ∷ ps) = (λ i. twice_case (same_text name p.0) g h p refl i ∷ put_twice g h ps i)

  -- the second graph stands there alone
  pub replaced_twice : (g h : PropertyGraph) (c : CatalogData) → replaced name h (replaced name g c) ≡ replaced name h c
  replaced_twice g h c = ap (λ (gs : List (List ℕ × CatalogGraph)). record { graphs = gs; types = c.types }) (put_twice g h c.graphs)

  -- a graph in its own place
  stays_case : (b : Bool) (g : PropertyGraph) (p : List ℕ × CatalogGraph) → (b ≡ true → p.1.graph ≡ g) → cond b (p.0, record { graph = g; kind = p.1.kind }) p ≡ p
  stays_case true g p same = ap (λ (h : PropertyGraph). (p.0, record { graph = h; kind = p.1.kind })) (sym (same refl))
  stays_case false g p same = refl

  pub replaced_itself : (c : CatalogData) (g : PropertyGraph) → is_catalog c ≡ true → graph_of c name ≡ Some g → replaced name g c ≡ c
  replaced_itself c g one there =
      let held = held_from (find (λ (p : List ℕ × CatalogGraph). same_text name p.0) c.graphs) g there in
      let up = names_in_order c.graphs (ascending c one) in
      let here : Has c.graphs (name, held.0) = named_has name c.graphs held.0 held.1 in
      let stays : (p : List ℕ × CatalogGraph) → Has c.graphs p → put g p ≡ p =
      λ p h. stays_case (same_text name p.0) g p
      (λ e.
      let own : Has c.graphs (name, p.1) = subst (λ (n : List ℕ). Has c.graphs (n, p.1)) (sym (same_is name p.0 e)) h in
      ap (λ (w : CatalogGraph). w.graph) (one_named name c.graphs p.1 held.0 up own here) ∙ held.2) in
      ap (λ (gs : List (List ℕ × CatalogGraph)). record { graphs = gs; types = c.types }) (map_stays (put g) c.graphs stays)

  -- what was there back again
  pub replaced_back : (c : CatalogData) (g h : PropertyGraph) → is_catalog c ≡ true → graph_of c name ≡ Some g → replaced name g (replaced name h c) ≡ c
  replaced_back c g h one there = replaced_twice h g c ∙ replaced_itself c g one there

  other_case : (b : Bool) (ps : List (List ℕ × CatalogGraph)) (p : List ℕ × CatalogGraph) → same_text name p.0 ≡ b → named name (p ∷ ps) ≡ None → (b ≡ false) × (named name ps ≡ None)
  other_case b ps p e none = apart b (find (λ (q : List ℕ × CatalogGraph). same_text name q.0) ps) (ap (λ (x : Bool). option_map (λ (q : List ℕ × CatalogGraph). q.1) (cond x (Some p) (find (λ (q : List ℕ × CatalogGraph). same_text name q.0) ps))) (sym e) ∙ none)
    where
      apart : (b : Bool) (o : Option (List ℕ × CatalogGraph)) → option_map (λ (q : List ℕ × CatalogGraph). q.1) (cond b (Some p) o) ≡ None → (b ≡ false) × (option_map (λ (q : List ℕ × CatalogGraph). q.1) o ≡ None)
      apart true o h = absurd (cc)
      apart false o h = (refl, h)

  none_put : (g : PropertyGraph) (ps : List (List ℕ × CatalogGraph)) → named name ps ≡ None → map (put g) ps ≡ ps
  none_put g [] none = refl
  none_put g (p ∷ ps) none =
      let rest = other_case (same_text name p.0) ps p refl none in
      (λ i. stays_case (same_text name p.0) g p (λ e. absurd (never (same_text name p.0) e rest.0)) i ∷ none_put g ps rest.1 i)
    where
      never : (b : Bool) → b ≡ true → b ≡ false → ⊥
      never true e f = cc
      never false e f = cc

  -- where no graph has the name, all stay
  pub replaced_nowhere : (c : CatalogData) (g : PropertyGraph) → held_in c name ≡ None → replaced name g c ≡ c
  replaced_nowhere c g none = ap (λ (gs : List (List ℕ × CatalogGraph)). record { graphs = gs; types = c.types }) (none_put g c.graphs none)

  pub replaced_missed : (c : CatalogData) (g : PropertyGraph) → graph_of c name ≡ None → replaced name g c ≡ c
  replaced_missed c g none = replaced_nowhere c g (not_held (find (λ (p : List ℕ × CatalogGraph). same_text name p.0) c.graphs) none)

  -- the graph that stands there now
  named_put : (g : PropertyGraph) (w : CatalogGraph) (ps : List (List ℕ × CatalogGraph)) → named name ps ≡ Some w → named name (map (put g) ps) ≡ Some (record { graph = g; kind = w.kind })
  named_put g w [] e = absurd (cc)
  named_put g w (p ∷ ps) e = by_case (same_text name p.0) refl (named_put g w ps)
    where
      by_case : (b : Bool) → same_text name p.0 ≡ b → (named name ps ≡ Some w → named name (map (put g) ps) ≡ Some (record { graph = g; kind = w.kind })) → named name (cond b (p.0, record { graph = g; kind = p.1.kind }) p ∷ map (put g) ps) ≡ Some (record { graph = g; kind = w.kind })
      by_case true same more =
          let here : Some p.1 ≡ Some w = sym (rw same refl) ∙ e in
          let is : p.1 ≡ w = cc in
          rw same (ap (λ (x : CatalogGraph). Some (record { graph = g; kind = x.kind })) is)
      by_case false other more = rw other (more (rw other at e))

  pub held_replaced : (c : CatalogData) (g : PropertyGraph) (w : CatalogGraph) → held_in c name ≡ Some w → held_in (replaced name g c) name ≡ Some (record { graph = g; kind = w.kind })
  held_replaced c g w there = named_put g w c.graphs there

  -- a catalog that is itself with another graph in one place has that graph there
  pub same_held : (c : CatalogData) (g : PropertyGraph) (w : CatalogGraph) → held_in c name ≡ Some w → c ≡ replaced name g c → g ≡ w.graph
  same_held c g w there same =
      let one : Some (record { graph = g; kind = w.kind }) ≡ Some w = sym (held_replaced c g w there) ∙ ap (λ (d : CatalogData). held_in d name) (sym same) ∙ there in
      let is : record { graph = g; kind = w.kind } ≡ w = cc in
      ap (λ (x : CatalogGraph). x.graph) is

  -- and one that has the same graph is the same
  pub held_same : (c : CatalogData) (g : PropertyGraph) (w : CatalogGraph) → is_catalog c ≡ true → held_in c name ≡ Some w → g ≡ w.graph → replaced name g c ≡ c
  held_same c g w one there same = replaced_itself c g one (graph_there (find (λ (p : List ℕ × CatalogGraph). same_text name p.0) c.graphs) there ∙ ap (λ (h : PropertyGraph). Some h) (sym same))
    where
      graph_there : (o : Option (List ℕ × CatalogGraph)) → option_map (λ (p : List ℕ × CatalogGraph). p.1) o ≡ Some w → option_map (λ (p : List ℕ × CatalogGraph). p.1.graph) o ≡ Some w.graph
      graph_there None e = absurd (cc)
      graph_there (Some p) e = let is : p.1 ≡ w = cc in ap (λ (x : CatalogGraph). Some x.graph) is

-- where a graph is kept, it doesn't matter which graph has taken its place
pub stays_kept : (name own : List ℕ) (h : GraphInMemory) (k : Kept) → k ≡ form.OneGraph own h → own ≡ name → (c : CatalogData) (g : PropertyGraph) → kept_of (replaced name g c) k ≡ kept_of c k
stays_kept name own h k is same c g =
    let twice : replaced own h.graph (replaced name g c) ≡ replaced own h.graph c = subst (λ (n : List ℕ). replaced own h.graph (replaced n g c) ≡ replaced own h.graph c) same (replaced_twice own g h.graph c) in
    subst (λ (x : Kept). kept_of (replaced name g c) x ≡ kept_of c x) (sym is) twice
