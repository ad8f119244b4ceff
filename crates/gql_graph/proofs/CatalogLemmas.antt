-- A catalog's graphs with their room, and without it.
use Rattle.std.proofs.Common.{◌≡◌, ◌∙◌, ℕ, suc, ◌<◌, ◌≤◌, nat_lt, cond, Bool, true, false, ◌&&◌, List, [], ◌∷◌, map, length, get_or, Option, None, Some, refl, sym, ap, arith}
use Rattle.std.proofs.lemmas.Bool.{and_parts}
use Rattle.std.specs.Prelude.{find, option_map, position, slice_set}
use Rattle.std.specs.List.{list_all, position_or_len}
use Rattle.std.specs.declared.cmp.Ordering.TheVariants.{Less}
use Rattle.std.specs.Cmp.Lexicographic as texts
use Rattle.std.proofs.lemmas.Cmp.{nat_list_cmp_total}
use Rattle.gql_values3.specs.Texts.{same_text, ascend_above, texts_ascend}
use Rattle.std.proofs.lemmas.Grind.{common_steps}
use Rattle.std.proofs.lemmas.Bool.Decides.{nat_tests}
use Rattle.gql_values3.specs.PropertyGraph.{PropertyGraph, is_graph}
use Rattle.gql_graph.specs.Catalog.{CatalogGraph, graph_of, is_catalog, replaced}
use Rattle.gql_graph.specs.Room.{GraphInMemory}
use Rattle.gql_graph.specs.Bare.{bare}
use Rattle.gql_graph.specs.declared.graph_type.GraphType.{GraphType}
use Rattle.gql_graph.specs.declared.held.Held.{Held}
use Rattle.gql_graph.proofs.AscendingTexts.{text_cmp, first_above, rest_above, above_ascends, apart}

-- what is found by the name is the same
pub find-bare : (p : List ℕ → Bool) (gs : List (List ℕ × Held)) → option_map (λ (g : GraphInMemory). g.graph) (option_map (λ (g : List ℕ × Held). g.1.graph) (find (λ (g : List ℕ × Held). p g.0) gs)) ≡ option_map (λ (g : List ℕ × CatalogGraph). g.1.graph) (find (λ (g : List ℕ × CatalogGraph). p g.0) (map bare gs))
find-bare p [] = refl
find-bare p (g ∷ gs) = grind (arith, common_steps, find-bare p gs)

-- one graph in the place of that of the name
abbrev put : List ℕ → PropertyGraph → List (List ℕ × CatalogGraph) → List (List ℕ × CatalogGraph)
put name graph gs = (replaced name graph (record { graphs = gs; types = [] })).graphs

abbrev pub names : {A : Type 0} → List (List ℕ × A) → List (List ℕ)
names {A} gs = map (λ (g : List ℕ × A). g.0) gs

-- a graph of a catalog is one
abbrev pub is_one : List ℕ × CatalogGraph → Bool
is_one g = is_graph g.1.graph

-- what is found behind the first item is found one place later
behind_first : {A : Type 0} (p : A → Bool) (a : A) (xs : List A) → p a ≡ false → position_or_len p (a ∷ xs) ≡ suc (position_or_len p xs)
behind_first p a xs fails = rw fails (omega arith)

-- what a position says
below : (l n : ℕ) → nat_lt l n ≡ true → l < n
below l n lt = grind (arith, nat_tests)

pub past_end : (l n : ℕ) → None ≡ cond (nat_lt l n) (Some l) None → n ≤ l
past_end l n none = grind (arith, nat_tests)

pub in_front : (l n i : ℕ) → Some i ≡ cond (nat_lt l n) (Some l) None → (l < n) × (i ≡ l)
in_front l n i found = told (nat_lt l n) refl found
  where
    told : (b : Bool) → b ≡ nat_lt l n → Some i ≡ cond b (Some l) None → (l < n) × (i ≡ l)
    told true is found = (below l n (sym is), cc)
    told false is found = absurd (cc)

module _ (name : List ℕ) (graph : PropertyGraph) where
  -- behind the name no graph has it
  rest_stays : (low : List ℕ) (gs : List (List ℕ × Held)) → ((c : List ℕ) → text_cmp low c ≡ Less → text_cmp name c ≡ Less) → ascend_above low (names gs) ≡ true → put name graph (map bare gs) ≡ map bare gs
  rest_stays low [] below up = refl
  rest_stays low (g ∷ gs) below up =
      let less : text_cmp name g.0 ≡ Less = below g.0 (first_above low g.0 (names gs) up) in
      let rest = rest_stays g.0 gs (λ c lt. nat_list_cmp_total.trans name g.0 c less lt) (rest_above low g.0 (names gs) up) in
      rw (apart name g.0 less) (ap (λ xs. bare g ∷ xs) rest)

  abbrev named : List ℕ × Held → Bool
  named g = same_text name g.0

  stays : (gs : List (List ℕ × Held)) → length gs ≤ position_or_len named gs → map bare gs ≡ put name graph (map bare gs)
  stays [] past = refl
  stays (g ∷ gs) past = grind (arith, common_steps, stays gs)

  -- one more graph with its type in that of the name
  abbrev with_room : GraphInMemory → List ℕ × Held → List ℕ × Held
  with_room room x = (x.0, record { graph = room; kind = x.1.kind })

  first_put : (room : GraphInMemory) (g x : List ℕ × Held) → room.graph ≡ graph → x ≡ g → bare (with_room room x) ≡ (g.0, record { graph = graph; kind = g.1.kind })
  first_put room g x is same = ap (λ (y : List ℕ × Held). bare (with_room room y)) same ∙ ap (λ (h : PropertyGraph). (g.0, record { graph = h; kind = g.1.kind })) is

  changes : (gs : List (List ℕ × Held)) (room : GraphInMemory) (x : List ℕ × Held) → room.graph ≡ graph → texts_ascend (names gs) ≡ true → position_or_len named gs < length gs → x ≡ get_or gs (position_or_len named gs) x → map bare (slice_set gs (position_or_len named gs) (with_room room x)) ≡ put name graph (map bare gs)
  changes [] room x is up within here = absurd (omega arith)
  changes (g ∷ gs) room x is up within here = told (same_text name g.0) refl (λ within here. changes gs room x is (above_ascends g.0 (names gs) up) within here)
    where
      told : (b : Bool) → same_text name g.0 ≡ b → (position_or_len named gs < length gs → x ≡ get_or gs (position_or_len named gs) x → map bare (slice_set gs (position_or_len named gs) (with_room room x)) ≡ put name graph (map bare gs)) → map bare (slice_set (g ∷ gs) (position_or_len named (g ∷ gs)) (with_room room x)) ≡ put name graph (map bare (g ∷ gs))
      told true same further =
          let last : put name graph (map bare gs) ≡ map bare gs = rest_stays g.0 gs (λ c lt. ap (λ (n : List ℕ). text_cmp n c) (texts.same_text name g.0 (sym same)) ∙ lt) up in
          let put_here = first_put room g x is (rw same at here) in
          rw same (rw (last, put_here) refl)
      told false other further =
          let past = behind_first named g gs other in
          let far : position_or_len named gs < length gs = let lt = rw past at within in omega (arith, lt) in
          let rest = further far (rw past at here) in
          rw (past, other) (ap (λ xs. bare g ∷ xs) rest)

  -- where no graph has the name, all stay
  pub put_nowhere : (gs : List (List ℕ × Held)) → None ≡ position named gs → map bare gs ≡ put name graph (map bare gs)
  put_nowhere gs none = stays gs (past_end _ _ none)

  -- where one has it, that one is another
  pub put_there : (gs : List (List ℕ × Held)) (i : ℕ) (room : GraphInMemory) (x : List ℕ × Held) → room.graph ≡ graph → texts_ascend (names gs) ≡ true → Some i ≡ position named gs → x ≡ get_or gs i x → map bare (slice_set gs i (x.0, record { graph = room; kind = x.1.kind })) ≡ put name graph (map bare gs)
  put_there gs i room x is up found here =
      let at = in_front (position_or_len named gs) (length gs) i found in
      rw at.1 (changes gs room x is up at.0 (rw at.1 at here))

  abbrev found : List (List ℕ × Held) → Option PropertyGraph
  found gs = graph_of (record { graphs = map bare gs; types = [] }) name

  missed : (gs : List (List ℕ × Held)) → length gs ≤ position_or_len named gs → None ≡ found gs
  missed [] past = refl
  missed (g ∷ gs) past = grind (arith, common_steps, missed gs)

  finds : (gs : List (List ℕ × Held)) (x : List ℕ × Held) → position_or_len named gs < length gs → x ≡ get_or gs (position_or_len named gs) x → Some x.1.graph.graph ≡ found gs
  finds [] x within here = absurd (omega arith)
  finds (g ∷ gs) x within here = told (same_text name g.0) refl (finds gs x)
    where
      told : (b : Bool) → same_text name g.0 ≡ b → (position_or_len named gs < length gs → x ≡ get_or gs (position_or_len named gs) x → Some x.1.graph.graph ≡ found gs) → Some x.1.graph.graph ≡ found (g ∷ gs)
      told true same further = rw same (ap (λ (y : List ℕ × Held). Some y.1.graph.graph) (rw same at here))
      told false other further =
          let past = behind_first named g gs other in
          let far : position_or_len named gs < length gs = let lt = rw past at within in omega (arith, lt) in
          rw other (further far (rw past at here))

  -- where no graph has the name, none is found
  pub found_nowhere : (gs : List (List ℕ × Held)) → None ≡ position named gs → None ≡ found gs
  found_nowhere gs none = missed gs (past_end _ _ none)

  -- where one has it, that one is found
  pub found_there : (gs : List (List ℕ × Held)) (i : ℕ) (x : List ℕ × Held) → Some i ≡ position named gs → x ≡ get_or gs i x → Some x.1.graph.graph ≡ found gs
  found_there gs i x is here =
      let at = in_front (position_or_len named gs) (length gs) i is in
      finds gs x at.0 (rw at.1 at here)

  -- the names stay, and each graph is one
  names-put : (gs : List (List ℕ × CatalogGraph)) → names (put name graph gs) ≡ names gs
  names-put [] = refl
  names-put (g ∷ gs) = grind (arith, common_steps, names-put gs)

  graphs-put : is_graph graph ≡ true → (gs : List (List ℕ × CatalogGraph)) → list_all is_one gs ≡ true → list_all is_one (put name graph gs) ≡ true
  graphs-put one [] all = refl
  graphs-put one (g ∷ gs) all =
      let rest = graphs-put one gs (and_parts (is_one g) _ all).1 in
      put_one (same_text name g.0) g one (and_parts (is_one g) _ all).0 rest
    where
      put_one : (b : Bool) (g : List ℕ × CatalogGraph) → is_graph graph ≡ true → is_one g ≡ true → {r : Bool} → r ≡ true → (is_one (cond b (g.0, record { graph = graph; kind = g.1.kind }) g) && r) ≡ true
      put_one true g one old rest = cc
      put_one false g one old rest = cc

  pub catalog-put : (gs : List (List ℕ × CatalogGraph)) (ts : List (List ℕ × GraphType)) → is_graph graph ≡ true → is_catalog (record { graphs = gs; types = ts }) ≡ true → is_catalog (record { graphs = put name graph gs; types = ts }) ≡ true
  catalog-put gs ts one held =
      let in_order : (texts_ascend (names gs) && texts_ascend (names ts)) ≡ true = (and_parts _ (list_all is_one gs) held).0 in
      let all = graphs-put one gs (and_parts (texts_ascend (names gs) && texts_ascend (names ts)) _ held).1 in
      let types_ascend : texts_ascend (names ts) ≡ true = (and_parts (texts_ascend (names gs)) _ in_order).1 in
      let ascend : texts_ascend (names (put name graph gs)) ≡ true = rw (names-put gs) (and_parts _ (texts_ascend (names ts)) in_order).0 in
      cc

-- a catalog's names
pub names-bare : (gs : List (List ℕ × Held)) → names (map bare gs) ≡ names gs
names-bare [] = refl
names-bare (g ∷ gs) = ap (λ ts. g.0 ∷ ts) (names-bare gs)
