-- Names that are spelled with their length in front are compared by length and then by bytes; so what is noted of records in the order of
-- their keys stands in that order.
use Rattle.std.proofs.Common.{◌≡◌, ◌∙◌, ℕ, zero, suc, ◌+◌, ◌*◌, ◌^◌, ◌<◌, List, [], ◌∷◌, ◌++◌, map, length, get_or, Option, refl, sym, ap, subst, append_assoc, arith, inl, inr}
use Rattle.std.specs.Int.{w64, to_be_bytes}
use Rattle.std.specs.List.{flat_map}
use Rattle.std.specs.declared.cmp.Ordering.{Ordering}
use Rattle.std.specs.declared.cmp.Ordering.TheVariants.{Less, Equal, Greater}
use Rattle.std.specs.Ordering.{is_lt, nat_cmp, ordering_then}
use Rattle.std.specs.Cmp.Lexicographic.{slice_cmp}
use Rattle.std.proofs.lemmas.List.{append-nil, map_push}
use Rattle.std.proofs.lemmas.List.Concat.{flat_map-cons}
use Rattle.std.proofs.lemmas.Nat.{from_be_bytes-to_be_bytes_8}
use Rattle.gql_fields.specs.Spelling.{spelled}
use Rattle.gql_graph.specs.Catalog.{CatalogGraph, CatalogData}
use Rattle.gql_graph.specs.declared.graph_type.GraphType.{GraphType}
use Rattle.gql_values3.specs.PropertyGraph.{PropertyGraph}
use Rattle.gql_rowcode.specs.Records.{Form, version, graph_type, graph, node, edge, IsForm}
use Rattle.gql_rowcode.specs.FirstBad.{and_node, and_edge}
use Rattle.gql_rowcode.specs.Machinery.KeyOrder.{key_cmp, AreListed}
use Rattle.gql_rowcode.specs.Machinery.Noted.{note, new_graph}
use Rattle.gql_rowcode.proofs.MemberLemmas.{Has, PrecedesAll, InOrder, order_map, has_either, has_flat_map_back}
use Rattle.gql_graph.proofs.CatalogLemmas.{names}
use Rattle.gql_graph.proofs.AscendingTexts.{less_if}
use Rattle.gql_rowcode.proofs.SaidLemmas.{on_one, on_is}
use Rattle.gql_rowcode.proofs.OrderLemmas.{one_more, then_equal}
use Rattle.gql_rowcode.proofs.KeyLemmas.{ComesBefore}
use Rattle.gql_rowcode.proofs.NotedLemmas.{note_forms, noted}
use Rattle.gql_rowcode.proofs.PlaceLemmas.{has_get}

-- ---- eight digits

abbrev worth : ℕ → ℕ → ℕ → ℕ → ℕ → ℕ → ℕ → ℕ → ℕ
worth a b c d e f g h = ((((((a * 256 + b) * 256 + c) * 256 + d) * 256 + e) * 256 + f) * 256 + g) * 256 + h

module _ (a b c d e f g h p q r s t u v w : ℕ) (hb : b < 256) (hc : c < 256) (hd : d < 256) (he : e < 256) (hf : f < 256) (hg : g < 256) (hh : h < 256) (hq : q < 256) (hr : r < 256) (hs : s < 256) (ht : t < 256) (hu : u < 256) (hv : v < 256) (hw : w < 256) where
  abbrev later8 : Ordering
  later8 = ordering_then (nat_cmp h w) Equal

  abbrev later7 : Ordering
  later7 = ordering_then (nat_cmp g v) later8

  abbrev later6 : Ordering
  later6 = ordering_then (nat_cmp f u) later7

  abbrev later5 : Ordering
  later5 = ordering_then (nat_cmp e t) later6

  abbrev later4 : Ordering
  later4 = ordering_then (nat_cmp d s) later5

  abbrev later3 : Ordering
  later3 = ordering_then (nat_cmp c r) later4

  pub eight : slice_cmp nat_cmp (a ∷ b ∷ c ∷ d ∷ e ∷ f ∷ g ∷ h ∷ []) (p ∷ q ∷ r ∷ s ∷ t ∷ u ∷ v ∷ w ∷ []) ≡ nat_cmp (worth a b c d e f g h) (worth p q r s t u v w)
  eight =
      one_more a p b q later3 hb hq
      ∙ one_more (a * 256 + b) (p * 256 + q) c r later4 hc hr
      ∙ one_more ((a * 256 + b) * 256 + c) ((p * 256 + q) * 256 + r) d s later5 hd hs
      ∙ one_more (((a * 256 + b) * 256 + c) * 256 + d) (((p * 256 + q) * 256 + r) * 256 + s) e t later6 he ht
      ∙ one_more ((((a * 256 + b) * 256 + c) * 256 + d) * 256 + e) ((((p * 256 + q) * 256 + r) * 256 + s) * 256 + t) f u later7 hf hu
      ∙ one_more (((((a * 256 + b) * 256 + c) * 256 + d) * 256 + e) * 256 + f) (((((p * 256 + q) * 256 + r) * 256 + s) * 256 + t) * 256 + u) g v later8 hg hv
      ∙ one_more ((((((a * 256 + b) * 256 + c) * 256 + d) * 256 + e) * 256 + f) * 256 + g) ((((((p * 256 + q) * 256 + r) * 256 + s) * 256 + t) * 256 + u) * 256 + v) h w Equal hh hw
      ∙ then_equal (nat_cmp (worth a b c d e f g h) (worth p q r s t u v w))

-- the digit of that place
abbrev digit : ℕ → ℕ → ℕ
digit n i = get_or (to_be_bytes w64 n) i 0

worth_is : (n : ℕ) → n < 2 ^ 64 → worth (digit n 0) (digit n 1) (digit n 2) (digit n 3) (digit n 4) (digit n 5) (digit n 6) (digit n 7) ≡ n
worth_is n h = omega (arith, from_be_bytes-to_be_bytes_8 n h)

lengths_compared : (m n : ℕ) → m < 2 ^ 64 → n < 2 ^ 64 → slice_cmp nat_cmp (to_be_bytes w64 m) (to_be_bytes w64 n) ≡ nat_cmp m n
lengths_compared m n hm hn =
    eight (digit m 0) (digit m 1) (digit m 2) (digit m 3) (digit m 4) (digit m 5) (digit m 6) (digit m 7) (digit n 0) (digit n 1) (digit n 2) (digit n 3) (digit n 4) (digit n 5) (digit n 6) (digit n 7)
    (omega arith) (omega arith) (omega arith) (omega arith) (omega arith) (omega arith) (omega arith) (omega arith) (omega arith) (omega arith) (omega arith) (omega arith) (omega arith) (omega arith)
    ∙ ap (λ (k : ℕ). nat_cmp k (worth (digit n 0) (digit n 1) (digit n 2) (digit n 3) (digit n 4) (digit n 5) (digit n 6) (digit n 7))) (worth_is m hm) ∙ ap (nat_cmp m) (worth_is n hn)

-- ---- names behind their lengths

then_assoc : (a b c : Ordering) → ordering_then (ordering_then a b) c ≡ ordering_then a (ordering_then b c)
then_assoc Less b c = refl
then_assoc Equal b c = refl
then_assoc Greater b c = refl

behind_fronts : (p q x y : List ℕ) → length p ≡ length q → slice_cmp nat_cmp (p ++ x) (q ++ y) ≡ ordering_then (slice_cmp nat_cmp p q) (slice_cmp nat_cmp x y)
behind_fronts [] [] x y e = refl
behind_fronts [] (n ∷ q) x y e = absurd (omega arith)
behind_fronts (m ∷ p) [] x y e = absurd (omega arith)
behind_fronts (m ∷ p) (n ∷ q) x y e =
    ap (ordering_then (nat_cmp m n)) (behind_fronts p q x y (omega arith)) ∙ sym (then_assoc (nat_cmp m n) (slice_cmp nat_cmp p q) (slice_cmp nat_cmp x y))

pub spelled_order : (a b : List ℕ) → length a < 2 ^ 64 → length b < 2 ^ 64 → slice_cmp nat_cmp (spelled a) (spelled b) ≡ key_cmp a b
spelled_order a b ha hb =
    behind_fronts (to_be_bytes w64 (length a)) (to_be_bytes w64 (length b)) a b refl ∙ ap (λ (o : Ordering). ordering_then o (slice_cmp nat_cmp a b)) (lengths_compared (length a) (length b) ha hb)

abbrev KeyLess : List ℕ → List ℕ → Type 0
KeyLess a b = key_cmp a b ≡ Less

-- ---- names of types and of graphs, in the order of their forms

abbrev type_names : Form → List (List ℕ)
type_names (graph_type name t) = name ∷ []
type_names version = []
type_names (graph name k n e) = []
type_names (node name r) = []
type_names (edge name r) = []

abbrev graph_names : Form → List (List ℕ)
graph_names (graph name k n e) = name ∷ []
graph_names version = []
graph_names (graph_type name t) = []
graph_names (node name r) = []
graph_names (edge name r) = []

types_less : (f g : Form) (a b : List ℕ) → IsForm f → IsForm g → Has (type_names f) a → Has (type_names g) b → ComesBefore f g → KeyLess a b
types_less (graph_type m t) (graph_type n u) a b hf hg (inl p) (inl q) lt =
    let names_less : KeyLess m n = sym (spelled_order m n hf.0.1 hg.0.1) ∙ less_if (slice_cmp nat_cmp (spelled m) (spelled n)) lt in
    ap (λ (x : List ℕ). key_cmp x b) p ∙ ap (key_cmp m) q ∙ names_less
types_less (graph_type m t) (graph_type n u) a b hf hg (inl p) (inr q) lt = absurd q
types_less (graph_type m t) (graph_type n u) a b hf hg (inr p) q lt = absurd p
types_less (graph_type m t) version a b hf hg p q lt = absurd q
types_less (graph_type m t) (graph n k x y) a b hf hg p q lt = absurd q
types_less (graph_type m t) (node n r) a b hf hg p q lt = absurd q
types_less (graph_type m t) (edge n r) a b hf hg p q lt = absurd q
types_less version g a b hf hg p q lt = absurd p
types_less (graph m k x y) g a b hf hg p q lt = absurd p
types_less (node m r) g a b hf hg p q lt = absurd p
types_less (edge m r) g a b hf hg p q lt = absurd p

graphs_less : (f g : Form) (a b : List ℕ) → IsForm f → IsForm g → Has (graph_names f) a → Has (graph_names g) b → ComesBefore f g → KeyLess a b
graphs_less (graph m k x y) (graph n j u v) a b hf hg (inl p) (inl q) lt =
    let names_less : KeyLess m n = sym (spelled_order m n hf.0.1 hg.0.1) ∙ less_if (slice_cmp nat_cmp (spelled m) (spelled n)) lt in
    ap (λ (x : List ℕ). key_cmp x b) p ∙ ap (key_cmp m) q ∙ names_less
graphs_less (graph m k x y) (graph n j u v) a b hf hg (inl p) (inr q) lt = absurd q
graphs_less (graph m k x y) (graph n j u v) a b hf hg (inr p) q lt = absurd p
graphs_less (graph m k x y) version a b hf hg p q lt = absurd q
graphs_less (graph m k x y) (graph_type n t) a b hf hg p q lt = absurd q
graphs_less (graph m k x y) (node n r) a b hf hg p q lt = absurd q
graphs_less (graph m k x y) (edge n r) a b hf hg p q lt = absurd q
graphs_less version g a b hf hg p q lt = absurd p
graphs_less (graph_type m t) g a b hf hg p q lt = absurd p
graphs_less (node m r) g a b hf hg p q lt = absurd p
graphs_less (edge m r) g a b hf hg p q lt = absurd p

-- names of forms in order, at most one of each form
module _ (of : Form → List (List ℕ)) (few : (f : Form) → InOrder KeyLess (of f)) (less : (f g : Form) (a b : List ℕ) → IsForm f → IsForm g → Has (of f) a → Has (of g) b → ComesBefore f g → KeyLess a b) where
  join : (xs ys : List (List ℕ)) → InOrder KeyLess xs → InOrder KeyLess ys → ((a b : List ℕ) → Has xs a → Has ys b → KeyLess a b) → InOrder KeyLess (xs ++ ys)
  join [] ys hx hy all = hy
  join (x ∷ xs) ys hx hy all = (each, join xs ys hx.1 hy (λ a b h k. all a b (inr h) k))
    where
      each : PrecedesAll KeyLess x (xs ++ ys)
      each b h = elim (has_either xs ys b h) [ inl h ↦ hx.0 b h | inr h ↦ all x b (inl refl) h ]

  names_listed : (fs : List Form) → ((g : Form) → Has fs g → IsForm g) → InOrder ComesBefore fs → InOrder KeyLess (flat_map of fs)
  names_listed [] fits up = tt
  names_listed (f ∷ fs) fits up =
      rw flat_map-cons (join (of f) (flat_map of fs) (few f) (names_listed fs (λ g h. fits g (inr h)) up.1)
      (λ a b h k. let g = has_flat_map_back of fs b k in less f g.0 a b (fits f (inl refl)) (fits g.0 (inr g.1)) h g.2 (up.0 g.0 g.1)))

few_types : (f : Form) → InOrder KeyLess (type_names f)
few_types version = tt
few_types (graph_type name t) = (λ y h. absurd h, tt)
few_types (graph name k n e) = tt
few_types (node name r) = tt
few_types (edge name r) = tt

few_graphs : (f : Form) → InOrder KeyLess (graph_names f)
few_graphs version = tt
few_graphs (graph_type name t) = tt
few_graphs (graph name k n e) = (λ y h. absurd h, tt)
few_graphs (node name r) = tt
few_graphs (edge name r) = tt

-- ---- what is noted has these names

changed_names : (name : List ℕ) (change : PropertyGraph → PropertyGraph) (gs : List (List ℕ × CatalogGraph)) → names (map (on_one name change) gs) ≡ names gs
changed_names name change [] = refl
changed_names name change (g ∷ gs) =
    ap (λ (p : List ℕ × CatalogGraph). p.0 ∷ names (map (on_one name change) gs)) (on_is name change g) ∙ ap (λ (ns : List (List ℕ)). g.0 ∷ ns) (changed_names name change gs)

noted_types : (c : CatalogData) (f : Form) → names (note c f).types ≡ names c.types ++ type_names f
noted_types c version = sym (append-nil (names c.types))
noted_types c (graph_type name t) = map_push (λ (p : List ℕ × GraphType). p.0) c.types (name, t)
noted_types c (graph name k n e) = sym (append-nil (names c.types))
noted_types c (node name r) = sym (append-nil (names c.types))
noted_types c (edge name r) = sym (append-nil (names c.types))

noted_graphs : (c : CatalogData) (f : Form) → names (note c f).graphs ≡ names c.graphs ++ graph_names f
noted_graphs c version = sym (append-nil (names c.graphs))
noted_graphs c (graph_type name t) = sym (append-nil (names c.graphs))
noted_graphs c (graph name k n e) = map_push (λ (p : List ℕ × CatalogGraph). p.0) c.graphs (name, new_graph k n e)
noted_graphs c (node name r) = changed_names name (and_node r) c.graphs ∙ sym (append-nil (names c.graphs))
noted_graphs c (edge name r) = changed_names name (and_edge r) c.graphs ∙ sym (append-nil (names c.graphs))

all_types : (fs : List Form) (c : CatalogData) → names (note_forms c fs).types ≡ names c.types ++ flat_map type_names fs
all_types [] c = sym (append-nil (names c.types))
all_types (f ∷ fs) c =
    all_types fs (note c f) ∙ ap (λ (ns : List (List ℕ)). ns ++ flat_map type_names fs) (noted_types c f) ∙ append_assoc (names c.types) (type_names f) (flat_map type_names fs)
    ∙ ap (λ (ns : List (List ℕ)). names c.types ++ ns) (sym (flat_map-cons type_names f fs))

all_graphs : (fs : List Form) (c : CatalogData) → names (note_forms c fs).graphs ≡ names c.graphs ++ flat_map graph_names fs
all_graphs [] c = sym (append-nil (names c.graphs))
all_graphs (f ∷ fs) c =
    all_graphs fs (note c f) ∙ ap (λ (ns : List (List ℕ)). ns ++ flat_map graph_names fs) (noted_graphs c f) ∙ append_assoc (names c.graphs) (graph_names f) (flat_map graph_names fs)
    ∙ ap (λ (ns : List (List ℕ)). names c.graphs ++ ns) (sym (flat_map-cons graph_names f fs))

-- ---- by places

ordered_at : {X : Type 0} (Before : X → X → Type 0) (xs : List X) → InOrder Before xs → (i j : ℕ) (d : X) → i < j → j < length xs → Before (get_or xs i d) (get_or xs j d)
ordered_at Before [] up i j d lt within = absurd (omega arith)
ordered_at Before (x ∷ xs) up i zero d lt within = absurd (omega arith)
ordered_at Before (x ∷ xs) up zero (suc j) d lt within = up.0 (get_or xs j d) (has_get xs j d (omega arith))
ordered_at Before (x ∷ xs) up (suc i) (suc j) d lt within = ordered_at Before xs up.1 i j d (omega arith) (omega arith)

listed : {A : Type 0} (xs : List (List ℕ × A)) → InOrder KeyLess (names xs) → AreListed xs
listed {A} xs up = ordered_at (λ (a b : List ℕ × A). KeyLess a.0 b.0) xs (order_map KeyLess (λ (p : List ℕ × A). p.0) xs up)

module _ (fs : List Form) (fits : (g : Form) → Has fs g → IsForm g) (up : InOrder ComesBefore fs) where
  pub types_are_listed : AreListed (noted fs).types
  types_are_listed = listed (noted fs).types (subst (InOrder KeyLess) (sym (all_types fs (record { graphs = []; types = [] }))) (names_listed type_names few_types types_less fs fits up))

  pub graphs_are_listed : AreListed (noted fs).graphs
  graphs_are_listed = listed (noted fs).graphs (subst (InOrder KeyLess) (sym (all_graphs fs (record { graphs = []; types = [] }))) (names_listed graph_names few_graphs graphs_less fs fits up))
