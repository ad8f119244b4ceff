-- The keys of forms in their order: what stands before what.
use Rattle.std.proofs.Common.{◌≡◌, ℕ, ◌∙◌, ◌^◌, ◌<◌, ltb, Bool, true, false, List, [], ◌∷◌, ◌++◌, map, refl, sym, ap, arith, inl, inr}
use Rattle.std.specs.Int.{w32, to_be_bytes}
use Rattle.std.specs.declared.cmp.Ordering.TheVariants.{Less, Equal, Greater}
use Rattle.std.specs.Ordering.{is_lt, nat_cmp, ordering_then}
use Rattle.std.specs.Cmp.Lexicographic.{slice_cmp}
use Rattle.std.proofs.lemmas.Bool.{ltb-true, and_parts, and_from, le-ltb, eq-eqb}
use Rattle.std.proofs.lemmas.List.{map_push}
use Rattle.gql_values3.specs.Texts.{ascend_above, texts_ascend}
use Rattle.gql_values3.specs.declared.records.NodeRecord.{NodeRecord}
use Rattle.gql_values3.specs.declared.records.EdgeRecord.{EdgeRecord}
use Rattle.gql_ports.specs.Held.{keys_ascend}
use Rattle.gql_ports.specs.declared.stored.Record.{Record}
use Rattle.gql_graph.specs.Catalog.{is_before}
use Rattle.gql_fields.specs.Spelling.{spelled}
use Rattle.gql_rowcode.specs.Records.{Form, version, graph_type, graph, node, edge, key_of, record_of}
use Rattle.gql_rowcode.proofs.MemberLemmas.{Has, InOrder, order_parts, order_map, has_map}
use Rattle.gql_rowcode.proofs.NameLemmas.{TextLess, texts_in_order, below_itself}
use Rattle.gql_rowcode.proofs.OrderLemmas.{be_order}

-- the key of the one is below that of the other
abbrev pub ComesBefore : Form → Form → Type 0
ComesBefore f g = is_before (key_of f) (key_of g) ≡ true

-- the key of a record
abbrev pub record_key : Record → List ℕ
record_key r = r.key

pub keys_are : (fs : List Form) → map record_key (map record_of fs) ≡ map key_of fs
keys_are [] = refl
keys_are (f ∷ fs) = ap (λ (ks : List (List ℕ)). key_of f ∷ ks) (keys_are fs)

-- forms by the order of their keys
pub forms_in_order : (fs : List Form) → keys_ascend (map record_of fs) ≡ true → InOrder ComesBefore fs
forms_in_order fs up = order_map TextLess key_of fs (texts_in_order (map key_of fs) (ap texts_ascend (sym (keys_are fs)) ∙ up))

-- all before the last come before it
pub all_before : (fs : List Form) (f : Form) → keys_ascend (map record_of fs ++ record_of f ∷ []) ≡ true → (g : Form) → Has fs g → ComesBefore g f
all_before fs f up g h =
    let pushed : map record_key (map record_of fs ++ record_of f ∷ []) ≡ map record_key (map record_of fs) ++ key_of f ∷ [] = map_push record_key (map record_of fs) (record_of f) in
    let is : map record_key (map record_of fs ++ record_of f ∷ []) ≡ map key_of fs ++ key_of f ∷ [] = pushed ∙ ap (λ (ks : List (List ℕ)). ks ++ key_of f ∷ []) (keys_are fs) in
    let parts = order_parts TextLess (map key_of fs) (key_of f) [] (texts_in_order (map key_of fs ++ key_of f ∷ []) (ap texts_ascend (sym is) ∙ up)) in
    parts.0 (key_of g) (has_map key_of fs g h)

-- ---- keys that begin alike

same_byte : (n : ℕ) (o : _) → ordering_then (nat_cmp n n) o ≡ o
same_byte n o = rw (le-ltb n n (omega arith), eq-eqb n n refl) refl

-- what stands behind the same bytes
pub same_front : (p x y : List ℕ) → slice_cmp nat_cmp (p ++ x) (p ++ y) ≡ slice_cmp nat_cmp x y
same_front [] x y = refl
same_front (n ∷ p) x y = same_byte n (slice_cmp nat_cmp (p ++ x) (p ++ y)) ∙ same_front p x y

numbers_below : (name : List ℕ) (m n : ℕ) → m < 2 ^ 32 → n < 2 ^ 32 → is_before (spelled name ++ to_be_bytes w32 m) (spelled name ++ to_be_bytes w32 n) ≡ true → m < n
numbers_below name m n small_m small_n e =
    ltb-true m n (sym (be_order m n small_m small_n) ∙ ap is_lt (sym (same_front (spelled name) (to_be_bytes w32 m) (to_be_bytes w32 n))) ∙ e)

-- elements of one graph are in the order of their numbers
pub nodes_before : (name : List ℕ) (a b : NodeRecord) → a.number.0 < 2 ^ 32 → b.number.0 < 2 ^ 32 → ComesBefore (node name a) (node name b) → a.number.0 < b.number.0
nodes_before name a b small_a small_b e = numbers_below name a.number.0 b.number.0 small_a small_b e

pub edges_before : (name : List ℕ) (a b : EdgeRecord) → a.number.0 < 2 ^ 32 → b.number.0 < 2 ^ 32 → ComesBefore (edge name a) (edge name b) → a.number.0 < b.number.0
edges_before name a b small_a small_b e = numbers_below name a.number.0 b.number.0 small_a small_b e

-- ---- some keys ascend where more do

above_front : (low : List ℕ) (xs ys : List (List ℕ)) → ascend_above low (xs ++ ys) ≡ true → ascend_above low xs ≡ true
above_front low [] ys up = refl
above_front low (x ∷ xs) ys up =
    let p = and_parts (is_before low x) (ascend_above x (xs ++ ys)) up in
    and_from (is_before low x) (ascend_above x xs) p.0 (above_front x xs ys p.1)

texts_front : (xs ys : List (List ℕ)) → texts_ascend (xs ++ ys) ≡ true → texts_ascend xs ≡ true
texts_front [] ys up = refl
texts_front (x ∷ xs) ys up = above_front x xs ys up

map_both : (xs ys : List Record) → map record_key (xs ++ ys) ≡ map record_key xs ++ map record_key ys
map_both [] ys = refl
map_both (x ∷ xs) ys = ap (λ (ks : List (List ℕ)). record_key x ∷ ks) (map_both xs ys)

pub keys_front : (xs ys : List Record) → keys_ascend (xs ++ ys) ≡ true → keys_ascend xs ≡ true
keys_front xs ys up = texts_front (map record_key xs) (map record_key ys) (ap texts_ascend (sym (map_both xs ys)) ∙ up)
