-- The node of a number that stands at some place is the one that is found.
use Rattle.std.proofs.Common.{◌≡◌, ℕ, zero, suc, ◌<◌, Bool, true, false, cond, ◌==◌, nat_lt, ◌^◌, List, [], ◌∷◌, length, get_or, map, Some, sym, ap, ◌∙◌, arith}
use Rattle.std.specs.Prelude.{find, slice_get}
use Rattle.std.proofs.lemmas.Bool.{and_parts}
use Rattle.std.proofs.lemmas.Bool.Decides.{nat_tests}
use Rattle.gql_values3.specs.PropertyGraph.{numbers_ascend}
use Rattle.gql_values3.specs.declared.element.NodeId.{NodeId}
use Rattle.gql_values3.specs.declared.records.NodeRecord.{NodeRecord}
use Rattle.gql_graph.specs.Machinery.Ascending.{AscendsTo}
use Rattle.gql_type.specs.Machinery.InOrder.{node_of_number}

module _ {A : Type 0} (key : A → ℕ) (high : ℕ) where
  -- all items are above the bound
  got_above : (low : ℕ) (xs : List A) (i : ℕ) (y : A) → numbers_ascend low (map key xs) high ≡ true → slice_get xs i ≡ Some y → low < key y
  got_above low [] i y up e = absurd (cc)
  got_above low (x ∷ xs) zero y up e =
      let parts = and_parts (nat_lt low (key x)) (numbers_ascend (key x) (map key xs) high) up in
      let same : x ≡ y = cc in
      let below : low < key x = grind (arith, nat_tests, parts.0) in
      omega (arith, ap key same)
  got_above low (x ∷ xs) (suc i) y up e =
      let parts = and_parts (nat_lt low (key x)) (numbers_ascend (key x) (map key xs) high) up in
      let below : low < key x = grind (arith, nat_tests, parts.0) in
      let above : key x < key y = got_above (key x) xs i y parts.1 e in
      omega arith

  pub got_found : (low : ℕ) (xs : List A) (i : ℕ) (y : A) → numbers_ascend low (map key xs) high ≡ true → slice_get xs i ≡ Some y → find (λ x. key x == key y) xs ≡ Some y
  got_found low [] i y up e = absurd (cc)
  got_found low (x ∷ xs) zero y up e =
      let same : x ≡ y = cc in
      let tie : (key x == key y) ≡ true = let k : key x ≡ key y = ap key same in grind (arith, nat_tests) in
      ap (λ (b : Bool). cond b (Some x) (find (λ z. key z == key y) xs)) tie ∙ ap (λ (z : A). Some z) same
  got_found low (x ∷ xs) (suc i) y up e =
      let parts = and_parts (nat_lt low (key x)) (numbers_ascend (key x) (map key xs) high) up in
      let above : key x < key y = got_above (key x) xs i y parts.1 e in
      let apart : (key x == key y) ≡ false = grind (arith, nat_tests) in
      ap (λ (b : Bool). cond b (Some x) (find (λ z. key z == key y) xs)) apart ∙ got_found (key x) xs i y parts.1 e

got : {A : Type 0} (xs : List A) (i : ℕ) (y : A) → i < length xs → y ≡ get_or xs i y → slice_get xs i ≡ Some y
got [] i y lt e = absurd (omega arith)
got (x ∷ xs) zero y lt e = ap Some (sym e)
got (x ∷ xs) (suc i) y lt e = got xs i y (omega arith) e

-- among nodes by ascending number
pub node_at_place : (nodes : List NodeRecord) (i : ℕ) (r : NodeRecord) (n : NodeId) → AscendsTo (λ (x : NodeRecord). x.number.0) nodes → i < length nodes → r ≡ get_or nodes i r → r.number.0 ≡ n.0
    → Some r ≡ node_of_number nodes n
node_at_place nodes i r n up lt e same =
    let found = got_found (λ (x : NodeRecord). x.number.0) up.0 0 nodes i r up.1 (got nodes i r lt e) in
    sym found ∙ ap (λ (k : ℕ). find (λ (x : NodeRecord). x.number.0 == k) nodes) same
