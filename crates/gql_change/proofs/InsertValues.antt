-- What is evaluated by places is what the definition evaluates by names; where it succeeds, the values may be kept, and the
-- nodes of incoming columns that spots refer to are there.
use Rattle.std.proofs.Common.{◌≡◌, ℕ, ◌+◌, ◌<◌, Bool, true, false, cond, ◌||◌, List, [], ◌∷◌, ◌++◌, length, Option, Some, None, Result, Ok, Err, refl, sym, ap, ◌∙◌, arith, is_some, ◌==◌, nat_lt, append_assoc, append-nil, inl, inr}
use Rattle.std.proofs.lemmas.Bool.{and_from, or_cases}
use Rattle.std.specs.Prelude.{option_map, find}
use Rattle.std.proofs.lemmas.Bool.Decides.{nat_tests}
use Rattle.gql_values3.specs.Datum.{Datum, null, boolean, integer, text, list, node, edge, path}
use Rattle.gql_values3.specs.PropertyGraph.{PropertyGraph, is_among, is_storable}
use Rattle.gql_values3.specs.declared.element.Elem.{Elem}
use Rattle.gql_values3.specs.declared.element.Elem.TheVariants as elem
use Rattle.gql_values3.specs.declared.element.NodeId.{NodeId}
use Rattle.gql_values3.specs.declared.records.NodeRecord.{NodeRecord}
use Rattle.gql_values3.specs.declared.table.ColumnKind.{ColumnKind}
use Rattle.gql_values3.specs.declared.table.ColumnKind.TheVariants as kind
use Rattle.gql_ast.specs.Meaning.{tree_of}
use Rattle.gql_ast.specs.Scope.{row_scope, datum_of_name}
use Rattle.gql_ast.specs.Evaluation.{value_of}
use Rattle.gql_ast.specs.ElementTests.{element_in, undeleted}
use Rattle.gql_values3.specs.Lookup.{has_element}
use Rattle.gql_ast.specs.Faults.{◌>>=◌, each}
use Rattle.gql_ast.specs.ClauseColumns.{ColumnList, is_column}
use Rattle.gql_ast.specs.InsertColumns.{Spots, with_variable}
use Rattle.gql_ast.specs.declared.change.Fill.{Fill}
use Rattle.gql_ast.specs.declared.filler.MapItem.{MapItem}
use Rattle.gql_ast.specs.declared.fault.DataFault.{DataFault}
use Rattle.gql_ast.specs.declared.fault.DataFault.TheVariants as fault
use Rattle.gql_eval.specs.Machinery.Places.{place_among}
use Rattle.gql_eval.proofs.ScopeLemmas.{place_below}
use Rattle.gql_eval.specs.Machinery.Noting.{earlier}
use Rattle.gql_change.specs.Storing.{PropertyList, stored}
use Rattle.gql_change.specs.Insertion.{items_in, refers, map_values, node_there, endpoint, spot_values, spots_values}
use Rattle.gql_change.specs.Machinery.Roles.{Question, questions, datum_at, role_at, role_of, looked_at, item_value, spot_of, line_of}
use Rattle.gql_change.specs.declared.role.Role.{Role}
use Rattle.gql_change.specs.declared.role.Role.TheVariants as role
use Rattle.gql_change.specs.declared.row_spots.Line.{Line}
use Rattle.gql_change.specs.declared.row_spots.Spot.{Spot}
use Rattle.gql_change.specs.declared.row_spots.Spot.TheVariants as spot
use Rattle.gql_change.proofs.PlaceOfName.{a_column, no_column, column_placed}
use Rattle.gql_change.proofs.NamedPlaces.{datum_named, place_in_two, refers_to, is_reference}
use Rattle.gql_change.proofs.InsertLemmas.{spot_with, spots_with, IsNodeIn, are_kept, all_kept}

-- columns that begin with others
pub record Extends (columns incoming : ColumnList) : Type 0 where
  pub more : ColumnList
  pub both : columns ≡ incoming ++ more

pub extends_itself : (cs : ColumnList) → Extends cs cs
extends_itself cs = record { more = []; both = sym (append-nil cs) }

extends_one : (cs incoming : ColumnList) (c : List ℕ × ColumnKind) → Extends cs incoming → Extends (cs ++ c ∷ []) incoming
extends_one cs incoming c e = record { more = e.more ++ c ∷ []; both = ap (λ (ds : ColumnList). ds ++ c ∷ []) e.both ∙ append_assoc incoming e.more (c ∷ []) }

extends_by : (b : Bool) (cs incoming : ColumnList) (c : List ℕ × ColumnKind) → Extends cs incoming → Extends (cond b cs (cs ++ c ∷ [])) incoming
extends_by true cs incoming c e = e
extends_by false cs incoming c e = extends_one cs incoming c e

extends_more : (cs incoming : ColumnList) (k : ColumnKind) (v : Option (List ℕ)) → Extends cs incoming → Extends (with_variable cs k v) incoming
extends_more cs incoming k None e = e
extends_more cs incoming k (Some x) e = extends_by (is_column cs x) cs incoming (x, k) e

-- of two steps that give, each gives
pub first_gives : {A : Type 0} (r : Result A DataFault) (t : Result (List A) DataFault) (all : List A) → (r >>= λ x. t >>= λ xs. Ok (x ∷ xs)) ≡ Ok all
    → (x : A) × (xs : List A) × (r ≡ Ok x) × (t ≡ Ok xs) × (all ≡ x ∷ xs)
first_gives (Ok x) (Ok xs) all h = (x, xs, refl, refl, sym (let e : x ∷ xs ≡ all = cc in e))
first_gives (Ok x) (Err e) all h = absurd (cc)
first_gives (Err e) t all h = absurd (cc)

-- one step after another, seen otherwise
module _ {A S : Type 0} where
  pub one_after : (a : Result A DataFault) (r : Result (List A) DataFault) (h : A → S) (tail : List A → List S) (whole : List A → List S) → ((x : A) (xs : List A) → whole (x ∷ xs) ≡ h x ∷ tail xs)
      → ((a >>= λ x. Ok (h x)) >>= λ s. (r >>= λ xs. Ok (tail xs)) >>= λ ss. Ok (s ∷ ss)) ≡ ((a >>= λ x. r >>= λ xs. Ok (x ∷ xs)) >>= λ xs. Ok (whole xs))
  one_after (Ok x) (Ok xs) h tail whole same = ap Ok (sym (same x xs))
  one_after (Ok x) (Err e) h tail whole same = refl
  one_after (Err e) r h tail whole same = refl

  seen_after : {B : Type 0} (r : Result A DataFault) (h : A → S) (k : S → B) → ((r >>= λ x. Ok (h x)) >>= λ s. Ok (k s)) ≡ (r >>= λ x. Ok (k (h x)))
  seen_after (Ok x) h k = refl
  seen_after (Err e) h k = refl

module _ (g : PropertyGraph) (params : List (List ℕ × Datum)) (incoming : ColumnList) (row : List Datum) where
  -- a node of an incoming column, by its name and by its place
  incoming_place : (x : List ℕ) (i : ℕ) (o p : Option ℕ) → place_among incoming x ≡ o → Some i ≡ earlier o (option_map (λ j. length incoming + j) p)
      → looked_at g params incoming row i ≡ endpoint g params incoming row (Some x)
  incoming_place x i (Some j) p here same =
      let it : i ≡ j = cc in
      let place : place_among incoming x ≡ Some i = here ∙ ap Some (sym it) in
      let below : nat_lt i (length incoming) ≡ true = (let l : i < length incoming = place_below incoming x i place in grind (arith, nat_tests, l)) in
      ap (λ (b : Bool). cond b (element_in g (datum_at row i) >>= node_there g params incoming row) (Ok [])) below
      ∙ ap (λ (d : Datum). element_in g d >>= node_there g params incoming row) (sym (datum_named incoming row x i place))
      ∙ ap (λ (b : Bool). cond b (element_in g (datum_of_name (row_scope incoming row) x) >>= node_there g params incoming row) (Ok [])) (sym (a_column incoming x i place))
  incoming_place x i None (Some k) here same =
      let it : i ≡ length incoming + k = cc in
      let above : nat_lt i (length incoming) ≡ false = grind (arith, nat_tests, it) in
      ap (λ (b : Bool). cond b (element_in g (datum_at row i) >>= node_there g params incoming row) (Ok [])) above
      ∙ ap (λ (b : Bool). cond b (element_in g (datum_of_name (row_scope incoming row) x) >>= node_there g params incoming row) (Ok [])) (sym (no_column incoming x here))
  incoming_place x i None None here same = absurd (cc)

  looked_named : (cs : ColumnList) (x : List ℕ) (i : ℕ) → Extends cs incoming → place_among cs x ≡ Some i → looked_at g params incoming row i ≡ endpoint g params incoming row (Some x)
  looked_named cs x i e place =
      incoming_place x i (place_among incoming x) (place_among e.more x) refl
      (sym place ∙ ap (λ (ds : ColumnList). place_among ds x) e.both ∙ place_in_two incoming e.more x)

  -- a spot
  node_spot : (cs : ColumnList) (x : List ℕ) (is : List MapItem) (b : Bool) (o : Option ℕ) → Extends cs incoming → place_among cs x ≡ o → b ≡ is_some o
      → spot_of g params incoming row (role_at kind.Node o, is)
      ≡ ((cond b (endpoint g params incoming row (Some x)) (map_values g params incoming row is)) >>= λ ps. Ok (spot_with (role_at kind.Node o) ps))
  node_spot cs x is true None e place same = absurd (cc)
  node_spot cs x is false (Some i) e place same = absurd (cc)
  node_spot cs x is false None e place same = refl
  node_spot cs x is true (Some i) e place same = ap (λ (r : Result PropertyList DataFault). r >>= λ ps. Ok (spot.Refers i)) (looked_named cs x i e place)

  edge_spot : (k : ColumnKind) (is : List MapItem) (r : Role) (named : Bool) → r ≡ role.New named
      → spot_of g params incoming row (r, is) ≡ (map_values g params incoming row is >>= λ ps. Ok (spot_with r ps))
  edge_spot k is r named h =
      ap (λ (q : Role). spot_of g params incoming row (q, is)) h ∙ sym (ap (λ (q : Role). map_values g params incoming row is >>= λ ps. Ok (spot_with q ps)) h)

  new_role : (k : ColumnKind) (o : Option ℕ) → ((i : ℕ) → role_at k (Some i) ≡ role.New false) → (named : Bool) × (role_at k o ≡ role.New named)
  new_role k None h = (true, refl)
  new_role k (Some i) h = (false, h i)

  other_spot : (k : ColumnKind) (is : List MapItem) (o : Option ℕ) → ((i : ℕ) → role_at k (Some i) ≡ role.New false)
      → spot_of g params incoming row (role_at k o, is) ≡ (map_values g params incoming row is >>= λ ps. Ok (spot_with (role_at k o) ps))
  other_spot k is o h = let n = new_role k o h in edge_spot k is (role_at k o) n.0 n.1

  abbrev one_spot : ColumnList → ColumnKind → Option (List ℕ) → Option (List (List ℕ)) → Option (List MapItem) → Type 0
  one_spot cs k v ls is =
      spot_of g params incoming row (role_of cs k v, items_in is)
      ≡ (spot_values g params incoming row cs k (record { variable = v; labels = ls; map = is }) >>= λ ps. Ok (spot_with (role_of cs k v) ps))

  spot_agrees : (cs : ColumnList) (k : ColumnKind) (v : Option (List ℕ)) (ls : Option (List (List ℕ))) (is : Option (List MapItem)) → Extends cs incoming → one_spot cs k v ls is
  spot_agrees cs kind.Node None ls is e = refl
  spot_agrees cs kind.Edge None ls is e = refl
  spot_agrees cs kind.Nodes None ls is e = refl
  spot_agrees cs kind.Edges None ls is e = refl
  spot_agrees cs kind.Path None ls is e = refl
  spot_agrees cs kind.Plain None ls is e = refl
  spot_agrees cs kind.Node (Some x) ls is e = node_spot cs x (items_in is) (is_column cs x) (place_among cs x) e refl (column_placed cs x)
  spot_agrees cs kind.Edge (Some x) ls is e = other_spot kind.Edge (items_in is) (place_among cs x) (λ i. refl)
  spot_agrees cs kind.Nodes (Some x) ls is e = other_spot kind.Nodes (items_in is) (place_among cs x) (λ i. refl)
  spot_agrees cs kind.Edges (Some x) ls is e = other_spot kind.Edges (items_in is) (place_among cs x) (λ i. refl)
  spot_agrees cs kind.Path (Some x) ls is e = other_spot kind.Path (items_in is) (place_among cs x) (λ i. refl)
  spot_agrees cs kind.Plain (Some x) ls is e = other_spot kind.Plain (items_in is) (place_among cs x) (λ i. refl)

  -- the spots of a row
  pub spots_agree : (cs : ColumnList) (ss : Spots) → Extends cs incoming
      → each (spot_of g params incoming row) (questions cs ss) ≡ (spots_values g params incoming row cs ss >>= λ vs. Ok (spots_with (questions cs ss) vs))
  spots_agree cs [] e = refl
  spots_agree cs (s ∷ ss) e =
      let k = s.0 in
      let v = s.1.variable in
      let later = with_variable cs k v in
      ap (λ (r : Result Spot DataFault). r >>= λ y. each (spot_of g params incoming row) (questions later ss) >>= λ ys. Ok (y ∷ ys)) (spot_agrees cs k v s.1.labels s.1.map e)
      ∙ ap (λ (r : Result (List Spot) DataFault). (spot_values g params incoming row cs k s.1 >>= λ ps. Ok (spot_with (role_of cs k v) ps)) >>= λ y. r >>= λ ys. Ok (y ∷ ys)) (spots_agree later ss (extends_more cs incoming k v e))
      ∙ one_after (spot_values g params incoming row cs k s.1) (spots_values g params incoming row later ss) (spot_with (role_of cs k v)) (spots_with (questions later ss)) (spots_with (questions cs (s ∷ ss))) (λ x xs. refl)

  -- a node that was looked at is there
  found_among : (nodes : List NodeRecord) (n : NodeId) → is_some (find (λ (r : NodeRecord). r.number.0 == n.0) nodes) ≡ is_among nodes n
  found_among [] n = refl
  found_among (r ∷ rs) n = by (r.number.0 == n.0) (found_among rs n)
    where
      by : (b : Bool) → is_some (find (λ (t : NodeRecord). t.number.0 == n.0) rs) ≡ is_among rs n → is_some (cond b (Some r) (find (λ (t : NodeRecord). t.number.0 == n.0) rs)) ≡ (b || is_among rs n)
      by true h = refl
      by false h = h

  there_is : (e : Elem) → has_element g e ≡ false → undeleted g e ≡ Err fault.Deleted
  there_is e h = rw h refl

  node_looked_at : (n : ℕ) (ps : PropertyList) (b : Bool) → has_element g (elem.Node (record { 0 = n })) ≡ b → (element_in g (node n) >>= node_there g params incoming row) ≡ Ok ps → b ≡ true
  node_looked_at n ps true e h = refl
  node_looked_at n ps false e h =
      let gone : (element_in g (node n) >>= node_there g params incoming row) ≡ Err fault.Deleted =
      ap (λ (r : Result Elem DataFault). (r >>= λ x. Ok (Some x)) >>= node_there g params incoming row) (there_is (elem.Node (record { 0 = n })) e) in
      absurd (let f : Ok ps ≡ Err fault.Deleted = sym h ∙ gone in cc)

  no_edge : (r : Result Elem DataFault) (n : ℕ) (ps : PropertyList) → ((x : Elem) → r ≡ Ok x → x ≡ elem.Edge (record { 0 = n })) → ((r >>= λ x. Ok (Some x)) >>= node_there g params incoming row) ≡ Ok ps → false ≡ true
  no_edge (Err e) n ps same h = absurd (cc)
  no_edge (Ok x) n ps same h =
      absurd (let f : Err fault.WrongKind ≡ Ok ps = sym (ap (λ (y : Elem). node_there g params incoming row (Some y)) (same x refl)) ∙ h in cc)

  undeleted_same : (e x : Elem) (b : Bool) → has_element g e ≡ b → undeleted g e ≡ Ok x → x ≡ e
  undeleted_same e x true h p = sym (let f : Ok e ≡ Ok x = sym (let g1 : undeleted g e ≡ Ok e = rw h refl in g1) ∙ p in cc)
  undeleted_same e x false h p = absurd (let f : Err fault.Deleted ≡ Ok x = sym (there_is e h) ∙ p in cc)

  looked_there : (d : Datum) (ps : PropertyList) → (element_in g d >>= node_there g params incoming row) ≡ Ok ps → IsNodeIn g d
  looked_there null ps h = absurd (cc)
  looked_there (boolean b) ps h = absurd (cc)
  looked_there (integer z) ps h = absurd (cc)
  looked_there (text t) ps h = absurd (cc)
  looked_there (list ds) ps h = absurd (cc)
  looked_there (path p) ps h = absurd (cc)
  looked_there (edge n) ps h =
      absurd (let f : false ≡ true = no_edge (undeleted g (elem.Edge (record { 0 = n }))) n ps (λ x p. undeleted_same (elem.Edge (record { 0 = n })) x (has_element g (elem.Edge (record { 0 = n }))) refl p) h in cc)
  looked_there (node n) ps h =
      (n, refl, sym (found_among g.nodes (record { 0 = n })) ∙ node_looked_at n ps (has_element g (elem.Node (record { 0 = n }))) refl h)

  looked_in_time : (i : ℕ) (ps : PropertyList) → looked_at g params incoming row i ≡ Ok ps → i < length incoming → IsNodeIn g (datum_at row i)
  looked_in_time i ps h below =
      let yes : nat_lt i (length incoming) ≡ true = grind (arith, nat_tests, below) in
      looked_there (datum_at row i) ps (sym (ap (λ (b : Bool). cond b (element_in g (datum_at row i) >>= node_there g params incoming row) (Ok [])) yes) ∙ h)

  some_first : {A B : Type 0} (r : Result A DataFault) (f : A → B) (y : B) → (r >>= λ x. Ok (f x)) ≡ Ok y → (x : A) × (r ≡ Ok x)
  some_first (Ok x) f y h = (x, refl)
  some_first (Err e) f y h = absurd (cc)

  reference_sure : (i : ℕ) (r : Role) (is : List MapItem) (s : Spot) → spot_of g params incoming row (r, is) ≡ Ok s → is_reference i r ≡ true → i < length incoming → IsNodeIn g (datum_at row i)
  reference_sure i (role.New named) is s h r below = absurd (cc)
  reference_sure i (role.Refers j) is s h r below =
      let same : i ≡ j = grind (arith, nat_tests, r) in
      let found = some_first (looked_at g params incoming row j) (λ _. spot.Refers j) s h in
      looked_in_time i found.0 (ap (looked_at g params incoming row) same ∙ found.1) below

  pub row_sure : (qs : List Question) (spots : List Spot) → each (spot_of g params incoming row) qs ≡ Ok spots → (i : ℕ) → refers_to i qs ≡ true → i < length incoming → IsNodeIn g (datum_at row i)
  row_sure [] spots h i r below = absurd (cc)
  row_sure (q ∷ qs) spots h i r below =
      let both = first_gives (spot_of g params incoming row q) (each (spot_of g params incoming row) qs) spots h in
      elim (or_cases (is_reference i q.0) (refers_to i qs) r) [
        | inl here ↦ reference_sure i q.0 q.1 both.0 both.2 here below
        | inr later ↦ row_sure qs both.1 both.3 i later below
      ]

  -- values that may be kept
  item_kept : (r : Result Datum DataFault) (name : List ℕ) (p : List ℕ × Datum) → (r >>= λ d. stored d >>= λ kept. Ok (name, kept)) ≡ Ok p → is_storable p.1 64 ≡ true
  item_kept (Err e) name p h = absurd (cc)
  item_kept (Ok d) name p h = by (is_storable d 64) refl h
    where
      by : (b : Bool) → is_storable d 64 ≡ b → ((cond b (Ok d) (Err fault.WrongKind)) >>= λ kept. Ok (name, kept)) ≡ Ok p → is_storable p.1 64 ≡ true
      by true e k = ap (λ (q : List ℕ × Datum). is_storable q.1 64) (let f : p ≡ (name, d) = cc in f) ∙ e
      by false e k = absurd (cc)

  map_kept : (is : List MapItem) (ps : PropertyList) → map_values g params incoming row is ≡ Ok ps → are_kept ps ≡ true
  map_kept [] ps h = ap are_kept (let e : ps ≡ [] = cc in e)
  map_kept (i ∷ is) ps h =
      let both = first_gives (item_value g params incoming row i) (map_values g params incoming row is) ps h in
      ap are_kept both.4 ∙ and_from (is_storable both.0.1 64) (are_kept both.1)
      (item_kept (value_of g params (row_scope incoming row) (tree_of i.value)) i.name both.0 both.2) (map_kept is both.1 both.3)

  nothing_kept : (r : Result (Option Elem) DataFault) (ps : PropertyList) → (r >>= node_there g params incoming row) ≡ Ok ps → are_kept ps ≡ true
  nothing_kept (Err e) ps h = absurd (cc)
  nothing_kept (Ok None) ps h = absurd (cc)
  nothing_kept (Ok (Some (elem.Edge e))) ps h = absurd (cc)
  nothing_kept (Ok (Some (elem.Node n))) ps h = ap are_kept (let e : ps ≡ [] = cc in e)

  endpoint_kept : (v : Option (List ℕ)) (ps : PropertyList) → endpoint g params incoming row v ≡ Ok ps → are_kept ps ≡ true
  endpoint_kept None ps h = ap are_kept (let e : ps ≡ [] = cc in e)
  endpoint_kept (Some x) ps h = by (is_column incoming x) h
    where
      by : (b : Bool) → cond b (element_in g (datum_of_name (row_scope incoming row) x) >>= node_there g params incoming row) (Ok []) ≡ Ok ps → are_kept ps ≡ true
      by true k = nothing_kept (element_in g (datum_of_name (row_scope incoming row) x)) ps k
      by false k = ap are_kept (let e : ps ≡ [] = cc in e)

  node_kept : (b : Bool) (v : Option (List ℕ)) (is : List MapItem) (ps : PropertyList) → cond b (endpoint g params incoming row v) (map_values g params incoming row is) ≡ Ok ps → are_kept ps ≡ true
  node_kept true v is ps h = endpoint_kept v ps h
  node_kept false v is ps h = map_kept is ps h

  spot_kept : (cs : ColumnList) (k : ColumnKind) (f : Fill) (ps : PropertyList) → spot_values g params incoming row cs k f ≡ Ok ps → are_kept ps ≡ true
  spot_kept cs kind.Node f ps h = node_kept (refers cs f.variable) f.variable (items_in f.map) ps h
  spot_kept cs kind.Edge f ps h = map_kept (items_in f.map) ps h
  spot_kept cs kind.Nodes f ps h = map_kept (items_in f.map) ps h
  spot_kept cs kind.Edges f ps h = map_kept (items_in f.map) ps h
  spot_kept cs kind.Path f ps h = map_kept (items_in f.map) ps h
  spot_kept cs kind.Plain f ps h = map_kept (items_in f.map) ps h

  pub spots_kept : (cs : ColumnList) (ss : Spots) (vs : List PropertyList) → spots_values g params incoming row cs ss ≡ Ok vs → all_kept vs ≡ true
  spots_kept cs [] vs h = ap all_kept (let e : vs ≡ [] = cc in e)
  spots_kept cs (s ∷ ss) vs h =
      let both = first_gives (spot_values g params incoming row cs s.0 s.1) (spots_values g params incoming row (with_variable cs s.0 s.1.variable) ss) vs h in
      ap all_kept both.4 ∙ ap (λ (b : Bool). cond b (all_kept both.1) false) (spot_kept cs s.0 s.1 both.0 both.2)
      ∙ spots_kept (with_variable cs s.0 s.1.variable) ss both.1 both.3

  -- a row's line
  pub line_agrees : (ss : Spots) → line_of g params incoming row (questions incoming ss)
      ≡ (spots_values g params incoming row incoming ss >>= λ vs. Ok (let l : Line = record { row = row; spots = spots_with (questions incoming ss) vs } in l))
  line_agrees ss =
      ap (λ (r : Result (List Spot) DataFault). r >>= λ spots. Ok (let l : Line = record { row = row; spots = spots } in l)) (spots_agree incoming ss (extends_itself incoming))
      ∙ seen_after (spots_values g params incoming row incoming ss) (spots_with (questions incoming ss)) (λ (spots : List Spot). let l : Line = record { row = row; spots = spots } in l)
