-- A deletion: the refusal that is found is the definition's, and the changes lead to its graph.
use Rattle.std.proofs.Common.{◌≡◌, ℕ, suc, ◌+◌, Bool, true, false, not, cond, eqb, ◌&&◌, List, [], ◌∷◌, ◌++◌, map, reverse, Option, Some, None, Result, Ok, Err, slice_get, refl, sym, ap, ◌∙◌, subst, arith, add-zero, zero-add, length}
use Rattle.std.proofs.lemmas.Bool.{and_from, and_parts, or_right}
use Rattle.std.specs.Prelude.{◌||◌, filter, find, option_map, position, nat_lt, ◌^◌}
use Rattle.std.specs.List.{list_any, list_all, flat_map, position_from, position_or_len}
use Rattle.std.proofs.lemmas.Bool.Decides.{nat_tests}
use Rattle.gql_values3.specs.Datum.{Datum, null}
use Rattle.gql_values3.specs.Texts.{same_text}
use Rattle.gql_values3.specs.PropertyGraph.{PropertyGraph, is_graph, numbers_ascend}
use Rattle.gql_values3.specs.Lookup.{has_node, touches}
use Rattle.gql_values3.specs.declared.element.NodeId.{NodeId}
use Rattle.gql_values3.specs.declared.element.EdgeId.{EdgeId}
use Rattle.gql_values3.specs.declared.element.Elem.{Elem}
use Rattle.gql_values3.specs.declared.element.Elem.TheVariants as elem
use Rattle.gql_values3.specs.declared.element.Ends.{Ends}
use Rattle.gql_values3.specs.declared.element.Ends.TheVariants.{Directed, Undirected}
use Rattle.gql_values3.specs.declared.records.NodeRecord.{NodeRecord}
use Rattle.gql_values3.specs.declared.records.EdgeRecord.{EdgeRecord}
use Rattle.gql_values3.specs.declared.table.ColumnKind.{ColumnKind}
use Rattle.gql_values3.proofs.BoolLemmas.{and_true}
use Rattle.gql_ast.specs.Scope.{row_scope, datum_of_name, datum_in, entry_of, holds_group}
use Rattle.gql_ast.specs.ClauseColumns.{ColumnList}
use Rattle.gql_ast.specs.declared.change.Detachment.{Detachment}
use Rattle.gql_ast.specs.declared.change.Detachment.TheVariants as detachment
use Rattle.gql_ast.specs.declared.refusal.Refusal.{Refusal}
use Rattle.gql_graph.specs.Edits.{node_key, edge_key, with_nodes, with_edges, has_edge, can_act_each, changed_by_each}
use Rattle.gql_graph.specs.declared.change.Change.{Change}
use Rattle.gql_eval.specs.RowLists.{RowList}
use Rattle.std.specs.Option.{option_or}
use Rattle.gql_change.specs.Deletion.{elements_in, named_elements, is_named, edge_goes, edge_left, left_on, first_left, deleted}
use Rattle.gql_change.specs.Changing.{changed_by_deletion, refused_by}
use Rattle.gql_change.specs.Plans.{LeadTo, Plans}
use Rattle.gql_change.specs.Machinery.DeletionSteps.{column_place, datum_or_null, value_at, row_elements, has_number, deleted_nodes, deleted_edges, other_edge, refused_at, other_edges, refusal_of, edge_out, node_out, outs, Deletes}
use Rattle.gql_change.specs.declared.fault.ChangeFault.{ChangeFault}
use Rattle.gql_change.specs.declared.fault.ChangeFault.TheVariants as fault
use Rattle.gql_change.proofs.ApplyLemmas.{can_act_each-append, changed_by_each-append}
use Rattle.gql_change.proofs.RisingLemmas.{eqb_same, eqb_refl, not_among, rises_from_graph, rises-filter}
use Rattle.gql_change.proofs.TakingOut.{list_all_both, list_all_weaker, filter_where, without, ends_stay, node_numbers, edge_numbers, graph_of_edges, edges_out, nodes_out}
use Rattle.gql_change.proofs.DeletedNumbers.{has_passing, node_found, edge_found, has_named_edge, nodes_rise, edges_rise}
use Rattle.gql_change.specs.Machinery.Rising.{rises_above}

-- what a name stands for in a row stands at the place of its column
shut : (cs : ColumnList) (x : List ℕ) → datum_of_name (row_scope cs []) x ≡ null
shut [] x = refl
shut (c ∷ cs) x = refl

module _ (x : List ℕ) (row : List Datum) where
  abbrev named : List ℕ × ColumnKind → Bool
  named c = same_text x c.0

  from_place : (cs : ColumnList) (ds : List Datum) (i : ℕ) → ((k : ℕ) → slice_get row (i + k) ≡ slice_get ds k) → value_at row (position_from named i cs) ≡ datum_of_name (row_scope cs ds) x
  from_place [] ds i same = refl
  from_place (c ∷ cs) [] i same = by_case (named c) (from_place cs [] (i + 1) (λ k. grind (arith, same (suc k)))) (same 0)
    where
      by_case : (b : Bool) → value_at row (position_from named (i + 1) cs) ≡ datum_of_name (row_scope cs []) x → slice_get row (i + 0) ≡ None
          → value_at row (cond b (Some i) (position_from named (i + 1) cs)) ≡ null
      by_case true rest here = ap (λ k. datum_or_null (slice_get row k)) (sym (add-zero i)) ∙ ap datum_or_null here
      by_case false rest here = rest ∙ shut cs x
  from_place (c ∷ cs) (d ∷ ds) i same = by_case (named c) (from_place cs ds (i + 1) (λ k. grind (arith, same (suc k)))) (same 0)
    where
      by_case : (b : Bool) → value_at row (position_from named (i + 1) cs) ≡ datum_of_name (row_scope cs ds) x → slice_get row (i + 0) ≡ Some d
          → value_at row (cond b (Some i) (position_from named (i + 1) cs)) ≡ datum_in (cond b (Some (record { name = c.0; is_group = holds_group c.1; datum = d })) (entry_of (row_scope cs ds) x))
      by_case true rest here = ap (λ k. datum_or_null (slice_get row k)) (sym (add-zero i)) ∙ ap datum_or_null here
      by_case false rest here = rest

-- the first place at which a test passes, counted from another
counted : {X : Type 0} (t : X → Bool) (i : ℕ) (xs : List X) → cond (nat_lt (position_or_len t xs) (length xs)) (Some (i + position_or_len t xs)) None ≡ position_from t i xs
counted t i [] = refl
counted t i (x ∷ xs) = by_case (t x) (counted t (i + 1) xs)
  where
    by_case : (b : Bool) → cond (nat_lt (position_or_len t xs) (length xs)) (Some (i + 1 + position_or_len t xs)) None ≡ position_from t (i + 1) xs
        → cond (nat_lt (cond (not b) (1 + position_or_len t xs) 0) (suc (length xs))) (Some (i + cond (not b) (1 + position_or_len t xs) 0)) None ≡ cond b (Some i) (position_from t (i + 1) xs)
    by_case true h =
        let lt : nat_lt 0 (suc (length xs)) ≡ true = grind (arith, nat_tests) in
        ap (λ (c : Bool). cond c (Some (i + 0)) None) lt ∙ ap (λ k. Some k) (add-zero i)
    by_case false h =
        let lt : nat_lt (1 + position_or_len t xs) (suc (length xs)) ≡ nat_lt (position_or_len t xs) (length xs) = grind (arith, nat_tests) in
        let sum : i + (1 + position_or_len t xs) ≡ i + 1 + position_or_len t xs = omega arith in
        (λ j. cond (lt j) (Some (sum j)) None) ∙ h

from_start : {X : Type 0} (t : X → Bool) (xs : List X) → position t xs ≡ position_from t 0 xs
from_start t xs = ap (λ k. cond (nat_lt (position_or_len t xs) (length xs)) (Some k) None) (sym (zero-add (position_or_len t xs))) ∙ counted t 0 xs

pub value_of_name : (columns : ColumnList) (row : List Datum) (x : List ℕ) → value_at row (column_place columns x) ≡ datum_of_name (row_scope columns row) x
value_of_name columns row x = ap (value_at row) (from_start (λ (c : List ℕ × ColumnKind). same_text x c.0) columns) ∙ from_place x row columns row 0 (λ k. ap (slice_get row) (zero-add k))

named_in_row : (columns : ColumnList) (row : List Datum) (names : List (List ℕ))
    → row_elements (map (column_place columns) names) row ≡ flat_map (λ x. elements_in (datum_of_name (row_scope columns row) x)) names
named_in_row columns row [] = refl
named_in_row columns row (x ∷ xs) = λ i. elements_in (value_of_name columns row x i) ++ named_in_row columns row xs i

-- so the elements at the names' places are the named ones
pub named_at_places : (columns : ColumnList) (names : List (List ℕ)) (rows : RowList) → flat_map (row_elements (map (column_place columns) names)) rows ≡ named_elements columns names rows
named_at_places columns names [] = refl
named_at_places columns names (row ∷ rows) = λ i. named_in_row columns row names i ++ named_at_places columns names rows i

-- each item has a number that one of them has
module _ {X : Type 0} (key : X → ℕ) where
  abbrev is_own : List X → X → Bool
  is_own xs y = list_any (λ x. eqb (key y) (key x)) xs

  pub all_own : (xs : List X) → list_all (is_own xs) xs ≡ true
  all_own [] = refl
  all_own (x ∷ xs) =
      and_from (is_own (x ∷ xs) x) (list_all (is_own (x ∷ xs)) xs) (ap (λ b. b || is_own xs x) (eqb_refl (key x)))
      (list_all_weaker (is_own xs) (is_own (x ∷ xs)) (λ y h. or_right (eqb (key y) (key x)) (is_own xs y) h) xs (all_own xs))

  -- of items whose numbers ascend, taking out those that have a number of one that passes leaves those that don't pass
  later : (xs : List X) (low : ℕ) → rises_above low (map key xs) ≡ true → list_all (λ x. nat_lt low (key x)) xs ≡ true
  later [] low up = refl
  later (x ∷ xs) low up =
      let here = (and_parts (nat_lt low (key x)) (rises_above (key x) (map key xs)) up).0 in
      and_from (nat_lt low (key x)) (list_all (λ y. nat_lt low (key y)) xs) here
      (list_all_weaker (λ y. nat_lt (key x) (key y)) (λ y. nat_lt low (key y)) (λ y h. grind (arith, nat_tests, here, h)) xs
      (later xs (key x) ((and_parts (nat_lt low (key x)) (rises_above (key x) (map key xs)) up).1)))

  pub without_passing : (p : X → Bool) (xs : List X) (low : ℕ) → rises_above low (map key xs) ≡ true → without key (map key (filter p xs)) xs ≡ filter (λ x. not (p x)) xs
  without_passing p [] low up = refl
  without_passing p (x ∷ xs) low up =
      by_case (p x) (not_among (key x) (map key (filter p xs)) (key x) (rises-filter key p (key x) xs above) (omega arith))
      (filter_where (λ y. nat_lt (key x) (key y)) (λ y. not (has_number (key x ∷ map key (filter p xs)) (key y))) (λ y. not (has_number (map key (filter p xs)) (key y)))
      (λ y h. let e : eqb (key y) (key x) ≡ false = grind (arith, nat_tests, h) in ap (λ b. not (b || has_number (map key (filter p xs)) (key y))) e) xs (later xs (key x) above))
      (without_passing p xs (key x) above)
    where
      above : rises_above (key x) (map key xs) ≡ true
      above = (and_parts (nat_lt low (key x)) (rises_above (key x) (map key xs)) up).1

      by_case : (b : Bool) → has_number (map key (filter p xs)) (key x) ≡ false → without key (key x ∷ map key (filter p xs)) xs ≡ without key (map key (filter p xs)) xs
          → without key (map key (filter p xs)) xs ≡ filter (λ y. not (p y)) xs
          → without key (map key (cond b (x ∷ filter p xs) (filter p xs))) (x ∷ xs) ≡ cond (not b) (x ∷ filter (λ y. not (p y)) xs) (filter (λ y. not (p y)) xs)
      by_case true out same rest =
          ap (λ (t : Bool). cond (not (t || has_number (map key (filter p xs)) (key x))) (x ∷ without key (key x ∷ map key (filter p xs)) xs) (without key (key x ∷ map key (filter p xs)) xs)) (eqb_refl (key x))
          ∙ same ∙ rest
      by_case false out same rest =
          ap (λ (t : Bool). cond (not t) (x ∷ without key (map key (filter p xs)) xs) (without key (map key (filter p xs)) xs)) out ∙ ap (λ l. x ∷ l) rest

  -- those that pass are there
  passing_there : (p : X → Bool) (there : ℕ → Bool) (xs : List X) → list_all (λ x. there (key x)) xs ≡ true → list_all there (map key (filter p xs)) ≡ true
  passing_there p there [] h = refl
  passing_there p there (x ∷ xs) h = by_case (p x) (passing_there p there xs ((and_parts (there (key x)) (list_all (λ y. there (key y)) xs) h).1))
    where
      by_case : (b : Bool) → list_all there (map key (filter p xs)) ≡ true → list_all there (map key (cond b (x ∷ filter p xs) (filter p xs))) ≡ true
      by_case true rest = and_from (there (key x)) (list_all there (map key (filter p xs))) ((and_parts (there (key x)) (list_all (λ y. there (key y)) xs) h).0) rest
      by_case false rest = rest

module _ {X : Type 0} where
  find_never : (p : X → Bool) (xs : List X) → ((x : X) → p x ≡ false) → find p xs ≡ None
  find_never p [] never = refl
  find_never p (x ∷ xs) never = ap (λ (b : Bool). cond b (Some x) (find p xs)) (never x) ∙ find_never p xs never

  find_where : (t p q : X → Bool) → ((x : X) → t x ≡ true → p x ≡ q x) → (xs : List X) → list_all t xs ≡ true → find p xs ≡ find q xs
  find_where t p q same [] h = refl
  find_where t p q same (x ∷ xs) h =
      let here = same x ((and_parts (t x) (list_all t xs) h).0) in
      let rest = find_where t p q same xs ((and_parts (t x) (list_all t xs) h).1) in
      λ i. cond (here i) (Some x) (rest i)

  -- the first mapped item, among those that pass
  find_mapped : {Y : Type 0} (f : X → Y) (p : X → Bool) (q : Y → Bool) (xs : List X) → find q (map f (filter p xs)) ≡ option_map f (find (λ x. p x && q (f x)) xs)
  find_mapped f p q [] = refl
  find_mapped f p q (x ∷ xs) = by_case (p x) (q (f x)) refl (find_mapped f p q xs)
    where
      by_case : (b c : Bool) → q (f x) ≡ c → find q (map f (filter p xs)) ≡ option_map f (find (λ y. p y && q (f y)) xs)
          → find q (map f (cond b (x ∷ filter p xs) (filter p xs))) ≡ option_map f (cond (b && c) (Some x) (find (λ y. p y && q (f y)) xs))
      by_case true true is rest = ap (λ (t : Bool). cond t (Some (f x)) (find q (map f (filter p xs)))) is
      by_case true false is rest = ap (λ (t : Bool). cond t (Some (f x)) (find q (map f (filter p xs)))) is ∙ rest
      by_case false c is rest = rest

  none_found : (p : X → Bool) (xs : List X) → find p xs ≡ None → list_all (λ x. not (p x)) xs ≡ true
  none_found p [] h = refl
  none_found p (x ∷ xs) h = by_case (p x) h (λ k. none_found p xs k)
    where
      by_case : (b : Bool) → cond b (Some x) (find p xs) ≡ None → (find p xs ≡ None → list_all (λ y. not (p y)) xs ≡ true) → (not b && list_all (λ y. not (p y)) xs) ≡ true
      by_case true k rest = absurd (cc)
      by_case false k rest = rest k

-- with DETACH each edge on a named node goes
goes_along : (a b x y z : Bool) → (a ≡ true → y ≡ true) → (b ≡ true → z ≡ true) → ((a || b) && not (x || (y || z))) ≡ false
goes_along true b true y z h k = refl
goes_along true b false y z h k = ap (λ (t : Bool). not (t || z)) (h refl)
goes_along false true true y z h k = refl
goes_along false true false true z h k = refl
goes_along false true false false z h k = ap not (k refl)
goes_along false false x y z h k = refl

module _ (es : List Elem) (n : NodeId) (is : is_named es (elem.Node n) ≡ true) where
  named_too : (s : NodeId) → eqb s.0 n.0 ≡ true → is_named es (elem.Node s) ≡ true
  named_too s same = ap (λ k. is_named es (elem.Node (record { 0 = k }))) (eqb_same s.0 n.0 same) ∙ is

  none_stays : (number : EdgeId) (ends : Ends) (labels : List (List ℕ)) (properties : List (List ℕ × Datum))
      → (touches n (record { number = number; ends = ends; labels = labels; properties = properties })
      && not (edge_goes detachment.Detach es (record { number = number; ends = ends; labels = labels; properties = properties }))) ≡ false
  none_stays number (Directed s t) labels properties =
      goes_along (eqb s.0 n.0) (eqb t.0 n.0) (is_named es (elem.Edge number)) (is_named es (elem.Node s)) (is_named es (elem.Node t)) (named_too s) (named_too t)
  none_stays number (Undirected s t) labels properties =
      goes_along (eqb s.0 n.0) (eqb t.0 n.0) (is_named es (elem.Edge number)) (is_named es (elem.Node s)) (is_named es (elem.Node t)) (named_too s) (named_too t)

detached : (es : List Elem) (g : PropertyGraph) (ns : List NodeRecord) → first_left detachment.Detach es g ns ≡ None
detached es g [] = refl
detached es g (n ∷ ns) =
    by_case (is_named es (elem.Node n.number))
    (λ is. find_never (λ (r : EdgeRecord). touches n.number r && not (edge_goes detachment.Detach es r)) g.edges (λ r. none_stays es n.number is r.number r.ends r.labels r.properties))
    (detached es g ns)
  where
    by_case : (b : Bool) → (b ≡ true → edge_left detachment.Detach es g n ≡ None) → first_left detachment.Detach es g ns ≡ None
        → cond b (option_or (left_on n (edge_left detachment.Detach es g n)) (first_left detachment.Detach es g ns)) (first_left detachment.Detach es g ns) ≡ None
    by_case true none rest = ap (λ (o : Option EdgeRecord). option_or (left_on n o) (first_left detachment.Detach es g ns)) (none refl) ∙ rest
    by_case false none rest = rest

-- without it the first edge that isn't named is found
refused_first : (n : NodeRecord) (o : Option EdgeRecord) → refused_at n.number.0 (option_map (λ (r : EdgeRecord). r.number) o) ≡ left_on n o
refused_first n None = refl
refused_first n (Some r) = refl

module _ (es : List Elem) (g : PropertyGraph) where
  abbrev named_edges : List ℕ
  named_edges = deleted_edges detachment.NoDetach es g

  other_is : (n : NodeRecord) → other_edge named_edges g n.number.0 ≡ option_map (λ (r : EdgeRecord). r.number) (edge_left detachment.NoDetach es g n)
  other_is n =
      find_mapped (λ (r : EdgeRecord). r.number) (touches n.number) (λ (e : EdgeId). not (has_number named_edges e.0)) g.edges
      ∙ ap (option_map (λ (r : EdgeRecord). r.number))
      (find_where (is_own edge_key g.edges) (λ (r : EdgeRecord). touches n.number r && not (has_number named_edges (edge_key r))) (λ (r : EdgeRecord). touches n.number r && not (edge_goes detachment.NoDetach es r))
      (λ r own. ap (λ (b : Bool). touches n.number r && not b)
      (has_passing edge_key (edge_goes detachment.NoDetach es) g.edges (edge_key r) ∙ has_named_edge g es (edge_key r)
      ∙ sym (and_true (is_named es (elem.Edge r.number)) (list_any (λ (s : EdgeRecord). eqb (edge_key r) (edge_key s)) g.edges) own)))
      g.edges (all_own edge_key g.edges))

  first_is : (ns : List NodeRecord) → other_edges named_edges g (map node_key (filter (λ (r : NodeRecord). is_named es (elem.Node r.number)) ns)) ≡ first_left detachment.NoDetach es g ns
  first_is [] = refl
  first_is (n ∷ ns) = by_case (is_named es (elem.Node n.number)) (first_is ns)
    where
      by_case : (b : Bool) → other_edges named_edges g (map node_key (filter (λ (r : NodeRecord). is_named es (elem.Node r.number)) ns)) ≡ first_left detachment.NoDetach es g ns
          → other_edges named_edges g (map node_key (cond b (n ∷ filter (λ (r : NodeRecord). is_named es (elem.Node r.number)) ns) (filter (λ (r : NodeRecord). is_named es (elem.Node r.number)) ns)))
          ≡ cond b (option_or (left_on n (edge_left detachment.NoDetach es g n)) (first_left detachment.NoDetach es g ns)) (first_left detachment.NoDetach es g ns)
      by_case true rest = λ i. option_or ((ap (refused_at n.number.0) (other_is n) ∙ refused_first n (edge_left detachment.NoDetach es g n)) i) (rest i)
      by_case false rest = rest

refusal_is : (d : Detachment) (es : List Elem) (g : PropertyGraph) → refusal_of d (deleted_edges d es g) g (deleted_nodes es g) ≡ first_left d es g g.nodes
refusal_is detachment.Detach es g = sym (detached es g g.nodes)
refusal_is detachment.NoDetach es g = first_is es g g.nodes

pub refusal_found : (d : Detachment) (es : List Elem) (g : PropertyGraph) (edges nodes : List ℕ) → nodes ≡ deleted_nodes es g → edges ≡ deleted_edges d es g
    → refusal_of d edges g nodes ≡ first_left d es g g.nodes
refusal_found d es g edges nodes p q = (λ i. refusal_of d (q i) g (p i)) ∙ refusal_is d es g

-- where nothing is left, no end of an edge that stays is a node that goes
stay_case : (a b x y : Bool) → not (a || b) ≡ true → (not x && not y) ≡ true → (not (a || x) && not (b || y)) ≡ true
stay_case true b x y h k = absurd (cc)
stay_case false true x y h k = absurd (cc)
stay_case false false x y h k = k

module _ (n : NodeId) (ns : List ℕ) where
  one_more_stays : (number : EdgeId) (ends : Ends) (labels : List (List ℕ)) (properties : List (List ℕ × Datum))
      → (not (touches n (record { number = number; ends = ends; labels = labels; properties = properties })) && ends_stay ns ends) ≡ true → ends_stay (n.0 ∷ ns) ends ≡ true
  one_more_stays number (Directed s t) labels properties h =
      stay_case (eqb s.0 n.0) (eqb t.0 n.0) (has_number ns s.0) (has_number ns t.0) ((and_parts (not (eqb s.0 n.0 || eqb t.0 n.0)) (ends_stay ns (Directed s t)) h).0)
      ((and_parts (not (eqb s.0 n.0 || eqb t.0 n.0)) (ends_stay ns (Directed s t)) h).1)
  one_more_stays number (Undirected s t) labels properties h =
      stay_case (eqb s.0 n.0) (eqb t.0 n.0) (has_number ns s.0) (has_number ns t.0) ((and_parts (not (eqb s.0 n.0 || eqb t.0 n.0)) (ends_stay ns (Undirected s t)) h).0)
      ((and_parts (not (eqb s.0 n.0 || eqb t.0 n.0)) (ends_stay ns (Undirected s t)) h).1)

all_stay : (e : Ends) → ends_stay [] e ≡ true
all_stay (Directed s t) = refl
all_stay (Undirected s t) = refl

every : {X : Type 0} (t : X → Bool) (xs : List X) → ((x : X) → t x ≡ true) → list_all t xs ≡ true
every t [] h = refl
every t (x ∷ xs) h = and_from (t x) (list_all t xs) (h x) (every t xs h)

-- of the items that don't pass q, a test of both is one of the other
of_rest : {X : Type 0} (p q : X → Bool) (xs : List X) → list_all (λ x. not (p x && not (q x))) xs ≡ true → list_all (λ x. not (p x)) (filter (λ x. not (q x)) xs) ≡ true
of_rest p q [] h = refl
of_rest p q (x ∷ xs) h =
    by_case (p x) (q x) ((and_parts (not (p x && not (q x))) (list_all (λ y. not (p y && not (q y))) xs) h).0)
    (of_rest p q xs ((and_parts (not (p x && not (q x))) (list_all (λ y. not (p y && not (q y))) xs) h).1)) refl
  where
    by_case : (a b : Bool) → not (a && not b) ≡ true → list_all (λ y. not (p y)) (filter (λ y. not (q y)) xs) ≡ true → p x ≡ a
        → list_all (λ y. not (p y)) (cond (not b) (x ∷ filter (λ y. not (q y)) xs) (filter (λ y. not (q y)) xs)) ≡ true
    by_case true true k rest is = rest
    by_case true false k rest is = absurd (cc)
    by_case false true k rest is = rest
    by_case false false k rest is = and_from (not (p x)) (list_all (λ y. not (p y)) (filter (λ y. not (q y)) xs)) (ap not is) rest

option_or_none : (o : Option EdgeRecord) (n : NodeRecord) (rest : Option Refusal) → option_or (left_on n o) rest ≡ None → (o ≡ None) × (rest ≡ None)
option_or_none None n rest h = (refl, h)
option_or_none (Some r) n rest h = absurd (cc)

module _ (d : Detachment) (es : List Elem) (g : PropertyGraph) where
  abbrev edges_that_stay : List EdgeRecord
  edges_that_stay = filter (λ (r : EdgeRecord). not (edge_goes d es r)) g.edges

  abbrev going_of : List NodeRecord → List ℕ
  going_of ns = map node_key (filter (λ (m : NodeRecord). is_named es (elem.Node m.number)) ns)

  ends_all_stay : (ns : List NodeRecord) → first_left d es g ns ≡ None
      → list_all (λ (r : EdgeRecord). ends_stay (map node_key (filter (λ (n : NodeRecord). is_named es (elem.Node n.number)) ns)) r.ends) edges_that_stay ≡ true
  ends_all_stay [] none = every (λ (r : EdgeRecord). ends_stay [] r.ends) edges_that_stay (λ r. all_stay r.ends)
  ends_all_stay (n ∷ ns) none = by_case (is_named es (elem.Node n.number)) none (λ h. ends_all_stay ns h)
    where
      by_case : (b : Bool) → cond b (option_or (left_on n (edge_left d es g n)) (first_left d es g ns)) (first_left d es g ns) ≡ None
          → (first_left d es g ns ≡ None → list_all (λ (r : EdgeRecord). ends_stay (going_of ns) r.ends) edges_that_stay ≡ true)
          → list_all (λ (r : EdgeRecord). ends_stay (map node_key (cond b (n ∷ filter (λ (m : NodeRecord). is_named es (elem.Node m.number)) ns) (filter (λ (m : NodeRecord). is_named es (elem.Node m.number)) ns))) r.ends) edges_that_stay ≡ true
      by_case true none rest =
          let parts = option_or_none (edge_left d es g n) n (first_left d es g ns) none in
          list_all_weaker (λ (r : EdgeRecord). not (touches n.number r) && ends_stay (going_of ns) r.ends) (λ (r : EdgeRecord). ends_stay (n.number.0 ∷ going_of ns) r.ends)
          (λ r h. one_more_stays n.number (going_of ns) r.number r.ends r.labels r.properties h) edges_that_stay
          (list_all_both (λ (r : EdgeRecord). not (touches n.number r)) (λ (r : EdgeRecord). ends_stay (going_of ns) r.ends) edges_that_stay
          (of_rest (touches n.number) (edge_goes d es) g.edges (none_found (λ (r : EdgeRecord). touches n.number r && not (edge_goes d es r)) g.edges parts.0))
          (rest parts.1))
      by_case false none rest = rest none

-- the changes act, and lead to the graph without what goes
module _ (d : Detachment) (es : List Elem) (g : PropertyGraph) (one : is_graph g ≡ true) (none : first_left d es g g.nodes ≡ None) where
  abbrev without_edges : PropertyGraph
  without_edges = with_edges g (edges_that_stay d es g) g.next_edge

  lead_edges : (can_act_each (map edge_out (reverse (deleted_edges d es g))) g ≡ true) × (changed_by_each (map edge_out (reverse (deleted_edges d es g))) g ≡ without_edges)
  lead_edges =
      let all = edges_out g one (deleted_edges d es g) (edges_rise g one es d)
      (passing_there edge_key (edge_goes d es) (λ n. has_edge g (record { 0 = n })) g.edges
      (list_all_weaker (is_own edge_key g.edges) (λ (r : EdgeRecord). has_edge g (record { 0 = edge_key r })) (λ r own. edge_found g (edge_key r) ∙ own) g.edges (all_own edge_key g.edges))) in (
        all.0,
        all.1 ∙ ap (λ (l : List EdgeRecord). with_edges g l g.next_edge) (without_passing edge_key (edge_goes d es) g.edges 0
            (rises_from_graph 0 (map edge_key g.edges) g.next_edge ((and_parts (numbers_ascend 0 (map edge_key g.edges) g.next_edge) (nat_lt g.next_edge (2 ^ 32)) (edge_numbers g one)).0))),
      )

  lead_nodes : (can_act_each (map node_out (reverse (deleted_nodes es g))) without_edges ≡ true) × (changed_by_each (map node_out (reverse (deleted_nodes es g))) without_edges ≡ deleted d es g)
  lead_nodes =
      let all = nodes_out without_edges (graph_of_edges g one (λ (r : EdgeRecord). not (edge_goes d es r))) (deleted_nodes es g) (nodes_rise g one es)
      (passing_there node_key (λ (r : NodeRecord). is_named es (elem.Node r.number)) (λ n. has_node without_edges (record { 0 = n })) g.nodes
      (list_all_weaker (is_own node_key g.nodes) (λ (r : NodeRecord). has_node without_edges (record { 0 = node_key r })) (λ r own. node_found g (node_key r) ∙ own) g.nodes (all_own node_key g.nodes)))
      (ends_all_stay d es g g.nodes none) in (
        all.0,
        all.1 ∙ ap (λ (l : List NodeRecord). with_nodes without_edges l g.next_node) (without_passing node_key (λ (r : NodeRecord). is_named es (elem.Node r.number)) g.nodes 0
            (rises_from_graph 0 (map node_key g.nodes) g.next_node ((and_parts (numbers_ascend 0 (map node_key g.nodes) g.next_node) (nat_lt g.next_node (2 ^ 32)) (node_numbers g one)).0))),
      )

  lead_all : LeadTo g (outs (deleted_nodes es g) (deleted_edges d es g)) (deleted d es g)
  lead_all =
      let first = map edge_out (reverse (deleted_edges d es g)) in
      let second = map node_out (reverse (deleted_nodes es g)) in (
        can_act_each-append first second g
            ∙ and_from (can_act_each first g) (can_act_each second (changed_by_each first g)) lead_edges.0 (ap (can_act_each second) lead_edges.1 ∙ lead_nodes.0),
        changed_by_each-append first second g ∙ ap (changed_by_each second) lead_edges.1 ∙ lead_nodes.1,
      )

  pub lead_out : (cs : List Change) (nodes edges : List ℕ) → cs ≡ outs nodes edges → nodes ≡ deleted_nodes es g → edges ≡ deleted_edges d es g → LeadTo g cs (deleted d es g)
  lead_out cs nodes edges is p q = subst (λ (l : List Change). LeadTo g l (deleted d es g)) (sym (is ∙ (λ i. outs (p i) (q i)))) lead_all

-- a plan for the named elements is one of the clause
pub planned : (g : PropertyGraph) (columns : ColumnList) (rows : RowList) (d : Detachment) (names : List (List ℕ)) (es : List Elem) (r : Result (List Change) ChangeFault)
    → es ≡ named_elements columns names rows → Deletes d es g r → Plans (λ cs. (cs, rows)) g r (changed_by_deletion g [] columns rows d names)
planned g columns rows d names es (Ok cs) is made =
    let P : List Elem → Type 0 = λ l. Deletes d l g (Ok cs) in
    let all : Deletes d (named_elements columns names rows) g (Ok cs) = subst P is made in
    ((deleted d (named_elements columns names rows) g, rows), ap (λ (o : Option Refusal). refused_by o (deleted d (named_elements columns names rows) g, rows)) all.0, all.1, refl)
planned g columns rows d names es (Err fault.OutOfMemory) is made = tt
planned g columns rows d names es (Err (fault.Refused r)) is made =
    let P : List Elem → Type 0 = λ l. Deletes d l g (Err (fault.Refused r)) in
    let all : Deletes d (named_elements columns names rows) g (Err (fault.Refused r)) = subst P is made in
    ap (λ (o : Option Refusal). refused_by o (deleted d (named_elements columns names rows) g, rows)) all
