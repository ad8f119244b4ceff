-- A name among the columns of a row: what the row has there, and what the column holds.
use Rattle.std.proofs.Common.{◌≡◌, ℕ, zero, suc, ◌+◌, ◌<◌, Bool, true, false, cond, not, ◌&&◌, ◌||◌, List, [], ◌∷◌, ◌++◌, length, Option, Some, None, refl, sym, ap, ◌∙◌, arith, ◌==◌}
use Rattle.std.proofs.lemmas.Bool.{or_from}
use Rattle.std.specs.Prelude.{option_map, unwrap_or, find, slice_get}
use Rattle.std.proofs.lemmas.Bool.Decides.{nat_tests}
use Rattle.gql_values3.specs.Datum.{Datum}
use Rattle.gql_values3.specs.Texts.{same_text}
use Rattle.gql_values3.specs.declared.table.ColumnKind.{ColumnKind}
use Rattle.gql_values3.specs.declared.table.ColumnKind.TheVariants as kind
use Rattle.gql_ast.specs.ClauseColumns.{ColumnList, is_column}
use Rattle.gql_ast.specs.InsertColumns.{Spots, with_variable}
use Rattle.gql_ast.specs.Outputs.{kind_of_name}
use Rattle.gql_ast.specs.Scope.{row_scope, datum_of_name, datum_in}
use Rattle.gql_ast.specs.Endpoints.{is_node, wrong_endpoint, wrong_in_spots}
use Rattle.gql_eval.specs.Machinery.Places.{place_among}
use Rattle.gql_eval.specs.Machinery.ScopeMeaning.{column_entry}
use Rattle.gql_eval.proofs.ScopeLemmas.{at_place, entry_at_place, place_below}
use Rattle.gql_change.specs.Machinery.Roles.{datum_at, role_at, role_of, Question, questions}
use Rattle.gql_eval.specs.Machinery.Noting.{earlier}
use Rattle.gql_change.specs.declared.role.Role.{Role}
use Rattle.gql_change.specs.declared.role.Role.TheVariants as role
use Rattle.gql_change.proofs.PlaceOfName.{a_column}

-- the row's datum of the column of a place
entry_datum : (cs : ColumnList) (row : List Datum) (i : ℕ) → i < length cs → datum_in (column_entry cs row i) ≡ datum_at row i
entry_datum [] row i h = absurd (omega arith)
entry_datum (c ∷ cs) [] i h = refl
entry_datum (c ∷ cs) (d ∷ ds) zero h = refl
entry_datum (c ∷ cs) (d ∷ ds) (suc i) h = entry_datum cs ds i (omega arith)

pub datum_named : (cs : ColumnList) (row : List Datum) (x : List ℕ) (i : ℕ) → place_among cs x ≡ Some i → datum_of_name (row_scope cs row) x ≡ datum_at row i
datum_named cs row x i h =
    ap datum_in (sym (entry_at_place cs row x) ∙ ap (at_place cs row) h) ∙ entry_datum cs row i (place_below cs x i h)

-- a longer row
pub datum_before : (row : List Datum) (d : Datum) (i : ℕ) → i < length row → datum_at (row ++ d ∷ []) i ≡ datum_at row i
datum_before [] d i h = absurd (omega arith)
datum_before (e ∷ es) d zero h = refl
datum_before (e ∷ es) d (suc i) h = datum_before es d i (omega arith)

pub datum_last : (row : List Datum) (d : Datum) (i : ℕ) → i ≡ length row → datum_at (row ++ d ∷ []) i ≡ d
datum_last [] d zero h = refl
datum_last [] d (suc i) h = absurd (omega arith)
datum_last (e ∷ es) d zero h = absurd (omega arith)
datum_last (e ∷ es) d (suc i) h = datum_last es d i (omega arith)

-- the place of a name in two lists of columns
two_parts : (b : Bool) (p q r : Option ℕ) (n : ℕ) → r ≡ earlier p (option_map (λ j. n + j) q)
    → cond b (Some 0) (option_map suc r) ≡ earlier (cond b (Some 0) (option_map suc p)) (option_map (λ j. suc n + j) q)
two_parts true p q r n h = refl
two_parts false (Some i) q r n h = ap (option_map suc) h
two_parts false None (Some j) r n h = ap (option_map suc) h ∙ ap Some (let e : suc (n + j) ≡ suc n + j = omega arith in e)
two_parts false None None r n h = ap (option_map suc) h

alone : (o : Option ℕ) → o ≡ option_map (λ j. 0 + j) o
alone None = refl
alone (Some i) = ap Some (let e : i ≡ 0 + i = omega arith in e)

pub place_in_two : (cs ds : ColumnList) (x : List ℕ) → place_among (cs ++ ds) x ≡ earlier (place_among cs x) (option_map (λ j. length cs + j) (place_among ds x))
place_in_two [] ds x = alone (place_among ds x)
place_in_two (c ∷ cs) ds x = two_parts (same_text x c.0) (place_among cs x) (place_among ds x) (place_among (cs ++ ds) x) (length cs) (place_in_two cs ds x)

-- what the column of a place holds
abbrev pub kind_at : ColumnList → ℕ → Option ColumnKind
kind_at cs i = option_map (λ (c : List ℕ × ColumnKind). c.1) (slice_get cs i)

kind_found : (b : Bool) (c : List ℕ × ColumnKind) (o : Option ℕ) (f : Option (List ℕ × ColumnKind)) (cs : ColumnList) (i : ℕ)
    → ((j : ℕ) → o ≡ Some j → kind_at cs j ≡ option_map (λ (e : List ℕ × ColumnKind). e.1) f)
    → cond b (Some 0) (option_map suc o) ≡ Some i → kind_at (c ∷ cs) i ≡ option_map (λ (e : List ℕ × ColumnKind). e.1) (cond b (Some c) f)
kind_found true c o f cs zero rec h = refl
kind_found true c o f cs (suc i) rec h = absurd (let e : 0 ≡ suc i = cc in omega (arith, e))
kind_found false c None f cs i rec h = absurd (cc)
kind_found false c (Some j) f cs zero rec h = absurd (let e : suc j ≡ 0 = cc in omega (arith, e))
kind_found false c (Some j) f cs (suc i) rec h = let e : j ≡ i = (let s : suc j ≡ suc i = cc in omega (arith, s)) in ap (kind_at cs) (sym e) ∙ rec j refl

kind_first : (cs : ColumnList) (x : List ℕ) (i : ℕ) → place_among cs x ≡ Some i → kind_at cs i ≡ option_map (λ (c : List ℕ × ColumnKind). c.1) (find (λ (c : List ℕ × ColumnKind). same_text x c.0) cs)
kind_first [] x i h = absurd (cc)
kind_first (c ∷ cs) x i h = kind_found (same_text x c.0) c (place_among cs x) (find (λ (e : List ℕ × ColumnKind). same_text x e.0) cs) cs i (λ j p. kind_first cs x j p) h

pub kind_named : (cs : ColumnList) (x : List ℕ) (i : ℕ) → place_among cs x ≡ Some i → kind_of_name cs x ≡ unwrap_or (kind_at cs i) kind.Plain
kind_named cs x i h = ap (λ o. unwrap_or o kind.Plain) (sym (kind_first cs x i h))

pub kind_before : (cs : ColumnList) (c : List ℕ × ColumnKind) (i : ℕ) (k : ColumnKind) → kind_at cs i ≡ Some k → kind_at (cs ++ c ∷ []) i ≡ Some k
kind_before [] c i k h = absurd (cc)
kind_before (d ∷ ds) c zero k h = h
kind_before (d ∷ ds) c (suc i) k h = kind_before ds c i k h

pub kind_last : (cs : ColumnList) (c : List ℕ × ColumnKind) → kind_at (cs ++ c ∷ []) (length cs) ≡ Some c.1
kind_last [] c = refl
kind_last (d ∷ ds) c = kind_last ds c

-- a list of two parts is empty
pub front_empty : {A : Type 0} (xs ys : List A) → xs ++ ys ≡ [] → xs ≡ []
front_empty [] ys h = refl
front_empty (x ∷ xs) ys h = absurd (cc)

pub back_empty : {A : Type 0} (xs ys : List A) → xs ++ ys ≡ [] → ys ≡ []
back_empty [] ys h = h
back_empty (x ∷ xs) ys h = absurd (cc)

-- a spot refers to the place
abbrev pub is_reference : ℕ → Role → Bool
is_reference i (role.Refers j) = i == j
is_reference i (role.New named) = false

abbrev pub refers_to : ℕ → List Question → Bool
refers_to i [] = false
refers_to i (q ∷ qs) = is_reference i q.0 || refers_to i qs

-- the place of an edge's column is not referred to
other_kind : (cs : ColumnList) (i j : ℕ) → kind_at cs i ≡ Some kind.Edge → is_node (unwrap_or (kind_at cs j) kind.Plain) ≡ true → (b : Bool) → (i == j) ≡ b → b ≡ false
other_kind cs i j p q false e = refl
other_kind cs i j p q true e =
    let same : i ≡ j = grind (arith, nat_tests, e) in
    let edge : is_node (unwrap_or (kind_at cs j) kind.Plain) ≡ false = ap (λ o. is_node (unwrap_or o kind.Plain)) (ap (kind_at cs) (sym same) ∙ p) in
    absurd (let f : false ≡ true = sym edge ∙ q in cc)

must_be_node : (b : Bool) (x : List ℕ) → cond (not b) (x ∷ []) [] ≡ [] → b ≡ true
must_be_node true x h = refl
must_be_node false x h = absurd (cc)

-- a node that refers has the column of a node
pub refers_to_node : (cs : ColumnList) (x : List ℕ) (j : ℕ) → wrong_endpoint cs kind.Node (Some x) ≡ [] → place_among cs x ≡ Some j → is_node (unwrap_or (kind_at cs j) kind.Plain) ≡ true
refers_to_node cs x j h e =
    let there : cond (true && not (is_node (kind_of_name cs x))) (x ∷ []) [] ≡ [] = ap (λ b. cond (b && not (is_node (kind_of_name cs x))) (x ∷ []) []) (sym (a_column cs x j e)) ∙ h in
    ap is_node (sym (kind_named cs x j e)) ∙ must_be_node (is_node (kind_of_name cs x)) x there

module _ (i : ℕ) where
  node_elsewhere : (cs : ColumnList) (x : List ℕ) → kind_at cs i ≡ Some kind.Edge → wrong_endpoint cs kind.Node (Some x) ≡ [] → (o : Option ℕ) → place_among cs x ≡ o
      → is_reference i (role_of cs kind.Node (Some x)) ≡ false
  node_elsewhere cs x p w None e = rw e refl
  node_elsewhere cs x p w (Some j) e = rw e (other_kind cs i j p (refers_to_node cs x j w e) (i == j) refl)

  role_elsewhere : (cs : ColumnList) (k : ColumnKind) (v : Option (List ℕ)) → kind_at cs i ≡ Some kind.Edge → wrong_endpoint cs k v ≡ [] → is_reference i (role_of cs k v) ≡ false
  role_elsewhere cs k None p w = refl
  role_elsewhere cs kind.Node (Some x) p w = node_elsewhere cs x p w (place_among cs x) refl
  role_elsewhere cs kind.Edge (Some x) p w = elim (place_among cs x) as (λ o. is_reference i (role_at kind.Edge o) ≡ false) [ None ↦ refl | Some j ↦ refl ]
  role_elsewhere cs kind.Nodes (Some x) p w = elim (place_among cs x) as (λ o. is_reference i (role_at kind.Nodes o) ≡ false) [ None ↦ refl | Some j ↦ refl ]
  role_elsewhere cs kind.Edges (Some x) p w = elim (place_among cs x) as (λ o. is_reference i (role_at kind.Edges o) ≡ false) [ None ↦ refl | Some j ↦ refl ]
  role_elsewhere cs kind.Path (Some x) p w = elim (place_among cs x) as (λ o. is_reference i (role_at kind.Path o) ≡ false) [ None ↦ refl | Some j ↦ refl ]
  role_elsewhere cs kind.Plain (Some x) p w = elim (place_among cs x) as (λ o. is_reference i (role_at kind.Plain o) ≡ false) [ None ↦ refl | Some j ↦ refl ]

  grown_kind : (b : Bool) (cs : ColumnList) (c : List ℕ × ColumnKind) → kind_at cs i ≡ Some kind.Edge → kind_at (cond b cs (cs ++ c ∷ [])) i ≡ Some kind.Edge
  grown_kind true cs c p = p
  grown_kind false cs c p = kind_before cs c i kind.Edge p

  kind_stays : (cs : ColumnList) (k : ColumnKind) (v : Option (List ℕ)) → kind_at cs i ≡ Some kind.Edge → kind_at (with_variable cs k v) i ≡ Some kind.Edge
  kind_stays cs k None p = p
  kind_stays cs k (Some x) p = grown_kind (is_column cs x) cs (x, k) p

  pub edge_not_referred : (cs : ColumnList) (ss : Spots) → kind_at cs i ≡ Some kind.Edge → wrong_in_spots cs ss ≡ [] → refers_to i (questions cs ss) ≡ false
  edge_not_referred cs [] p w = refl
  edge_not_referred cs (s ∷ ss) p w =
      or_from (is_reference i (role_of cs s.0 s.1.variable)) (refers_to i (questions (with_variable cs s.0 s.1.variable) ss))
      (role_elsewhere cs s.0 s.1.variable p (front_empty (wrong_endpoint cs s.0 s.1.variable) (wrong_in_spots (with_variable cs s.0 s.1.variable) ss) w))
      (edge_not_referred (with_variable cs s.0 s.1.variable) ss (kind_stays cs s.0 s.1.variable p) (back_empty (wrong_endpoint cs s.0 s.1.variable) (wrong_in_spots (with_variable cs s.0 s.1.variable) ss) w))
