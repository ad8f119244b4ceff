-- What a name stands for by its places is what it stands for in the scope.
use Rattle.std.proofs.Common.{◌≡◌, ℕ, zero, suc, ◌<◌, ◌≤◌, Bool, true, false, cond, List, [], ◌∷◌, ◌++◌, length, map, get_or, min, Option, Some, None, refl, ap, sym, ◌∙◌, arith}
use Rattle.std.specs.Prelude.{find, option_map}
use Rattle.gql_values3.specs.Datum.{Datum}
use Rattle.gql_values3.specs.Meaning.{datum_of}
use Rattle.gql_values3.specs.Texts.{same_text}
use Rattle.gql_values3.specs.declared.table.ColumnKind.{ColumnKind}
use Rattle.gql_values3.specs.declared.value.Value.{Value}
use Rattle.gql_ast.specs.Scope.{Entry, entry_of, row_scope, datum_in, datum_of_name, group_in, is_group_name, holds_group}
use Rattle.gql_eval.specs.Bound.{match_scope}
use Rattle.gql_eval.specs.Machinery.Places.{place_among, places_among}
use Rattle.gql_eval.specs.Machinery.ScopeMeaning.{item_entry, scope_of, rest_of}
use Rattle.gql_eval.specs.Machinery.AtPlaces.{held_at, value_there, first_held, is_group_at, column_group, first_group}
use Rattle.gql_eval.specs.declared.places.Places.{Places}
use Rattle.gql_eval.specs.declared.scope.Scope.{Scope}
use Rattle.gql_eval.proofs.ScopeLemmas.{entry_append, first, bound_placed, group_placed}

-- a name by its place is the name in the scope
there : (b : Bool) (c : List ℕ × ColumnKind) (d : Datum) (ds : List Datum) (o : Option ℕ) (e : Option Entry)
    → value_there ds o ≡ option_map (λ (w : Entry). w.datum) e
    → value_there (d ∷ ds) (cond b (Some 0) (option_map suc o)) ≡ option_map (λ (w : Entry). w.datum) (cond b (Some (record { name = c.0; is_group = holds_group c.1; datum = d })) e)
there true c d ds o e same = refl
there false c d ds None e same = same
there false c d ds (Some i) e same = same

nowhere : (o : Option ℕ) → value_there [] o ≡ None
nowhere None = refl
nowhere (Some i) = refl

pub value_placed : (cs : List (List ℕ × ColumnKind)) (ds : List Datum) (x : List ℕ)
    → value_there ds (place_among cs x) ≡ option_map (λ (w : Entry). w.datum) (entry_of (row_scope cs ds) x)
value_placed [] ds x = refl
value_placed (c ∷ cs) [] x = nowhere (place_among (c ∷ cs) x)
value_placed (c ∷ cs) (d ∷ ds) x = there (same_text x c.0) c d ds (place_among cs x) (entry_of (row_scope cs ds) x) (value_placed cs ds x)

held_first : (a b c : Option Entry) → first_held a (option_map (λ (w : Entry). w.datum) b) (datum_in c) ≡ datum_in (first a (first b c))
held_first (Some e) b c = refl
held_first None (Some e) c = refl
held_first None None c = refl

pub held_is : (s : Scope) (x : List ℕ) → held_at s (places_among s.columns.now s.names.now x) x ≡ datum_of_name (scope_of s) x
unfolding scope_of rest_of
held_is s x =
    let front = map item_entry s.front.now in
    let row = row_scope s.columns.now (map datum_of s.row.now) in
    let behind = match_scope s.names.now s.bound.now in
    ap (λ d. first_held (entry_of front x) (value_there (map datum_of s.row.now) (place_among s.columns.now x)) d) (bound_placed s.names.now s.bound.now x)
    ∙ ap (λ o. first_held (entry_of front x) o (datum_of_name behind x)) (value_placed s.columns.now (map datum_of s.row.now) x)
    ∙ held_first (entry_of front x) (entry_of row x) (entry_of behind x)
    ∙ ap datum_in (ap (first (entry_of front x)) (sym (entry_append row behind x)) ∙ sym (entry_append front (row ++ behind) x))

-- what stands at a place of a row
pub value_at_place : (row : List Value) (i : ℕ) (v : Value) → i < length row → v ≡ get_or row i v → value_there (map datum_of row) (Some i) ≡ Some (datum_of v)
value_at_place [] i v h p = absurd (omega arith)
value_at_place (x ∷ xs) zero v h p = ap (λ z. Some (datum_of z)) (sym p)
value_at_place (x ∷ xs) (suc i) v h p = value_at_place xs i v (omega arith) p

pub no_value_at_place : (row : List Value) (i : ℕ) → length row ≤ i → value_there (map datum_of row) (Some i) ≡ None
no_value_at_place [] i h = refl
no_value_at_place (x ∷ xs) zero h = absurd (omega arith)
no_value_at_place (x ∷ xs) (suc i) h = no_value_at_place xs i (omega arith)

-- the same of whether it is a group
group_there : (b : Bool) (c : List ℕ × ColumnKind) (cs : List (List ℕ × ColumnKind)) (d : Datum) (ds : List Datum) (o : Option ℕ) (e : Option Entry)
    → column_group cs ds o ≡ option_map (λ (w : Entry). w.is_group) e
    → column_group (c ∷ cs) (d ∷ ds) (cond b (Some 0) (option_map suc o)) ≡ option_map (λ (w : Entry). w.is_group) (cond b (Some (record { name = c.0; is_group = holds_group c.1; datum = d })) e)
group_there true c cs d ds o e same = refl
group_there false c cs d ds None e same = same
group_there false c cs d ds (Some i) e same = same

no_group : (cs : List (List ℕ × ColumnKind)) (o : Option ℕ) → column_group cs [] o ≡ None
no_group cs None = refl
no_group [] (Some i) = refl
no_group (c ∷ cs) (Some i) = refl

group_in_row : (cs : List (List ℕ × ColumnKind)) (ds : List Datum) (x : List ℕ)
    → column_group cs ds (place_among cs x) ≡ option_map (λ (w : Entry). w.is_group) (entry_of (row_scope cs ds) x)
group_in_row [] ds x = refl
group_in_row (c ∷ cs) [] x = no_group (c ∷ cs) (place_among (c ∷ cs) x)
group_in_row (c ∷ cs) (d ∷ ds) x = group_there (same_text x c.0) c cs d ds (place_among cs x) (entry_of (row_scope cs ds) x) (group_in_row cs ds x)

group_first : (a b c : Option Entry) → first_group a (option_map (λ (w : Entry). w.is_group) b) (group_in c) ≡ group_in (first a (first b c))
group_first (Some e) b c = refl
group_first None (Some e) c = refl
group_first None None c = refl

pub group_is : (s : Scope) (x : List ℕ) → is_group_at s (places_among s.columns.now s.names.now x, x) ≡ is_group_name (scope_of s) x
unfolding scope_of rest_of
group_is s x =
    let front = map item_entry s.front.now in
    let row = row_scope s.columns.now (map datum_of s.row.now) in
    let behind = match_scope s.names.now s.bound.now in
    ap (λ b. first_group (entry_of front x) (column_group s.columns.now (map datum_of s.row.now) (place_among s.columns.now x)) b) (group_placed s.names.now s.bound.now x)
    ∙ ap (λ o. first_group (entry_of front x) o (is_group_name behind x)) (group_in_row s.columns.now (map datum_of s.row.now) x)
    ∙ group_first (entry_of front x) (entry_of row x) (entry_of behind x)
    ∙ ap group_in (ap (first (entry_of front x)) (sym (entry_append row behind x)) ∙ sym (entry_append front (row ++ behind) x))

-- a column at a place
pub column_group_at : (cs : List (List ℕ × ColumnKind)) (row : List Value) (i : ℕ) (c : List ℕ × ColumnKind) → i < min (length cs) (length row) → c ≡ get_or cs i c
    → column_group cs (map datum_of row) (Some i) ≡ Some (holds_group c.1)
column_group_at [] row i c h p = absurd (omega arith)
column_group_at (x ∷ xs) [] i c h p = absurd (omega arith)
column_group_at (x ∷ xs) (y ∷ ys) zero c h p = ap (λ (z : List ℕ × ColumnKind). Some (holds_group z.1)) (sym p)
column_group_at (x ∷ xs) (y ∷ ys) (suc i) c h p = column_group_at xs ys i c (omega arith) p

pub no_column_group_at : (cs : List (List ℕ × ColumnKind)) (row : List Value) (i : ℕ) → min (length cs) (length row) ≤ i → column_group cs (map datum_of row) (Some i) ≡ None
no_column_group_at [] row i h = refl
no_column_group_at (x ∷ xs) [] i h = refl
no_column_group_at (x ∷ xs) (y ∷ ys) zero h = absurd (omega arith)
no_column_group_at (x ∷ xs) (y ∷ ys) (suc i) h = no_column_group_at xs ys i (omega arith)
