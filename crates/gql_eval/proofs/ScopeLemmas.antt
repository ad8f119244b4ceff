-- Entries by name.
use Rattle.std.proofs.Common.{◌≡◌, ℕ, zero, suc, ◌+◌, ◌<◌, ◌≤◌, Bool, true, false, cond, List, [], ◌∷◌, ◌++◌, length, map, drop, get_or, min, Option, Some, None, refl, ap, sym, ◌∙◌, arith}
use Rattle.std.specs.Prelude.{find, option_map, unwrap_or}
use Rattle.std.proofs.lemmas.Grind.{common_steps}
use Rattle.gql_values3.specs.Datum.{Datum, null}
use Rattle.gql_values3.specs.Texts.{same_text}
use Rattle.gql_values3.specs.Meaning.{datum_of}
use Rattle.gql_values3.specs.declared.value.Value.{Value}
use Rattle.gql_values3.specs.declared.table.ColumnKind.{ColumnKind}
use Rattle.gql_ast.specs.Scope.{Scope, Entry, entry_of, datum_in, datum_of_name, group_in, is_group_name, row_scope, holds_group}
use Rattle.gql_values3.specs.declared.table.Binding.{Binding}
use Rattle.gql_eval.specs.declared.scope.Item.{Item}
use Rattle.gql_eval.specs.Machinery.Places.{place_among, name_among}
use Rattle.gql_eval.specs.Machinery.AtPlaces.{binding_there, bound_there}
use Rattle.gql_eval.specs.Machinery.ScopeMeaning.{item_entry, column_entry}
use Rattle.gql_eval.specs.Bound.{bound_scope, match_scope, bound_entry, bound_datum, is_bound_group}

-- the first that is there
abbrev pub first : {A : Type 0} → Option A → Option A → Option A
first None o = o
first (Some a) o = Some a

kept : {A : Type 0} (b : Bool) (x : A) (r s t : Option A) → r ≡ first s t → cond b (Some x) r ≡ first (cond b (Some x) s) t
kept true x r s t h = refl
kept false x r s t h = h

-- what is found in a list of two parts
pub find_append : {A : Type 0} (p : A → Bool) (xs ys : List A) → find p (xs ++ ys) ≡ first (find p xs) (find p ys)
find_append p [] ys = refl
find_append p (x ∷ xs) ys = kept (p x) x (find p (xs ++ ys)) (find p xs) (find p ys) (find_append p xs ys)

pub entry_append : (xs ys : Scope) (x : List ℕ) → entry_of (xs ++ ys) x ≡ first (entry_of xs x) (entry_of ys x)
entry_append xs ys x = find_append (λ (e : Entry). same_text x e.name) xs ys

-- what the names of a match stand for, by their places
no_binding : (o : Option ℕ) → binding_there [] o ≡ None
no_binding None = refl
no_binding (Some i) = refl

binding_later : (b : Binding) (bs : List Binding) (o : Option ℕ) → binding_there (b ∷ bs) (option_map suc o) ≡ binding_there bs o
binding_later b bs None = refl
binding_later b bs (Some i) = refl

-- over any reading of a binding and of an entry that agree
module _ {X : Type 0} (of_binding : Binding → X) (of_entry : Entry → X) (default : X) (agree : (n : List ℕ) (b : Binding) → of_entry (bound_entry (n, b)) ≡ of_binding b) where
  abbrev read_entry : Option Entry → X
  read_entry o = unwrap_or (option_map of_entry o) default

  abbrev read_binding : Option Binding → X
  read_binding o = unwrap_or (option_map of_binding o) default

  either : (t : Bool) (n : List ℕ) (b : Binding) (bs : List Binding) (o : Option ℕ) (e : Option Entry) → read_binding (binding_there bs o) ≡ read_entry e
      → read_binding (binding_there (b ∷ bs) (cond t (Some 0) (option_map suc o))) ≡ read_entry (cond t (Some (bound_entry (n, b))) e)
  either true n b bs o e same = sym (agree n b)
  either false n b bs o e same = ap read_binding (binding_later b bs o) ∙ same

  placed : (ns : List (List ℕ)) (bs : List Binding) (x : List ℕ) → read_binding (binding_there bs (name_among ns x)) ≡ read_entry (entry_of (match_scope ns bs) x)
  placed [] bs x = refl
  placed (n ∷ ns) [] x = ap read_binding (no_binding (name_among (n ∷ ns) x))
  placed (n ∷ ns) (b ∷ bs) x = either (same_text x n) n b bs (name_among ns x) (entry_of (match_scope ns bs) x) (placed ns bs x)

datum_read : (o : Option Entry) → unwrap_or (option_map (λ (e : Entry). e.datum) o) null ≡ datum_in o
datum_read None = refl
datum_read (Some e) = refl

group_read : (o : Option Entry) → unwrap_or (option_map (λ (e : Entry). e.is_group) o) false ≡ group_in o
group_read None = refl
group_read (Some e) = refl

pub bound_placed : (ns : List (List ℕ)) (bs : List Binding) (x : List ℕ) → bound_there bs (name_among ns x) ≡ datum_of_name (match_scope ns bs) x
bound_placed ns bs x = placed bound_datum (λ e. e.datum) null (λ n b. refl) ns bs x ∙ datum_read (entry_of (match_scope ns bs) x)

pub group_placed : (ns : List (List ℕ)) (bs : List Binding) (x : List ℕ) → unwrap_or (option_map is_bound_group (binding_there bs (name_among ns x))) false ≡ is_group_name (match_scope ns bs) x
group_placed ns bs x = placed is_bound_group (λ e. e.is_group) false (λ n b. refl) ns bs x ∙ group_read (entry_of (match_scope ns bs) x)

-- what stands at a place of a list
pub binding_at_place : (bs : List Binding) (i : ℕ) (b : Binding) → i < length bs → b ≡ get_or bs i b → binding_there bs (Some i) ≡ Some b
binding_at_place [] i b h p = absurd (omega arith)
binding_at_place (x ∷ xs) zero b h p = ap Some (sym p)
binding_at_place (x ∷ xs) (suc i) b h p = binding_at_place xs i b (omega arith) p

pub no_binding_at_place : (bs : List Binding) (i : ℕ) → length bs ≤ i → binding_there bs (Some i) ≡ None
no_binding_at_place [] i h = refl
no_binding_at_place (x ∷ xs) zero h = absurd (omega arith)
no_binding_at_place (x ∷ xs) (suc i) h = no_binding_at_place xs i (omega arith)

-- names and what they stand for, put together again
pub both_again : (bs : List (List ℕ × Binding)) → match_scope (map (λ (b : List ℕ × Binding). b.0) bs) (map (λ (b : List ℕ × Binding). b.1) bs) ≡ bound_scope bs
both_again [] = refl
both_again (b ∷ bs) = ap (λ s. bound_entry b ∷ s) (both_again bs)

-- without any
pub no_bindings : (ns : List (List ℕ)) → match_scope ns [] ≡ []
no_bindings [] = refl
no_bindings (n ∷ ns) = refl

-- the items from i on
abbrev pub items_from : List Item → List ℕ → ℕ → Option Entry
items_from items x i = entry_of (map item_entry (drop i items)) x

pub item_step : (items : List Item) (x : List ℕ) (i : ℕ) (e : Item) → i < length items → e ≡ get_or items i e
    → items_from items x i ≡ cond (same_text x e.name.now) (Some (item_entry e)) (items_from items x (i + 1))
item_step items x i e h p = grind (arith, common_steps)

-- no names of a match
pub append_none : {A : Type 0} (xs : List A) → xs ++ [] ≡ xs
append_none [] = refl
append_none (x ∷ xs) = ap (λ ys. x ∷ ys) (append_none xs)

-- what stands at the place of the first column of a name
abbrev pub at_place : List (List ℕ × ColumnKind) → List Datum → Option ℕ → Option Entry
at_place cs ds None = None
at_place cs ds (Some i) = column_entry cs ds i

moved : (c : List ℕ × ColumnKind) (cs : List (List ℕ × ColumnKind)) (d : Datum) (ds : List Datum) (o : Option ℕ)
    → at_place (c ∷ cs) (d ∷ ds) (option_map suc o) ≡ at_place cs ds o
moved c cs d ds None = refl
moved c cs d ds (Some i) = refl

nothing_there : (c : List ℕ × ColumnKind) (cs : List (List ℕ × ColumnKind)) (o : Option ℕ) → at_place (c ∷ cs) [] o ≡ None
nothing_there c cs None = refl
nothing_there c cs (Some i) = refl

either_place : (b : Bool) (c : List ℕ × ColumnKind) (cs : List (List ℕ × ColumnKind)) (d : Datum) (ds : List Datum) (o : Option ℕ) (e : Option Entry) → at_place cs ds o ≡ e
    → at_place (c ∷ cs) (d ∷ ds) (cond b (Some 0) (option_map suc o)) ≡ cond b (Some (record { name = c.0; is_group = holds_group c.1; datum = d })) e
either_place true c cs d ds o e same = refl
either_place false c cs d ds o e same = moved c cs d ds o ∙ same

pub entry_at_place : (cs : List (List ℕ × ColumnKind)) (ds : List Datum) (x : List ℕ)
    → at_place cs ds (place_among cs x) ≡ entry_of (row_scope cs ds) x
entry_at_place [] ds x = refl
entry_at_place (c ∷ cs) [] x = nothing_there c cs (place_among (c ∷ cs) x)
entry_at_place (c ∷ cs) (d ∷ ds) x =
    either_place (same_text x c.0) c cs d ds (place_among cs x) (entry_of (row_scope cs ds) x) (entry_at_place cs ds x)

placed_below : (b : Bool) (o : Option ℕ) (n i : ℕ) → cond b (Some 0) (option_map suc o) ≡ Some i → ((j : ℕ) → o ≡ Some j → j < n) → i < suc n
placed_below true o n i h below = let e : 0 ≡ i = cc in omega (arith, e)
placed_below false None n i h below = absurd (cc)
placed_below false (Some j) n i h below = let e : suc j ≡ i = cc in omega (arith, e, below j refl)

pub place_below : (cs : List (List ℕ × ColumnKind)) (x : List ℕ) (i : ℕ) → place_among cs x ≡ Some i → i < length cs
place_below [] x i h = absurd (cc)
place_below (c ∷ cs) x i h = placed_below (same_text x c.0) (place_among cs x) (length cs) i h (λ j p. place_below cs x j p)
