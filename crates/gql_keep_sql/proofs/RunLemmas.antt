-- A run of records from a key on: its rows were selected, and it is no run from there where it begins with another key.
use Rattle.std.proofs.Common.{◌≡◌, ℕ, Bool, true, false, ◌&&◌, List, [], ◌∷◌, ◌++◌, All, Option, Some, None, inl, inr, refl, sym, ◌∙◌, ap, subst, reverse}
use Rattle.std.specs.List.{AllZip, list_all}
use Rattle.std.specs.Cmp.Lexicographic.{bytes_decides}
use Rattle.std.proofs.lemmas.List.{reverse-append, reverse-reverse}
use Rattle.std.proofs.lemmas.List.Elements.{All-weaker}
use Rattle.sqlite.specs.declared.types.Value.{Value}
use Rattle.sqlite.specs.declared.types.Value.TheVariants.{Blob}
use Rattle.sqlite.specs.declared.error.Error.{Error}
use Rattle.sqlite.specs.Order.{column}
use Rattle.sqlite.specs.State.{HasCleanDisk}
use Rattle.sqlite.specs.Store.{Ghosts}
use Rattle.sqlite.specs.Held.{Held, state}
use Rattle.gql_values3.specs.Texts.{same_text}
use Rattle.gql_ports.specs.declared.stored.Record.{Record}
use Rattle.gql_keep_sql.specs.declared.place.Place.{Place}
use Rattle.gql_keep_sql.specs.declared.place.Place.TheVariants.{Nowhere, Memory, File}
use Rattle.gql_keep_sql.specs.Fetched.{Selects, IsSelected, HasRecord, IsInRow, IsRun, is_record, has_bytes, begin_with, held_at, FailsToSelect, FailsToRead, FailsToFetch}
use Rattle.gql_keep_sql.proofs.HeldLemmas.{run_in_rows}

-- ---- rows of records

row_of_record : (row : List Value) (r : Record) → HasRecord row r → is_record row ≡ true
row_of_record row r has = rw (has.0, has.1) refl

pub rows_of_records : (rows : List (List Value)) (records : List Record) → AllZip HasRecord rows records → list_all is_record rows ≡ true
rows_of_records [] [] pairs = refl
rows_of_records [] (r ∷ records) pairs = absurd pairs
rows_of_records (row ∷ rows) [] pairs = absurd pairs
rows_of_records (row ∷ rows) (r ∷ records) pairs = rw (row_of_record row r pairs.0) (rows_of_records rows records pairs.1)

-- ---- runs

-- the rows of a run were selected
pub run_selected : {S : Type 0} (g : Ghosts S) (from : List ℕ) (records : List Record) (old new : Place S) → IsRun g from records old new → All (IsInRow (λ row. IsSelected g row old new)) records
run_selected g from records (File name old) (File new_name new) told =
    All-weaker (IsInRow (λ row. HasCleanDisk (state g new) → Selects g row old new)) (IsInRow (λ row. IsSelected g row (File name old) (File new_name new)))
    (λ r it. (it.0, it.1, (told.0, it.2))) records (run_in_rows g from records old new told.1)
run_selected g from records (File name old) Nowhere told = absurd told
run_selected g from records (File name old) (Memory new) told = absurd told
run_selected g from records Nowhere new told = absurd told
run_selected g from records (Memory old) new told = absurd told

-- as they stand in a list in reverse
pub run_in_reverse : {S : Type 0} (g : Ghosts S) (from : List ℕ) (records run : List Record) (old new : Place S) → run ≡ reverse records → IsRun g from records old new → IsRun g from (reverse run) old new
run_in_reverse g from records run old new is told = subst (λ xs. IsRun g from xs old new) (sym (ap reverse is ∙ reverse-reverse records)) told

and_false : (a b : Bool) → b ≡ false → (a && b) ≡ false
and_false true b h = h
and_false false b h = refl

-- rows that are not all of records begin no run
fewer_begin : (key : List ℕ) (rows : List (List Value)) → list_all is_record rows ≡ false → begin_with key rows ≡ false
fewer_begin key [] h = refl
fewer_begin key (row ∷ rows) h = and_false (has_bytes key (column row 0)) (list_all is_record (row ∷ rows)) h

fails_to_select : {S : Type 0} (g : Ghosts S) (key : List ℕ) (old new : Held S) (e : Error) → FailsToSelect g key (list_all is_record) old new e → FailsToSelect g key (begin_with key) old new e
fails_to_select g key old new e why clean = elim (why clean) [
  | inl refused ↦ inl refused
  | inr told ↦ inr (told.0, told.1, fewer_begin key told.0 told.2)
]

pub fails_to_begin : {S : Type 0} (g : Ghosts S) (key : List ℕ) (old new : Place S) (e : Error) → FailsToRead g key (list_all is_record) old new e → FailsToRead g key (begin_with key) old new e
fails_to_begin g key (File name old) (File new_name new) e why = fails_to_select g key old new e why
fails_to_begin g key (File name old) Nowhere e why = absurd why
fails_to_begin g key (File name old) (Memory new) e why = absurd why
fails_to_begin g key Nowhere new e why = tt
fails_to_begin g key (Memory old) new e why = tt

other_bytes : (key own : List ℕ) (value : Value) → value ≡ Blob own → same_text own key ≡ false → has_bytes key value ≡ false
other_bytes key own value is other = ap (has_bytes key) is ∙ other

false_and : (a b : Bool) → a ≡ false → (a && b) ≡ false
false_and true b h = absurd cc
false_and false b h = refl

-- nor do those whose first record has another key
other_first : (key : List ℕ) (rows : List (List Value)) (records : List Record) → AllZip HasRecord rows records
    → ((r : Record) (more : List Record) → records ≡ r ∷ more → same_text r.key key ≡ false) → begin_with key rows ≡ false
other_first key [] records pairs other = refl
other_first key (row ∷ rows) [] pairs other = absurd pairs
other_first key (row ∷ rows) (r ∷ records) pairs other =
    false_and (has_bytes key (column row 0)) (list_all is_record (row ∷ rows)) (other_bytes key r.key (column row 0) pairs.0.0 (other r records refl))

not_same : (a b : List ℕ) → (a ≡ b → ⊥) → same_text a b ≡ false
not_same a b other = by (same_text a b) (λ same. other ((bytes_decides a b).0 same))
  where
    by : (same : Bool) → (same ≡ true → ⊥) → same ≡ false
    by true no_way = absurd (no_way refl)
    by false no_way = refl

-- the last of a list, of which there is one
pub last_same : (xs ys : List Record) (x y : Record) → xs ++ x ∷ [] ≡ ys ++ y ∷ [] → x ≡ y
last_same xs ys x y same = let both : x ∷ reverse xs ≡ y ∷ reverse ys = sym (reverse-append xs (x ∷ [])) ∙ ap reverse same ∙ reverse-append ys (y ∷ []) in cc

-- a run whose next record is not taken, since it has another key, is none from that key on
pub untaken : {S : Type 0} (g : Ghosts S) (key : List ℕ) (run : List Record) (taken : Option Record) (old new : Place S) (e : Error) → IsRun g key (reverse run) old new
    → ((front : List Record) (r : Record) → run ≡ front ++ r ∷ [] → r.key ≡ key → taken ≡ Some r) → taken ≡ None → FailsToRead g key (begin_with key) old new e
untaken g key run taken (File name old) (File new_name new) e told next none = λ clean.
    inr (
      told.1.0,
      told.1.2 clean,
      other_first key told.1.0 (reverse run) told.1.1
          (λ r more is. not_same r.key key (λ same. let some = next (reverse more) r (sym (reverse-reverse run) ∙ ap reverse is ∙ reverse-append (r ∷ []) more) same in absurd cc)),
    )
untaken g key run taken (File name old) Nowhere e told next none = absurd told
untaken g key run taken (File name old) (Memory new) e told next none = absurd told
untaken g key run taken Nowhere new e told next none = absurd told
untaken g key run taken (Memory old) new e told next none = absurd told

-- ---- records in memory

-- what stands at the place has another key
pub missed : {S : Type 0} (g : Ghosts S) (place new : Place S) (index : ℕ) (key : List ℕ) (r : Record) (e : Error) → Some r ≡ held_at place index → same_text r.key key ≡ false → FailsToFetch g index key place new e
missed g (Memory records) new index key r e is other = rw (sym is) other
missed g Nowhere new index key r e is other = absurd cc
missed g (File name old) new index key r e is other = absurd cc

-- or nothing does
pub unheld : {S : Type 0} (g : Ghosts S) (place new : Place S) (index : ℕ) (key : List ℕ) (e : Error) → None ≡ held_at place index → FailsToRead g key (begin_with key) place new e → FailsToFetch g index key place new e
unheld g (Memory records) new index key e is why = rw (sym is) tt
unheld g Nowhere new index key e is why = why
unheld g (File name old) new index key e is why = why
