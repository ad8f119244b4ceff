-- Records of rows that a query was answered by: each row of a run stands in the answer at its own place, and each of all rows somewhere.
use Rattle.std.proofs.Common.{◌≡◌, ℕ, List, [], ◌∷◌, ◌++◌, map, All, Contains, Option, IsPermutation, Some, length, inl, inr, refl, sym, ◌∙◌, ap, ap₂, subst, arith}
use Rattle.std.specs.Prelude.{slice_get}
use Rattle.std.specs.List.{AllZip}
use Rattle.std.specs.Option.{option_to_list}
use Rattle.std.proofs.lemmas.List.Sorted.{All-permutation, IsPermutation-trans, length_permutation}
use Rattle.std.proofs.lemmas.List.Elements.{All-from_get_or, All-nil, All-cons, All-head, All-tail, All-weaker, All-pop, All-contains}
use Rattle.std.proofs.lemmas.Option.{slice_get-get_or}
use Rattle.sqlite.specs.Recovery.{Image}
use Rattle.sqlite.specs.declared.types.Value.{Value}
use Rattle.sqlite.specs.declared.types.Value.TheVariants.{Blob}
use Rattle.sqlite.specs.Store.{Ghosts}
use Rattle.sqlite.specs.State.{HasCleanDisk}
use Rattle.sqlite.specs.Held.{Held, state}
use Rattle.gql_ports.specs.declared.stored.Record.{Record}
use Rattle.gql_keep_sql.specs.declared.place.Place.{Place}
use Rattle.gql_keep_sql.specs.declared.place.Place.TheVariants.{Nowhere, Memory, File}
use Rattle.gql_keep_sql.specs.Keys.{keys_of}
use Rattle.gql_keep_sql.specs.Fetched.{SelectsEach, SelectsRun, Selects, IsSelected, HasRecord, IsInRow, AreRead, AreReadAhead, IsFound, Fetches, AreSelected, AreAllRecords, AreAllKeys, first_column}
use Rattle.gql_keep_sql.proofs.PairLemmas.{pairs_permuted}

abbrev StandsIn : {X : Type 0} → List X → X → Type 0
StandsIn xs x = (at : ℕ) × (slice_get xs at ≡ Some x)

standing : {X : Type 0} (xs : List X) → All (StandsIn xs) xs
standing [] = All-nil _
standing (x ∷ xs) = All-from_get_or (StandsIn (x ∷ xs)) (x ∷ xs) x (λ i below. (i, slice_get-get_or (x ∷ xs) i x below))

-- what holds of each row holds of each record's row
each_in_row : (P : List Value → Type 0) (rows : List (List Value)) (records : List Record) → AllZip HasRecord rows records → All P rows → All (IsInRow P) records
each_in_row P [] [] pairs all = All-nil _
each_in_row P [] (r ∷ records) pairs all = absurd pairs
each_in_row P (row ∷ rows) [] pairs all = absurd pairs
each_in_row P (row ∷ rows) (r ∷ records) pairs all =
    All-cons (IsInRow P) r records (row, pairs.0, All-head P row rows all) (each_in_row P rows records pairs.1 (All-tail P row rows all))

-- the records of a run
pub run_in_rows : {S : Type 0} (g : Ghosts S) (from : List ℕ) (records : List Record) (old new : Held S) → AreRead g records new (λ rows. SelectsRun g from rows old new)
    → All (IsInRow (λ row. HasCleanDisk (state g new) → Selects g row old new)) records
run_in_rows g from records old new told =
    let P = λ (row : List Value). HasCleanDisk (state g new) → Selects g row old new in
    each_in_row P told.0 records told.1 (All-weaker (StandsIn told.0) P (λ row here clean. record { rows = told.0; answer = inr (from, told.2 clean); at = here.0; is = here.1 }) told.0 (standing told.0))

each_row : {S : Type 0} (g : Ghosts S) (rows : List (List Value)) (old new : Held S) → SelectsEach g rows old new → All (λ row. Selects g row old new) rows
each_row g rows old new told =
    All-weaker (StandsIn told.0) (λ row. Selects g row old new) (λ row here. record { rows = told.0; answer = inl told.1; at = here.0; is = here.1 }) rows
    (All-permutation (StandsIn told.0) told.0 rows told.2 (standing told.0))

each_selected : {S : Type 0} (g : Ghosts S) (rows : List (List Value)) (old new : Place S) → AreSelected g rows old new → All (λ row. IsSelected g row old new) rows
each_selected g rows (File name old) (File new_name new) told = λ i d below. (told.0, λ clean. each_row g rows old new (told.1 clean) i d below)
each_selected g rows Nowhere (Memory new) told = rw told.0 (All-nil _)
each_selected g rows Nowhere Nowhere told = absurd told
each_selected g rows Nowhere (File new_name new) told = absurd told
each_selected g rows (Memory old) new told = absurd told
each_selected g rows (File name old) (Memory new) told = absurd told
each_selected g rows (File name old) Nowhere told = absurd told

in_row_weaker : (P Q : List Value → Type 0) → ((row : List Value) → P row → Q row) → (records : List Record) → All (IsInRow P) records → All (IsInRow Q) records
in_row_weaker P Q f records all = All-weaker (IsInRow P) (IsInRow Q) (λ r it. (it.0, it.1, f it.0 it.2)) records all

-- the records of rows that were selected are read ahead, in whatever order they are kept
pub run_held : {S : Type 0} (g : Ghosts S) (records run : List Record) (old new : Place S) → All (IsInRow (λ row. IsSelected g row old new)) records → IsPermutation records run → AreReadAhead g run new
run_held {S} g records run old new all same =
    let Before = λ (row : List Value). (before : Place S) × IsSelected g row before new in
    All-permutation (IsInRow Before) records run same (in_row_weaker (λ row. IsSelected g row old new) Before (λ row it. (old, it)) records all)

-- so are those of all rows
pub all_held : {S : Type 0} (g : Ghosts S) (image : Image) (records run : List Record) (place : Place S) → AreAllRecords g image records place → IsPermutation records run → AreReadAhead g run place
all_held g image records run place told same =
    run_held g records run told.before place (each_in_row (λ row. IsSelected g row told.before place) told.rows records told.are (each_selected g told.rows told.before place told.selected)) same

-- their rows are found by the call that selected them
pub run_found : {S : Type 0} (g : Ghosts S) (records run : List Record) (old new : Place S) → All (IsInRow (λ row. IsSelected g row old new)) records → IsPermutation records run → All (IsInRow (λ row. IsFound g row old new)) run
run_found g records run old new all same =
    let Found = λ (row : List Value). IsFound g row old new in
    All-permutation (IsInRow Found) records run same (in_row_weaker (λ row. IsSelected g row old new) Found (λ row it. record { before = old; selected = it; since = inl refl }) records all)

-- and by one that asks nothing
pub held_found : {S : Type 0} (g : Ghosts S) (run : List Record) (place : Place S) → AreReadAhead g run place → All (IsInRow (λ row. IsFound g row place place)) run
held_found {S} g run place all =
    in_row_weaker (λ row. (before : Place S) × IsSelected g row before place) (λ row. IsFound g row place place) (λ row it. record { before = it.0; selected = it.1; since = inr refl }) run all

-- those that are left stay read ahead
pub rest_held : {S : Type 0} (g : Ghosts S) (run rest : List Record) (taken : Option Record) (place : Place S) → run ≡ rest ++ option_to_list taken → AreReadAhead g run place → AreReadAhead g rest place
rest_held {S} g run rest taken place is all = (All-pop (IsInRow (λ row. (before : Place S) × IsSelected g row before place)) run rest taken is all).0

-- one of them has the value of its key
pub found_fetches : {S : Type 0} (g : Ghosts S) (run : List Record) (r : Record) (old mid new : Place S) → Contains run r → new ≡ mid → All (IsInRow (λ row. IsFound g row old mid)) run → Fetches g r.key r.value old new
found_fetches g run r old mid new here same all =
    let it : IsInRow (λ row. IsFound g row old mid) r = All-contains (IsInRow (λ row. IsFound g row old mid)) run r all here in
    inl (record { row = it.0; found = subst (IsFound g it.0 old) (sym same) it.2; key_is = it.1.0; value_is = it.1.1 })

none_permuted : (rows others : List (List Value)) → rows ≡ [] → IsPermutation rows others → others ≡ []
none_permuted rows [] none same = refl
none_permuted rows (row ∷ others) none same = let long = length_permutation rows (row ∷ others) same in let short = ap length none in absurd (omega (arith, long, short))

-- rows are an answer in some order however they are ordered
selected_permuted : {S : Type 0} (g : Ghosts S) (rows others : List (List Value)) (old new : Place S) → AreSelected g rows old new → IsPermutation rows others → AreSelected g others old new
selected_permuted g rows others (File name old) (File new_name new) told same =
    (told.0, λ clean. let each = told.1 clean in (each.0, each.1, IsPermutation-trans each.0 rows others each.2 same))
selected_permuted g rows others Nowhere (Memory new) told same = (none_permuted rows others told.0 same, told.1)
selected_permuted g rows others Nowhere Nowhere told same = absurd told
selected_permuted g rows others Nowhere (File new_name new) told same = absurd told
selected_permuted g rows others (Memory old) new told same = absurd told
selected_permuted g rows others (File name old) (Memory new) told same = absurd told
selected_permuted g rows others (File name old) Nowhere told same = absurd told

first_columns : (rows : List (List Value)) (records : List Record) → AllZip HasRecord rows records → map Blob (keys_of records) ≡ map first_column rows
first_columns [] [] pairs = refl
first_columns [] (r ∷ records) pairs = absurd pairs
first_columns (row ∷ rows) [] pairs = absurd pairs
first_columns (row ∷ rows) (r ∷ records) pairs = ap₂ (λ (x : Value) (xs : List Value). x ∷ xs) (sym pairs.0.0) (first_columns rows records pairs.1)

-- their keys, in that order, are the keys of all records
pub all_keys : {S : Type 0} (g : Ghosts S) (image : Image) (records ordered : List Record) (keys : List (List ℕ)) (place : Place S) → AreAllRecords g image records place → IsPermutation records ordered → keys ≡ keys_of ordered → AreAllKeys g image keys place
all_keys g image records ordered keys place told same is =
    let there = pairs_permuted HasRecord told.rows records ordered told.are same in record {
      rows = there.0;
      before = told.before;
      store = told.store;
      selected = selected_permuted g told.rows there.0 told.before place told.selected there.1;
      rests = told.rests;
      are = ap (map Blob) is ∙ first_columns there.0 ordered there.2;
    }
