-- Reading what bytes spell, from left to right: a value and the bytes after it, or nothing where none is spelled.
use Rattle.std.specs.Prelude.{◌≡◌, ℕ, zero, suc, ◌==◌, Bool, true, false, List, [], ◌∷◌, map, length, take, drop, Option, Some, None, Result, nat_lt, if◌then◌else◌}
use Rattle.std.specs.Int.{Width, w64, byte_len, from_be_bytes, cast_signed}
use Rattle.std.specs.Str.{is_utf8}
use Rattle.gql_values3.specs.Datum.{Datum, null, boolean, integer, text, list, is_null, data_of}
use Rattle.gql_values3.specs.Meaning.{datum_of}
use Rattle.gql_values3.specs.Texts.{texts_ascend}
use Rattle.gql_values3.specs.declared.value.Value.{Value}
use Rattle.gql_values3.specs.UpToMemory.{FindsBy}
use Rattle.gql_fields.specs.declared.misread.Misread.{Misread}
use Rattle.gql_fields.specs.declared.misread.Misread.TheVariants as misreads

-- one step after another, as long as something is read
infixl 10 ◌>>=◌
abbrev pub ◌>>=◌ : {A B : Type 0} → Option A → (A → Option B) → Option B
None >>= f = None
(Some x) >>= f = f x

-- nothing is read, or there was no memory
abbrev pub Fails : {Y : Type 0} → Misread → Option Y → Type 0
Fails misreads.OutOfMemory read = Unit {0}
Fails misreads.NoForm read = read ≡ None

-- what a function returned, seen by view, is what is read, unless there was no memory
abbrev pub Gives : {X Y : Type 0} → (X → Y) → Result X Misread → Option Y → Type 0
Gives view = FindsBy Fails view

-- nothing is read
abbrev pub FailsFree : {Y : Type 0} → Misread → Option Y → Type 0
FailsFree e read = (e ≡ misreads.NoForm) × (read ≡ None)

-- the same of a function that takes no memory
abbrev pub GivesFree : {X Y : Type 0} → (X → Y) → Result X Misread → Option Y → Type 0
GivesFree view = FindsBy FailsFree view

-- a number of so many bytes
abbrev pub number_at : Width → List ℕ → Option (ℕ × List ℕ)
number_at w bytes = if nat_lt (length bytes) (byte_len w) then None else Some (from_be_bytes w (take (byte_len w) bytes), drop (byte_len w) bytes)

-- all of the bytes, where they are UTF-8
unfoldable pub utf8_at : List ℕ → Option (List ℕ)
utf8_at bytes = if is_utf8 bytes then Some bytes else None

-- a text behind its length
unfoldable pub text_at : List ℕ → Option (List ℕ × List ℕ)
text_at bytes = do
  n ← number_at w64 bytes
  if nat_lt (length n.1) n.0 then None else (utf8_at (take n.0 n.1) >>= λ front. Some (front, drop n.0 n.1))

-- yes or no, in one byte
abbrev pub flag_at : List ℕ → Option (Bool × List ℕ)
flag_at [] = None
flag_at (b ∷ bytes) = if b == 0 then Some (false, bytes) else (if b == 1 then Some (true, bytes) else None)

-- so many items, one behind the other
unfoldable pub items_at : {A : Type 0} → (List ℕ → Option (A × List ℕ)) → ℕ → List ℕ → Option (List A × List ℕ)
items_at item zero bytes = Some ([], bytes)
items_at item (suc n) bytes = do
  first ← item bytes
  others ← items_at item n first.1
  Some (first.0 ∷ others.0, others.1)

-- items behind their count
abbrev pub counted_at : {A : Type 0} → (List ℕ → Option (A × List ℕ)) → List ℕ → Option (List A × List ℕ)
counted_at item bytes = number_at w64 bytes >>= λ n. items_at item n.0 n.1

-- a set of labels behind their count
unfoldable pub labels_at : List ℕ → Option (List (List ℕ) × List ℕ)
labels_at bytes = do
  labels ← counted_at text_at bytes
  if texts_ascend labels.0 then Some labels else None

-- what stands behind the byte of a boolean
abbrev pub boolean_at : List ℕ → Option (Datum × List ℕ)
boolean_at bytes = flag_at bytes >>= λ b. Some (boolean b.0, b.1)

-- behind that of an integer
abbrev pub integer_at : List ℕ → Option (Datum × List ℕ)
integer_at bytes = number_at w64 bytes >>= λ n. Some (integer (cast_signed w64 n.0), n.1)

-- behind that of a string
abbrev pub string_at : List ℕ → Option (Datum × List ℕ)
string_at bytes = text_at bytes >>= λ t. Some (text t.0, t.1)

-- behind that of a list whose items are read so
abbrev pub list_at : (List ℕ → Option (Datum × List ℕ)) → List ℕ → Option (Datum × List ℕ)
list_at item bytes = counted_at item bytes >>= λ ds. Some (list (data_of ds.0), ds.1)

-- a value, where what stands behind the byte of a list is read so
abbrev pub first_at : (List ℕ → Option (Datum × List ℕ)) → List ℕ → Option (Datum × List ℕ)
first_at lists [] = None
first_at lists (b ∷ bytes) =
    if b == 0 then Some (null, bytes)
    else (if b == 1 then boolean_at bytes
    else (if b == 2 then integer_at bytes
    else (if b == 3 then string_at bytes
    else (if b == 4 then lists bytes else None))))

-- what stands behind the byte of a list; lists are nested at most so deep
unfoldable pub lists_at : ℕ → List ℕ → Option (Datum × List ℕ)
lists_at zero bytes = None
lists_at (suc k) bytes = list_at (first_at (lists_at k)) bytes

-- a value whose lists are nested at most so deep
abbrev pub value_at : ℕ → List ℕ → Option (Datum × List ℕ)
value_at k bytes = first_at (lists_at k) bytes

-- a property
unfoldable pub property_at : List ℕ → Option ((List ℕ × Datum) × List ℕ)
property_at bytes = do
  name ← text_at bytes
  value ← value_at 64 name.1
  if is_null value.0 then None else Some ((name.0, value.0), value.1)

-- a property map behind its count
unfoldable pub properties_at : List ℕ → Option (List (List ℕ × Datum) × List ℕ)
properties_at bytes = do
  ps ← counted_at property_at bytes
  if texts_ascend (map (λ (p : List ℕ × Datum). p.0) ps.0) then Some ps else None

-- a property of the code as plain data
abbrev pub pair_of : List ℕ × Value → List ℕ × Datum
pair_of p = (p.0, datum_of p.1)
