-- A value that is read was spelled, and may stand in a property; what was spelled is read again.
use Rattle.std.proofs.Common.{◌≡◌, ℕ, zero, suc, ◌^◌, ◌<◌, Bool, true, false, cond, eqb, List, [], ◌∷◌, ◌++◌, length, Option, Some, None, refl, sym, ap, subst, ◌∙◌, inl, inr, ◌⊎◌}
use Rattle.std.specs.Int.{w64, to_be_bytes, cast_signed}
use Rattle.std.specs.List.{flat_map, AllByRecursion}
use Rattle.std.proofs.lemmas.Bool.{eqb-true, and_parts}
use Rattle.std.proofs.lemmas.List.Concat.{flat_map-cons}
use Rattle.gql_values3.specs.Datum.{Datum, Data, null, boolean, integer, text, list, node, edge, path, no_data, more_data, items_of, data_of}
use Rattle.gql_values3.specs.PropertyGraph.{is_storable, are_storable}
use Rattle.gql_values3.proofs.EqualityLemmas.{items_of-data_of}
use Rattle.gql_fields.specs.Spelling.{spelled, flag_spelled, twos_complement, value_spelled, values_spelled}
use Rattle.gql_fields.specs.Kept.{IsKeptValue, AreKeptValues}
use Rattle.gql_fields.specs.Machinery.Reading.{◌>>=◌, number_at, text_at, flag_at, counted_at, boolean_at, integer_at, string_at, list_at, first_at, lists_at, value_at}
use Rattle.gql_fields.proofs.FieldLemmas.{IsBytes, Takes, Takes-then, bind_some, some_is, when_some, wide64, number_takes, number_again, text_takes, text_again}
use Rattle.gql_fields.proofs.IntegerLemmas.{twos_complement-back, signed_is, twos_complement-below, twos_complement-again}
use Rattle.gql_fields.proofs.ItemLemmas.{IsSpelled, IsReadAgain, counted_spelled, counted_takes, counted_again}

abbrev pub some : {A : Type 0} → A → Option A
some x = Some x

-- which way a test went
pub chosen : {A : Type 0} (b : Bool) (x y z : A) → cond b x y ≡ z → ((b ≡ true) × (x ≡ z)) ⊎ ((b ≡ false) × (y ≡ z))
chosen true x y z e = inl (refl, e)
chosen false x y z e = inr (refl, e)

-- the first byte
pub one_byte : (b : ℕ) (bytes : List ℕ) → IsBytes (b ∷ bytes) → Takes (b ∷ bytes) (b ∷ []) bytes
one_byte b bytes fits = record { parts = refl; rest_fits = λ i. fits (suc i) }

-- a test of the first byte that held
known_byte : (b k : ℕ) (bytes : List ℕ) → eqb b k ≡ true → IsBytes (b ∷ bytes) → Takes (b ∷ bytes) (k ∷ []) bytes
known_byte b k bytes e fits = subst (λ (n : ℕ). Takes (b ∷ bytes) (n ∷ []) bytes) (eqb-true b k e) (one_byte b bytes fits)

-- ---- flags

abbrev one_flag : Bool → List ℕ
one_flag b = flag_spelled b ∷ []

abbrev IsFlagRead : List ℕ → Bool × List ℕ → Type 0
IsFlagRead bytes x = Takes bytes (one_flag x.0) x.1

-- a flag that is read was spelled
pub flag_takes : (bytes : List ℕ) (x : Bool × List ℕ) → IsBytes bytes → flag_at bytes ≡ Some x → Takes bytes (flag_spelled x.0 ∷ []) x.1
flag_takes [] x fits e = absurd cc
flag_takes (b ∷ bytes) x fits e =
    elim (chosen (eqb b 0) (some (false, bytes)) (cond (eqb b 1) (Some (true, bytes)) None) (some x) e) [
      | inl h ↦ subst (IsFlagRead (b ∷ bytes)) (some_is (false, bytes) x h.1) (known_byte b 0 bytes h.0 fits)
      | inr h ↦
          let g = when_some (eqb b 1) (true, bytes) x h.1 in
          subst (IsFlagRead (b ∷ bytes)) g.1 (known_byte b 1 bytes g.0 fits)
    ]

-- a flag that was spelled is read
pub flag_again : (b : Bool) (rest : List ℕ) → flag_at (flag_spelled b ∷ rest) ≡ Some (b, rest)
flag_again false rest = refl
flag_again true rest = refl

-- ---- lists of values

-- kept, and storable with lists nested at most so deep
abbrev pub IsKeptTo : ℕ → Datum → Type 0
IsKeptTo k d = IsKeptValue d × (is_storable d k ≡ true)

pub data_of-items_of : (ds : Data) → data_of (items_of ds) ≡ ds
data_of-items_of no_data = refl
data_of-items_of (more_data d ds) = ap (more_data d) (data_of-items_of ds)

-- values behind one another
pub values_spelled-items : (ds : Data) → values_spelled ds ≡ flat_map value_spelled (items_of ds)
values_spelled-items no_data = refl
values_spelled-items (more_data d ds) = ap (λ (bytes : List ℕ). value_spelled d ++ bytes) (values_spelled-items ds) ∙ sym (flat_map-cons value_spelled d (items_of ds))

-- the values of a list, each by itself
kept_items : (k : ℕ) (ds : Data) → AreKeptValues ds → are_storable ds k ≡ true → AllByRecursion (IsKeptTo k) (items_of ds)
kept_items k no_data kept fit = tt
kept_items k (more_data d ds) kept fit =
    let both = and_parts (is_storable d k) (are_storable ds k) fit in
    ((kept.0, both.0), kept_items k ds kept.1 both.1)

-- and together
kept_data : (k : ℕ) (ds : List Datum) → AllByRecursion (IsKeptTo k) ds → AreKeptValues (data_of ds) × (are_storable (data_of ds) k ≡ true)
kept_data k [] all = (tt, refl)
kept_data k (d ∷ ds) all =
    let others = kept_data k ds all.1 in
    ((all.0.0, others.0), rw (all.0.1, others.1) refl)

-- ---- values

-- what is read behind this byte was spelled
abbrev IsBehind : ℕ → ℕ → (List ℕ → Option (Datum × List ℕ)) → Type 0
IsBehind kind k read = (bytes : List ℕ) (x : Datum × List ℕ) → IsBytes (kind ∷ bytes) → read bytes ≡ Some x → Takes (kind ∷ bytes) (value_spelled x.0) x.1 × IsKeptTo k x.0

abbrev IsValueRead : ℕ → List ℕ → Datum × List ℕ → Type 0
IsValueRead k bytes x = Takes bytes (value_spelled x.0) x.1 × IsKeptTo k x.0

boolean_behind : (k : ℕ) → IsBehind 1 k boolean_at
boolean_behind k bytes x fits e =
    let a = bind_some (flag_at bytes) (λ b. Some (boolean b.0, b.1)) x e in
    let t = flag_takes bytes a.0 (λ i. fits (suc i)) a.1 in
    subst (IsValueRead k (1 ∷ bytes)) (some_is (boolean a.0.0, a.0.1) x a.2) (Takes-then (1 ∷ bytes) (1 ∷ []) bytes (flag_spelled a.0.0 ∷ []) a.0.1 (one_byte 1 bytes fits) t, (tt, refl))

integer_behind : (k : ℕ) → IsBehind 2 k integer_at
integer_behind k bytes x fits e =
    let a = bind_some (number_at w64 bytes) (λ n. Some (integer (cast_signed w64 n.0), n.1)) x e in
    let t = number_takes w64 (2 ^ 64) wide64 bytes a.0.0 a.0.1 (λ i. fits (suc i)) a.1 in
    let both = Takes-then (2 ∷ bytes) (2 ∷ []) bytes (to_be_bytes w64 a.0.0) a.0.1 (one_byte 2 bytes fits) t.0 in
    let whole : Takes (2 ∷ bytes) (value_spelled (integer (cast_signed w64 a.0.0))) a.0.1 = subst (λ (n : ℕ). Takes (2 ∷ bytes) (2 ∷ to_be_bytes w64 n) a.0.1) (sym (twos_complement-back a.0.0 t.1)) both in
    subst (IsValueRead k (2 ∷ bytes)) (some_is (integer (cast_signed w64 a.0.0), a.0.1) x a.2) (whole, (tt, signed_is a.0.0 t.1))

string_behind : (k : ℕ) → IsBehind 3 k string_at
string_behind k bytes x fits e =
    let a = bind_some (text_at bytes) (λ t. Some (text t.0, t.1)) x e in
    let t = text_takes bytes a.0 (λ i. fits (suc i)) a.1 in
    subst (IsValueRead k (3 ∷ bytes)) (some_is (text a.0.0, a.0.1) x a.2) (Takes-then (3 ∷ bytes) (3 ∷ []) bytes (spelled a.0.0) a.0.1 (one_byte 3 bytes fits) t.0, (t.1, refl))

-- a list by its items
pub list_spelled : (ds : List Datum) → value_spelled (list (data_of ds)) ≡ 4 ∷ counted_spelled value_spelled ds
list_spelled ds = rw (values_spelled-items (data_of ds), items_of-data_of ds) refl

list_behind : (k : ℕ) (item : List ℕ → Option (Datum × List ℕ)) → IsSpelled value_spelled (IsKeptTo k) item → IsBehind 4 (suc k) (list_at item)
list_behind k item law bytes x fits e =
    let a = bind_some (counted_at item bytes) (λ ds. Some (list (data_of ds.0), ds.1)) x e in
    let t = counted_takes value_spelled (IsKeptTo k) item law bytes a.0 (λ i. fits (suc i)) a.1 in
    let both = Takes-then (4 ∷ bytes) (4 ∷ []) bytes (counted_spelled value_spelled a.0.0) a.0.1 (one_byte 4 bytes fits) t.0 in
    let whole : Takes (4 ∷ bytes) (value_spelled (list (data_of a.0.0))) a.0.1 = subst (λ (front : List ℕ). Takes (4 ∷ bytes) front a.0.1) (sym (list_spelled a.0.0)) both in
    let kept = kept_data k a.0.0 t.1.1 in
    let few : length (items_of (data_of a.0.0)) < 2 ^ 64 = rw items_of-data_of t.1.0 in
    subst (IsValueRead (suc k) (4 ∷ bytes)) (some_is (list (data_of a.0.0), a.0.1) x a.2) (whole, ((few, kept.0), kept.1))

null_behind : (k : ℕ) → IsBehind 0 k (λ bytes. Some (null, bytes))
null_behind k bytes x fits e = subst (IsValueRead k (0 ∷ bytes)) (some_is (null, bytes) x e) (one_byte 0 bytes fits, (tt, refl))

-- the byte of a kind and what stands behind it, or what else is read
branch : (kind k b : ℕ) (read : List ℕ → Option (Datum × List ℕ)) → IsBehind kind k read → (bytes : List ℕ) (x : Datum × List ℕ) (other : Option (Datum × List ℕ)) → IsBytes (b ∷ bytes)
    → cond (eqb b kind) (read bytes) other ≡ Some x → (other ≡ Some x → IsValueRead k (b ∷ bytes) x) → IsValueRead k (b ∷ bytes) x
branch kind k b read law bytes x other fits e otherwise =
    elim (chosen (eqb b kind) (read bytes) other (some x) e) [
      | inl h ↦
          let same : kind ≡ b = sym (eqb-true b kind h.0) in
          subst (λ (n : ℕ). IsValueRead k (n ∷ bytes) x) same (law bytes x (subst (λ (n : ℕ). IsBytes (n ∷ bytes)) (sym same) fits) h.1)
      | inr h ↦ otherwise h.1
    ]

first_takes : (k : ℕ) (lists : List ℕ → Option (Datum × List ℕ)) → IsBehind 4 k lists → IsSpelled value_spelled (IsKeptTo k) (first_at lists)
first_takes k lists law [] x fits e = absurd cc
first_takes k lists law (b ∷ bytes) x fits e =
    branch 0 k b (λ rest. Some (null, rest)) (null_behind k) bytes x _ fits e
    (λ e1. branch 1 k b boolean_at (boolean_behind k) bytes x _ fits e1
    (λ e2. branch 2 k b integer_at (integer_behind k) bytes x _ fits e2
    (λ e3. branch 3 k b string_at (string_behind k) bytes x _ fits e3
    (λ e4. branch 4 k b lists law bytes x None fits e4 (λ e5. absurd (nothing_read x e5))))))
  where
    nothing_read : (x : Datum × List ℕ) → None ≡ some x → ⊥
    nothing_read x e = cc

lists_behind : (k : ℕ) → IsBehind 4 k (lists_at k)
unfolding lists_at
lists_behind zero bytes x fits e = absurd cc
lists_behind (suc k) bytes x fits e = list_behind k (first_at (lists_at k)) (first_takes k (lists_at k) (lists_behind k)) bytes x fits e

-- values of a list, by themselves and together
pub kept_values : (ds : List Datum) → AllByRecursion IsKeptValue ds → AreKeptValues (data_of ds)
kept_values [] all = tt
kept_values (d ∷ ds) all = (all.0, kept_values ds all.1)

-- a list by its items, behind the byte of its kind
pub list_content : (ds : List Datum) → counted_spelled value_spelled ds ≡ to_be_bytes w64 (length (items_of (data_of ds))) ++ values_spelled (data_of ds)
list_content ds = rw (values_spelled-items (data_of ds), items_of-data_of ds) refl

-- a list of kept values
pub list_kept : (ds : List Datum) → length ds < 2 ^ 64 → AllByRecursion IsKeptValue ds → IsKeptValue (list (data_of ds))
list_kept ds few all = (rw items_of-data_of few, kept_values ds all)

-- a value that is read was spelled
pub value_takes : (k : ℕ) → IsSpelled value_spelled (IsKeptTo k) (value_at k)
value_takes k = first_takes k (lists_at k) (lists_behind k)

-- a value that was spelled is read
pub value_again : (k : ℕ) → IsReadAgain value_spelled (IsKeptTo k) (value_at k)
unfolding lists_at
value_again k null rest h = refl
value_again k (boolean b) rest h = rw (flag_again b rest) refl
value_again k (integer z) rest h = rw (number_again w64 (2 ^ 64) wide64 (twos_complement z) rest (twos_complement-below z h.1), twos_complement-again z h.1) refl
value_again k (text t) rest h = rw (text_again t rest h.0) refl
value_again zero (list ds) rest h = absurd cc
value_again (suc k) (list ds) rest h =
    let front : to_be_bytes w64 (length (items_of ds)) ++ values_spelled ds ≡ counted_spelled value_spelled (items_of ds) = ap (λ (bytes : List ℕ). to_be_bytes w64 (length (items_of ds)) ++ bytes) (values_spelled-items ds) in
    let read = counted_again value_spelled (IsKeptTo k) (value_at k) (value_again k) (items_of ds) rest (h.0.0, kept_items k ds h.0.1 h.1) in
    ap (λ (bytes : List ℕ). list_at (value_at k) (bytes ++ rest)) front
    ∙ ap (λ (o : Option (List Datum × List ℕ)). o >>= λ xs. Some (list (data_of xs.0), xs.1)) read
    ∙ ap (λ (d : Data). some (list d, rest)) (data_of-items_of ds)
value_again k (node n) rest h = absurd cc
value_again k (edge n) rest h = absurd cc
value_again k (path p) rest h = absurd cc
