-- The order of sort keys is total.
use Rattle.std.proofs.Common.{◌≡◌, ℕ, zero, suc, ◌+◌, ◌<◌, Bool, true, false, List, [], ◌∷◌, length, map, drop, get_or, refl, sym, ap, subst, ◌∙◌, add-one, arith, not, Option, Some, None}
use Rattle.std.specs.Prelude.{◌==◌}
use Rattle.gql_values3.specs.Meaning.{datum_of}
use Rattle.gql_values3.specs.declared.value.Value.{Value}
use Rattle.gql_eval.proofs.EachSteps.{drop_here}
use Rattle.std.specs.declared.cmp.Ordering.{Ordering}
use Rattle.std.specs.declared.cmp.Ordering.TheVariants.{Less, Equal, Greater}
use Rattle.std.specs.Ordering.{ordering_index, ordering_then, nat_cmp, is_lt, on, then_cmp, flip_args}
use Rattle.std.specs.Cmp.{IsTotalOrder, IsStrictWeakOrder}
use Rattle.std.proofs.lemmas.Cmp.{nat_cmp_total, on_total, then_total, back_total}
use Rattle.std.proofs.lemmas.List.Sorted.{ranks_by}
use Rattle.gql_values3.specs.Datum.{Datum, null, boolean, integer, text, list, node, edge, path}
use Rattle.gql_values3.specs.Datum.{is_null}
use Rattle.gql_values3.specs.ValueOrder.{datum_cmp}
use Rattle.gql_values3.proofs.OrderLaws.{datum_cmp_total}
use Rattle.gql_ast.specs.declared.page.SortItem.{SortItem}
use Rattle.gql_ast.specs.declared.page.SortDirection.{SortDirection}
use Rattle.gql_ast.specs.declared.page.SortDirection.TheVariants as direction
use Rattle.gql_ast.specs.declared.page.NullOrder.{NullOrder}
use Rattle.gql_ast.specs.declared.page.NullOrder.TheVariants as nulls
use Rattle.gql_table.specs.Sorting.{directed_cmp, placed_cmp, key_cmp, keys_cmp, first_key, later_keys}

directed_total : (way : SortDirection) → IsTotalOrder (directed_cmp way)
directed_total direction.Ascending = datum_cmp_total
directed_total direction.Descending =
    let turned : flip_args datum_cmp ≡ directed_cmp direction.Descending = λ i a b. datum_cmp_total.antisymm b a i in
    subst (λ (R : Datum → Datum → Ordering). IsTotalOrder R) turned (back_total datum_cmp_total)

-- where NULL stands among all
null_place : NullOrder → Bool → ℕ
null_place nulls.First true = 0
null_place nulls.First false = 1
null_place nulls.Last true = 1
null_place nulls.Last false = 0

placed_is : (n : NullOrder) (way : SortDirection) (a b : Datum) (x y : Bool) → (x ≡ true → y ≡ true → directed_cmp way a b ≡ Equal)
    → ordering_then (nat_cmp (null_place n x) (null_place n y)) (directed_cmp way a b) ≡ placed_cmp (Some n) way a b x y
unfolding null_place
placed_is nulls.First way a b true true h = h refl refl
placed_is nulls.First way a b true false h = refl
placed_is nulls.First way a b false true h = refl
placed_is nulls.First way a b false false h = refl
placed_is nulls.Last way a b true true h = h refl refl
placed_is nulls.Last way a b true false h = refl
placed_is nulls.Last way a b false true h = refl
placed_is nulls.Last way a b false false h = refl

null_is : (a : Datum) → is_null a ≡ true → a ≡ null
null_is null p = refl
null_is (boolean b) p = cc
null_is (integer z) p = cc
null_is (text t) p = cc
null_is (list ds) p = cc
null_is (node n) p = cc
null_is (edge e) p = cc
null_is (path w) p = cc

two_nulls : (way : SortDirection) → directed_cmp way null null ≡ Equal
two_nulls direction.Ascending = refl
two_nulls direction.Descending = refl

both_null : (way : SortDirection) (a b : Datum) → is_null a ≡ true → is_null b ≡ true → directed_cmp way a b ≡ Equal
both_null way a b p q = ap (λ c. directed_cmp way c b) (null_is a p) ∙ ap (directed_cmp way null) (null_is b q) ∙ two_nulls way

placed_total : (o : Option NullOrder) (way : SortDirection) → IsTotalOrder (λ a b. placed_cmp o way a b (is_null a) (is_null b))
placed_total None way = directed_total way
placed_total (Some n) way =
    let ranked : then_cmp (on (λ a. null_place n (is_null a)) nat_cmp) (directed_cmp way) ≡ (λ a b. placed_cmp (Some n) way a b (is_null a) (is_null b)) =
    λ i a b. placed_is n way a b (is_null a) (is_null b) (both_null way a b) i in
    subst (λ (R : Datum → Datum → Ordering). IsTotalOrder R) ranked (then_total (on_total (λ a. null_place n (is_null a)) nat_cmp_total) (directed_total way))

same_keys_total : IsTotalOrder (λ (xs ys : List Datum). Equal)
same_keys_total = record { antisymm = λ x y. refl; trans = λ x y z p q. cc; congr = λ x y z p. refl }

pub keys_total : (items : List SortItem) → IsTotalOrder (keys_cmp items)
keys_total [] = same_keys_total
keys_total (i ∷ is) = then_total (on_total first_key (placed_total i.nulls i.direction)) (on_total later_keys (keys_total is))

-- rows with their keys
pub keyed_order : {R : Type 0} (items : List SortItem) → IsStrictWeakOrder (λ (a b : List Datum × R). is_lt (keys_cmp items a.0 b.0))
keyed_order {R} items = ranks_by (keys_total items) (λ (a : List Datum × R). a.0)

pub later_drop : (i : ℕ) (xs : List Datum) → later_keys (drop i xs) ≡ drop (suc i) xs
later_drop zero [] = refl
later_drop zero (x ∷ xs) = refl
later_drop (suc i) [] = refl
later_drop (suc i) (x ∷ xs) = later_drop i xs

pub key_at : (vs : List Value) (i : ℕ) (v : Value) → i < length vs → v ≡ get_or vs i v → datum_of v ≡ first_key (drop i (map datum_of vs))
key_at [] i v h p = absurd (omega arith)
key_at (w ∷ ws) zero v h p = ap datum_of p
key_at (w ∷ ws) (suc i) v h p = key_at ws i v (omega arith) p

pub equal_index : (o : Ordering) → false ≡ not (ordering_index o == 1) → o ≡ Equal
equal_index Less p = cc
equal_index Equal p = refl
equal_index Greater p = cc

-- a key that doesn't tell apart leaves it to the later ones
pub keys_step : (items : List SortItem) (i : ℕ) (item : SortItem) (xs ys : List Datum) → i < length items → item ≡ get_or items i item
    → key_cmp item (first_key (drop i xs)) (first_key (drop i ys)) ≡ Equal
    → keys_cmp (drop (i + 1) items) (drop (i + 1) xs) (drop (i + 1) ys) ≡ keys_cmp (drop i items) (drop i xs) (drop i ys)
keys_step items i item xs ys h here tie =
    let left = drop_here items i item h here in
    let rest = drop (i + 1) items in
    sym (ap (λ (is : List SortItem). keys_cmp is (drop i xs) (drop i ys)) left ∙ ap (λ (o : Ordering). ordering_then o (keys_cmp rest (later_keys (drop i xs)) (later_keys (drop i ys)))) tie
    ∙ rw (later_drop i xs, later_drop i ys, add-one) refl)
