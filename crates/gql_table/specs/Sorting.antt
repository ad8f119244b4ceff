-- ORDER BY: a stable sort by keys, in the total order of data.
use Rattle.std.specs.Prelude.{Bool, true, false, List, [], ◌∷◌, Option, Some, None}
use Rattle.std.specs.declared.cmp.Ordering.{Ordering}
use Rattle.std.specs.declared.cmp.Ordering.TheVariants.{Less, Equal, Greater}
use Rattle.std.specs.Ordering.{is_lt, ordering_reverse, ordering_then}
use Rattle.gql_values3.specs.Datum.{Datum, null}
use Rattle.gql_values3.specs.Datum.{is_null}
use Rattle.gql_values3.specs.ValueOrder.{datum_cmp}
use Rattle.gql_eval.specs.StableSort.{stably_sorted}
use Rattle.gql_ast.specs.declared.page.SortItem.{SortItem}
use Rattle.gql_ast.specs.declared.page.SortDirection.{SortDirection}
use Rattle.gql_ast.specs.declared.page.SortDirection.TheVariants as direction
use Rattle.gql_ast.specs.declared.page.NullOrder.{NullOrder}
use Rattle.gql_ast.specs.declared.page.NullOrder.TheVariants as nulls

-- DESC turns the order round
abbrev pub directed_cmp : SortDirection → Datum → Datum → Ordering
directed_cmp direction.Ascending a b = datum_cmp a b
directed_cmp direction.Descending a b = ordering_reverse (datum_cmp a b)

-- the order of two keys of which one is NULL at least, where NULLS says where NULL goes
abbrev pub null_cmp : NullOrder → Bool → Bool → Ordering
null_cmp n true true = Equal
null_cmp nulls.First true b = Less
null_cmp nulls.First a b = Greater
null_cmp nulls.Last true b = Greater
null_cmp nulls.Last a b = Less

-- NULLS FIRST and NULLS LAST place NULL by itself; without them it is the greatest of all
abbrev pub placed_cmp : Option NullOrder → SortDirection → Datum → Datum → Bool → Bool → Ordering
placed_cmp None way a b x y = directed_cmp way a b
placed_cmp (Some n) way a b false false = directed_cmp way a b
placed_cmp (Some n) way a b x y = null_cmp n x y

-- the order of two keys of a sort item, by its direction and its NULLS
abbrev pub key_cmp : SortItem → Datum → Datum → Ordering
key_cmp i a b = placed_cmp i.nulls i.direction a b (is_null a) (is_null b)

-- the key that stands first; one that isn't there counts as NULL
abbrev pub first_key : List Datum → Datum
first_key [] = null
first_key (x ∷ xs) = x

-- the keys behind the first
abbrev pub later_keys : List Datum → List Datum
later_keys [] = []
later_keys (x ∷ xs) = xs

-- the order of two lists of keys: the first key that tells them apart decides
abbrev pub keys_cmp : List SortItem → List Datum → List Datum → Ordering
keys_cmp [] xs ys = Equal
keys_cmp (i ∷ is) xs ys = ordering_then (key_cmp i (first_key xs) (first_key ys)) (keys_cmp is (later_keys xs) (later_keys ys))

-- rows with their keys, in the order of the keys
abbrev pub sorted_by_keys : List SortItem → List (List Datum × List Datum) → List (List Datum × List Datum)
sorted_by_keys items rows = stably_sorted (λ a b. is_lt (keys_cmp items a.0 b.0)) rows
