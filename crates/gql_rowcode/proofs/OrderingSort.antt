-- Records whose keys differ, sorted by key: the keys strictly ascend, and the records are the same.
use Rattle.std.proofs.Common.{◌≡◌, ◌≢◌, Bool, true, false, cond, List, [], ◌∷◌, refl}
use Rattle.std.specs.Cmp.{IsStrictWeakOrder}
use Rattle.std.specs.List.{AllByRecursion}
use Rattle.std.proofs.lemmas.Cmp.{nat_list_cmp_total}
use Rattle.std.proofs.lemmas.List.Sorted.{ranks_by}
use Rattle.gql_ports.specs.Held.{keys_ascend}
use Rattle.gql_ports.specs.declared.stored.Record.{Record}
use Rattle.gql_eval.specs.StableSort.{inserted_in_order, stably_sorted}
use Rattle.gql_type.proofs.SortedTexts.{inserted_ascends}
use Rattle.gql_rowcode.specs.Machinery.Writing.{key_before}
use Rattle.gql_rowcode.proofs.OrderingLists.{Pairs}

pub by_key : IsStrictWeakOrder key_before
by_key = ranks_by nat_list_cmp_total (λ (r : Record). r.key)

-- the keys differ
abbrev pub KeysDiffer : Record → Record → Type 0
KeysDiffer a b = a.key ≢ b.key

-- what all have, all have in order
has_case : (P : Record → Type 0) (b : Bool) (x y : Record) (ys rest : List Record) → P x → AllByRecursion P (y ∷ ys) → AllByRecursion P rest → AllByRecursion P (cond b (y ∷ rest) (x ∷ y ∷ ys))
has_case P true x y ys rest here all more = (all.0, more)
has_case P false x y ys rest here all more = (here, all)

inserted_has : (P : Record → Type 0) (x : Record) (ys : List Record) → P x → AllByRecursion P ys → AllByRecursion P (inserted_in_order key_before x ys)
inserted_has P x [] here all = (here, tt)
inserted_has P x (y ∷ ys) here all = has_case P (key_before y x) x y ys (inserted_in_order key_before x ys) here all (inserted_has P x ys here all.1)

sorted_has : (P : Record → Type 0) (xs : List Record) → AllByRecursion P xs → AllByRecursion P (stably_sorted key_before xs)
sorted_has P [] all = tt
sorted_has P (x ∷ xs) all = inserted_has P x (stably_sorted key_before xs) all.0 (sorted_has P xs all.1)

-- records whose keys differ strictly ascend when they are sorted
pub sorted_ascends : (xs : List Record) → Pairs KeysDiffer xs → keys_ascend (stably_sorted key_before xs) ≡ true
sorted_ascends [] differ = refl
sorted_ascends (x ∷ xs) differ = inserted_ascends (λ (r : Record). r.key) x (stably_sorted key_before xs) (sorted_ascends xs differ.1) (sorted_has (KeysDiffer x) xs differ.0)
