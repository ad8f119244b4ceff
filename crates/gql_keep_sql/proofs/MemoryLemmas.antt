-- Records in memory behind a change.
use Rattle.std.proofs.Common.{◌≡◌, ℕ, Bool, true, not, cond, List, [], ◌∷◌, ◌++◌, ◌||◌, IsPermutation, Some, Result, Ok, Err, IfOk, inr, refl, sym, ◌∙◌, ap, subst}
use Rattle.std.specs.List.{filter}
use Rattle.std.specs.List.Sorted.{IsSortedBy}
use Rattle.std.proofs.lemmas.Option.{slice_get_within, get_or_from_slice_get}
use Rattle.sqlite.specs.Store.{Ghosts}
use Rattle.sqlite.specs.declared.error.Error.{Error}
use Rattle.gql_ports.specs.declared.stored.Record.{Record}
use Rattle.gql_keep_sql.specs.declared.changes.Change.{Change}
use Rattle.gql_keep_sql.specs.declared.place.Place.{Place}
use Rattle.gql_keep_sql.specs.declared.place.Place.TheVariants.{Nowhere, Memory, File}
use Rattle.gql_keep_sql.specs.Fetched.{held_at, IsHeld, Fetches}
use Rattle.gql_keep_sql.specs.Keys.{has_key, keys_of}
use Rattle.gql_keep_sql.specs.Machinery.Merge.{is_changed_in, is_kept}
use Rattle.gql_keep_sql.specs.Written.{Alters, stays, is_key_below}

filter_alike : (p q : Record → Bool) → ((r : Record) → p r ≡ q r) → (xs : List Record) → filter p xs ≡ filter q xs
filter_alike p q same [] = refl
filter_alike p q same (x ∷ xs) = ap (λ b. cond b (x ∷ filter p xs) (filter p xs)) (same x) ∙ ap (λ ys. cond (q x) (x ∷ ys) ys) (filter_alike p q same xs)

pub altered : (puts : List Record) (drops : List (List ℕ)) (changes : List Change) (old kept new : List Record)
    → ((key : List ℕ) → is_changed_in changes key ≡ (has_key (keys_of puts) key || has_key drops key))
    → kept ≡ puts ++ filter (is_kept changes) old → IsPermutation kept new → IsSortedBy is_key_below new → Alters puts drops true old new
altered puts drops changes old kept new named is same ascends = record {
  all = λ done. subst (λ xs. IsPermutation xs new) (is ∙ ap (λ xs. puts ++ xs) (filter_alike (is_kept changes) (stays puts drops) (λ r. ap not (named r.key)) old)) same;
  ordered = λ done. ascends;
  nothing = λ not_done. absurd cc;
}

-- the record of a place is held there
held_is : {S : Type 0} (place : Place S) (index : ℕ) (r : Record) → Some r ≡ held_at place index → IsHeld r place
held_is (Memory records) index r is = (index, slice_get_within records.items index r (sym is), get_or_from_slice_get records.items index r r (sym is))
held_is Nowhere index r is = absurd cc
held_is (File name conn) index r is = absurd cc

-- and a copy of it is fetched
pub held_fetches : {S : Type 0} (g : Ghosts S) (place : Place S) (index : ℕ) (held : Record) (result : Result Record Error) → Some held ≡ held_at place index → IfOk result (λ r. r ≡ held) → IfOk result (λ r. ∥ Fetches g r.key r.value place place ∥₁)
held_fetches g place index held (Ok r) is same = ∣ inr (subst (λ r. IsHeld r place) (sym same) (held_is place index held is), refl) ∣₁
held_fetches g place index held (Err e) is same = tt
