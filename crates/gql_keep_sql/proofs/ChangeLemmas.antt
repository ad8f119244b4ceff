-- Which keys the puts and drops change, in whatever order they stand.
use Rattle.std.proofs.Common.{◌≡◌, ℕ, Bool, true, false, ◌&&◌, ◌||◌, List, [], ◌∷◌, ◌++◌, map, refl, sym, ◌∙◌, ap, subst, IsPermutation, Option, Some, None, is_some, IfSome, if◌then◌else◌}
use Rattle.std.proofs.Math.Bool.{or-false}
use Rattle.std.proofs.lemmas.List.Folds.{list_any-append}
use Rattle.std.proofs.lemmas.List.Sorted.{list_any-IsPermutation}
use Rattle.gql_values3.specs.Texts.{same_text}
use Rattle.gql_ports.specs.declared.stored.Record.{Record}
use Rattle.gql_keep_sql.specs.declared.changes.Change.{Change}
use Rattle.gql_keep_sql.specs.Keys.{has_key, keys_of}
use Rattle.gql_keep_sql.specs.Machinery.Merge.{put_of, drop_of, is_put_in, is_changed_in}
use Rattle.gql_keep_sql.proofs.MergeLemmas.{key_of}

puts_put : (puts : List Record) (key : List ℕ) → is_put_in (map put_of puts) key ≡ has_key (keys_of puts) key
puts_put [] key = refl
puts_put (r ∷ more) key = ap (λ b. same_text key r.key || b) (puts_put more key)

drops_put : (drops : List (List ℕ)) (key : List ℕ) → is_put_in (map drop_of drops) key ≡ false
drops_put [] key = refl
drops_put (d ∷ more) key = drops_put more key

puts_change : (puts : List Record) (key : List ℕ) → is_changed_in (map put_of puts) key ≡ has_key (keys_of puts) key
puts_change [] key = refl
puts_change (r ∷ more) key = ap (λ b. same_text key r.key || b) (puts_change more key)

drops_change : (drops : List (List ℕ)) (key : List ℕ) → is_changed_in (map drop_of drops) key ≡ has_key drops key
drops_change [] key = refl
drops_change (d ∷ more) key = ap (λ b. same_text key d || b) (drops_change more key)

pub put_by : (puts : List Record) (drops : List (List ℕ)) (changes : List Change) → IsPermutation (map put_of puts ++ map drop_of drops) changes
    → (key : List ℕ) → is_put_in changes key ≡ has_key (keys_of puts) key
put_by puts drops changes same key =
    let test = λ (c : Change). c.is_put && same_text key c.key in
    sym (list_any-IsPermutation test (map put_of puts ++ map drop_of drops) changes same) ∙ list_any-append test (map put_of puts) (map drop_of drops)
    ∙ ap (λ b. is_put_in (map put_of puts) key || b) (drops_put drops key) ∙ or-false (is_put_in (map put_of puts) key) ∙ puts_put puts key

pub changed_by : (puts : List Record) (drops : List (List ℕ)) (changes : List Change) → IsPermutation (map put_of puts ++ map drop_of drops) changes
    → (key : List ℕ) → is_changed_in changes key ≡ (has_key (keys_of puts) key || has_key drops key)
changed_by puts drops changes same key =
    let test = λ (c : Change). same_text key c.key in
    sym (list_any-IsPermutation test (map put_of puts ++ map drop_of drops) changes same) ∙ list_any-append test (map put_of puts) (map drop_of drops)
    ∙ ap (λ b. b || is_changed_in (map drop_of drops) key) (puts_change puts key) ∙ ap (λ b. has_key (keys_of puts) key || b) (drops_change drops key)

-- what holds of a value holds of it where a test lets it through
pub let_through : {X : Type 0} (P : X → Type 0) (b : Bool) (x : X) (o : Option X) → o ≡ (if b then Some x else None) → P x → IfSome o P
let_through P true x o is holds = subst (λ y. IfSome y P) (sym is) holds
let_through P false x o is holds = subst (λ y. IfSome y P) (sym is) tt

drops_keys : (drops : List (List ℕ)) → map key_of (map drop_of drops) ≡ drops
drops_keys [] = refl
drops_keys (d ∷ more) = ap (λ keys. d ∷ keys) (drops_keys more)

-- the keys of all changes
pub changes_keys : (puts : List Record) (drops : List (List ℕ)) → map key_of (map put_of puts ++ map drop_of drops) ≡ keys_of puts ++ drops
changes_keys [] drops = drops_keys drops
changes_keys (r ∷ more) drops = ap (λ keys. r.key ∷ keys) (changes_keys more drops)

-- there is one exactly where a test lets it through
pub is_let_through : {X : Type 0} (b : Bool) (x : X) → is_some (if b then Some x else None) ≡ b
is_let_through true x = refl
is_let_through false x = refl
