-- Unprotected quantifiers without their places: some quantifier is unprotected exactly where the list of them is not empty.
use Rattle.std.proofs.Common.{◌≡◌, ℕ, ◌+◌, Bool, true, false, ◌&&◌, ◌||◌, is_none, List, [], ◌∷◌, ◌++◌, Option, Some, None, refl, sym, ap, ◌∙◌}
use Rattle.std.proofs.Math.Bool.{or-false}
use Rattle.std.specs.Prelude.{option_map}
use Rattle.std.specs.List.{list_any}
use Rattle.gql_norm.specs.NormalPattern.{Part, Node, Edge, Concat, Union, Alt, Quant, Opt, ModeScope, Sides, NoSide, Side, in_a_row, side_by_side, sides_of}
use Rattle.gql_norm.specs.NormalData.{part_data, path_data, selector_data}
use Rattle.gql_norm.specs.declared.path.NormalPath.{NormalPath as CodePath}
use Rattle.gql_norm.specs.declared.path.Selector.{Selector}
use Rattle.gql_norm.specs.Places.{size}
use Rattle.gql_norm.specs.Termination.{protects, if_open, unprotected, unprotected_beside, is_some_number, is_unprotected}
use Rattle.gql_term.specs.Machinery.OpenEnds.{is_open, has_open, has_open_side}

some_of_two : (xs ys : List ℕ) (a b : Bool) → is_some_number xs ≡ a → is_some_number ys ≡ b → is_some_number (xs ++ ys) ≡ (a || b)
some_of_two [] ys a b h k = ap (λ c. c || is_some_number ys) h ∙ ap (λ c. a || c) k
some_of_two (x ∷ xs) ys a b h k = ap (λ c. c || b) h

some_open : (safe : Bool) (n : Option ℕ) (a : ℕ) → is_some_number (if_open safe n a) ≡ is_open safe n
some_open true None a = refl
some_open true (Some m) a = refl
some_open false None a = refl
some_open false (Some m) a = refl

mutual
  unfolding unprotected

  pub open_is : (p : Part) (a : ℕ) (safe : Bool) → is_some_number (unprotected p a safe) ≡ has_open p safe
  open_is (Node w) a safe = refl
  open_is (Edge d w) a safe = refl
  open_is (Concat p r) a safe = some_of_two (unprotected p a safe) (unprotected r (a + size p) safe) _ _ (open_is p a safe) (open_is r (a + size p) safe)
  open_is (Union p r) a safe = some_of_two (unprotected p (a + 1) safe) (unprotected r (a + size p + 2) safe) _ _ (open_is p (a + 1) safe) (open_is r (a + size p + 2) safe)
  open_is (Alt ss) a safe = open_side_is ss (a + 1) safe
  open_is (Quant b l n) a safe = some_of_two (if_open safe n a) (unprotected b (a + 2) safe) _ _ (some_open safe n a) (open_is b (a + 2) safe)
  open_is (Opt b) a safe = open_is b (a + 1) safe
  open_is (ModeScope m b c) a safe = open_is b (a + 1) (safe || protects m)

  open_side_is : (ss : Sides) (b : ℕ) (safe : Bool) → is_some_number (unprotected_beside ss b safe) ≡ has_open_side ss safe
  open_side_is NoSide b safe = refl
  open_side_is (Side p ss) b safe = some_of_two (unprotected p b safe) (unprotected_beside ss (b + size p + 1) safe) _ _ (open_is p b safe) (open_side_is ss (b + size p + 1) safe)

no_selector : (o : Option Selector) → is_none o ≡ is_none (option_map selector_data o)
no_selector None = refl
no_selector (Some s) = refl

pub unprotected_is : (p : CodePath) → (has_open (part_data p.body) false && is_none p.selector) ≡ is_unprotected (path_data p)
unprotected_is p = λ i. sym (open_is (part_data p.body) 0 false) i && no_selector p.selector i

-- parts in a row, beside each other, and told
pub open_row : (p : Part) (ps : List Part) (safe : Bool) → has_open (in_a_row p ps) safe ≡ (has_open p safe || list_any (λ q. has_open q safe) ps)
open_row p [] safe = sym (or-false (has_open p safe))
open_row p (r ∷ rs) safe = ap (λ b. has_open p safe || b) (open_row r rs safe)

pub open_beside : (p : Part) (ps : List Part) (safe : Bool) → has_open (side_by_side p ps) safe ≡ (has_open p safe || list_any (λ q. has_open q safe) ps)
open_beside p [] safe = sym (or-false (has_open p safe))
open_beside p (r ∷ rs) safe = ap (λ b. has_open p safe || b) (open_beside r rs safe)

pub open_told : (ps : List Part) (safe : Bool) → has_open_side (sides_of ps) safe ≡ list_any (λ q. has_open q safe) ps
open_told [] safe = refl
open_told (p ∷ ps) safe = ap (λ b. has_open p safe || b) (open_told ps safe)
