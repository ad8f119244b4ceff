-- What may be named at a place, as a walk gathers it: each variable with whether it is a group there.
--
-- A variable is a group at a place where a quantifier around its element is not around the place. The key: behind a part, all that
-- is declared under one of its quantifiers is a group, and nothing else of it is.
use Rattle.std.proofs.Common.{◌≡◌, ℕ, ◌+◌, ◌≤◌, ◌<◌, Bool, true, false, not, ◌||◌, ◌==◌, List, [], ◌∷◌, ◌++◌, map, Option, Some, None, refl, sym, ap, ◌∙◌, arith, true≢false}
use Rattle.std.specs.Prelude.{nat_le, if◌then◌else◌}
use Rattle.std.specs.List.{list_any}
use Rattle.std.proofs.lemmas.Bool.Decides.{nat_tests}
use Rattle.std.proofs.lemmas.List.{map-append}
use Rattle.std.proofs.lemmas.Bool.{le-leb, leb-true, leb-false, or_right, or_left}
use Rattle.gql_values3.specs.declared.table.ColumnKind.{ColumnKind}
use Rattle.gql_values3.specs.declared.table.ColumnKind.TheVariants as kind
use Rattle.gql_norm.specs.NormalPattern.{Part, Node, Edge, Concat, Union, Alt, Quant, Opt, ModeScope, Sides, NoSide, Side}
use Rattle.gql_norm.specs.PathMode.{is_number_among}
use Rattle.gql_norm.specs.Places.{size, size_all}
use Rattle.gql_norm.specs.Declaration.{Declared, declaration, visible, visible_sides}
use Rattle.gql_norm.proofs.VisibleLemmas.{left_behind}

-- a variable, and whether it is a group
abbrev pub Entries : Type 0
Entries = List (List ℕ × Bool)

abbrev pub entry_of : Bool → Option (List ℕ) → Entries
entry_of g None = []
entry_of g (Some x) = (x, g) ∷ []

-- those of a part, behind it
abbrev mutual
  pub entries_of : Bool → Part → Entries
  entries_of g (Node w) = entry_of g w.variable
  entries_of g (Edge d w) = entry_of g w.variable
  entries_of g (Concat p r) = entries_of g p ++ entries_of g r
  entries_of g (Union p r) = entries_of g p ++ entries_of g r
  entries_of g (Alt ss) = entries_of_sides g ss
  entries_of g (Quant b l n) = entries_of true b
  entries_of g (Opt b) = entries_of g b
  entries_of g (ModeScope m b c) = entries_of g b

  pub entries_of_sides : Bool → Sides → Entries
  entries_of_sides g NoSide = []
  entries_of_sides g (Side p ss) = entries_of g p ++ entries_of_sides g ss

-- some of the quantifiers is not around
abbrev pub is_crossed : List ℕ → List ℕ → Bool
is_crossed around quants = list_any (λ q. not (is_number_among around q)) quants

-- declarations as they are seen under the quantifiers around
abbrev pub seen_by : List ℕ → List Declared → Entries
seen_by around ds = map (λ (d : Declared). (d.name, is_crossed around d.quants)) ds

-- equal numbers, and others
same_number : (x : ℕ) → (x == x) ≡ true
same_number x = grind (arith, nat_tests)

other_number : (x y : ℕ) → y < x → (x == y) ≡ false
other_number x y h = grind (arith, nat_tests)

-- a quantifier of the part is not around
abbrev pub Opens : List ℕ → List ℕ → ℕ → ℕ → Type 0
Opens around qs low high = (q : ℕ) → low ≤ q → q < high → is_crossed around (q ∷ qs) ≡ true

opens_within : (around qs : List ℕ) (low high a b : ℕ) → Opens around qs low high → low ≤ a → b ≤ high → Opens around qs a b
opens_within around qs low high a b o h k = λ q l m. o q (omega (arith, h, l)) (omega (arith, k, m))

opens_more : (around qs : List ℕ) (a low high : ℕ) → is_crossed around (a ∷ qs) ≡ true → Opens around (a ∷ qs) low high
opens_more around qs a low high h = λ q l m. or_right (not (is_number_among around q)) (is_crossed around (a ∷ qs)) h

one_seen : (around : List ℕ) (g : Bool) (k : ColumnKind) (a : ℕ) (qs : List ℕ) (v : Option (List ℕ)) (b : Bool) → b ≡ true → is_crossed around qs ≡ g
    → seen_by around (declaration k a qs v b) ≡ entry_of g v
one_seen around g k a qs None b t h = refl
one_seen around g k a qs (Some y) b t h = ap (λ c. seen_by around (declaration k a qs (Some y) c)) t ∙ ap (λ c. (y, c) ∷ []) h

pub both_seen : (around : List ℕ) (xs ys : List Declared) (cs ds : Entries) → seen_by around xs ≡ cs → seen_by around ys ≡ ds → seen_by around (xs ++ ys) ≡ cs ++ ds
both_seen around xs ys cs ds h k = map-append (λ (d : Declared). (d.name, is_crossed around d.quants)) xs ys ∙ (λ i. h i ++ k i)

-- Behind a part all of its variables are seen, and its quantifiers are closed.
mutual
  unfolding size visible

  pub all_seen_by : (g : Bool) (p : Part) (a : ℕ) (qs : List ℕ) (x : ℕ) (around : List ℕ) → a + size p ≤ x → is_crossed around qs ≡ g → Opens around qs a (a + size p)
      → seen_by around (visible p a qs x) ≡ entries_of g p
  all_seen_by g (Node w) a qs x around h k o = one_seen around g kind.Node a qs w.variable (nat_le a x) (le-leb a x (omega arith)) k
  all_seen_by g (Edge d w) a qs x around h k o = one_seen around g kind.Edge a qs w.variable (nat_le a x) (le-leb a x (omega arith)) k
  all_seen_by g (Concat p r) a qs x around h k o =
      both_seen around (visible p a qs x) (visible r (a + size p) qs x) (entries_of g p) (entries_of g r)
      (all_seen_by g p a qs x around (omega arith) k (opens_within around qs a (a + (size p + size r)) a (a + size p) o (omega arith) (omega arith)))
      (all_seen_by g r (a + size p) qs x around (omega arith) k (opens_within around qs a (a + (size p + size r)) (a + size p) (a + size p + size r) o (omega arith) (omega arith)))
  all_seen_by g (Union p r) a qs x around h k o =
      ap (λ b. seen_by around (if b then visible r (a + size p + 2) qs x else visible p (a + 1) qs x ++ visible r (a + size p + 2) qs x)) (left_behind (a + size p + 2) (size r) x (omega arith))
      ∙ both_seen around (visible p (a + 1) qs x) (visible r (a + size p + 2) qs x) (entries_of g p) (entries_of g r)
      (all_seen_by g p (a + 1) qs x around (omega arith) k (opens_within around qs a (a + (size p + size r + 3)) (a + 1) (a + 1 + size p) o (omega arith) (omega arith)))
      (all_seen_by g r (a + size p + 2) qs x around (omega arith) k (opens_within around qs a (a + (size p + size r + 3)) (a + size p + 2) (a + size p + 2 + size r) o (omega arith) (omega arith)))
  all_seen_by g (Alt ss) a qs x around h k o =
      all_seen_by_sides g ss (a + 1) qs x around (omega arith) k (opens_within around qs a (a + (size_all ss + 1)) (a + 1) (a + 1 + size_all ss) o (omega arith) (omega arith))
  all_seen_by g (Quant b l n) a qs x around h k o =
      all_seen_by true b (a + 2) (a ∷ qs) x around (omega arith) (o a (omega arith) (omega arith)) (opens_more around qs a (a + 2) (a + 2 + size b) (o a (omega arith) (omega arith)))
  all_seen_by g (Opt b) a qs x around h k o =
      all_seen_by g b (a + 1) qs x around (omega arith) k (opens_within around qs a (a + (size b + 2)) (a + 1) (a + 1 + size b) o (omega arith) (omega arith))
  all_seen_by g (ModeScope m b c) a qs x around h k o =
      all_seen_by g b (a + 1) qs x around (omega arith) k (opens_within around qs a (a + (size b + 2)) (a + 1) (a + 1 + size b) o (omega arith) (omega arith))

  pub all_seen_by_sides : (g : Bool) (ss : Sides) (b : ℕ) (qs : List ℕ) (x : ℕ) (around : List ℕ) → b + size_all ss ≤ x → is_crossed around qs ≡ g → Opens around qs b (b + size_all ss)
      → seen_by around (visible_sides ss b qs x) ≡ entries_of_sides g ss
  all_seen_by_sides g NoSide b qs x around h k o = refl
  all_seen_by_sides g (Side p ss) b qs x around h k o =
      ap (λ c. seen_by around (if c then visible_sides ss (b + size p + 1) qs x else visible p b qs x ++ visible_sides ss (b + size p + 1) qs x)) (left_behind (b + size p + 1) (size_all ss) x (omega arith))
      ∙ both_seen around (visible p b qs x) (visible_sides ss (b + size p + 1) qs x) (entries_of g p) (entries_of_sides g ss)
      (all_seen_by g p b qs x around (omega arith) k (opens_within around qs b (b + (size p + 1 + size_all ss)) b (b + size p) o (omega arith) (omega arith)))
      (all_seen_by_sides g ss (b + size p + 1) qs x around (omega arith) k (opens_within around qs b (b + (size p + 1 + size_all ss)) (b + size p + 1) (b + size p + 1 + size_all ss) o (omega arith) (omega arith)))

-- the quantifiers around agree with these below a place, and these are all below it
abbrev pub Agree : List ℕ → List ℕ → ℕ → Type 0
Agree around qs a = (q : ℕ) → q < a → is_number_among around q ≡ is_number_among qs q

abbrev pub Below : List ℕ → ℕ → Type 0
Below qs a = (q : ℕ) → a ≤ q → is_number_among qs q ≡ false

pub agree_below : (around qs : List ℕ) (a b : ℕ) → a ≤ b → Agree around qs b → Agree around qs a
agree_below around qs a b h ag = λ q l. ag q (omega (arith, h, l))

pub agree_itself : (qs : List ℕ) (a : ℕ) → Agree qs qs a
agree_itself qs a = λ q l. refl

pub below_on : (qs : List ℕ) (a b : ℕ) → a ≤ b → Below qs a → Below qs b
below_on qs a b h bl = λ q l. bl q (omega (arith, h, l))

-- a quantifier that is entered at a place
pub below_more : (qs : List ℕ) (a : ℕ) → Below qs a → Below (a ∷ qs) (a + 2)
below_more qs a bl = λ q l. (λ i. other_smaller a q (omega (arith, l)) i || bl q (omega (arith, l)) i)
  where
    other_smaller : (x y : ℕ) → x < y → (x == y) ≡ false
    other_smaller x y h = grind (arith, nat_tests)

pub agree_less : (around qs : List ℕ) (a : ℕ) → Agree around (a ∷ qs) (a + 2) → Agree around qs a
agree_less around qs a ag = λ q l. ag q (omega (arith, l)) ∙ ap (λ b. b || is_number_among qs q) (other_number a q l)

-- none of them is crossed
all_around : (around xs : List ℕ) → ((q : ℕ) → is_number_among xs q ≡ true → is_number_among around q ≡ true) → is_crossed around xs ≡ false
all_around around [] h = refl
all_around around (x ∷ xs) h =
    (λ i. not (h x (or_left (x == x) (is_number_among xs x) (same_number x)) i) || all_around around xs (λ q m. h q (or_right (x == q) (is_number_among xs q) m)) i)

pub not_crossed : (around qs : List ℕ) (a : ℕ) → Agree around qs a → Below qs a → is_crossed around qs ≡ false
not_crossed around qs a ag bl = all_around around qs (λ q m. by q m (nat_le a q) refl)
  where
    by : (q : ℕ) → is_number_among qs q ≡ true → (b : Bool) → nat_le a q ≡ b → is_number_among around q ≡ true
    by q m true h = absurd (true≢false (sym m ∙ bl q (leb-true a q h)))
    by q m false h = ag q (leb-false a q h) ∙ m

-- and those of a part are
pub opens_here : (around qs : List ℕ) (low high : ℕ) → Agree around qs high → Below qs low → Opens around qs low high
opens_here around qs low high ag bl = λ q l m. or_left (not (is_number_among around q)) (is_crossed around qs) (ap not (ag q m ∙ bl q l))

-- so behind a part its variables are those entries
pub seen_behind : (p : Part) (a : ℕ) (qs : List ℕ) (x : ℕ) (around : List ℕ) → a + size p ≤ x → Agree around qs (a + size p) → Below qs a
    → seen_by around (visible p a qs x) ≡ entries_of false p
seen_behind p a qs x around h ag bl =
    all_seen_by false p a qs x around h (not_crossed around qs a (agree_below around qs a (a + size p) (omega arith) ag) bl) (opens_here around qs a (a + size p) ag bl)

pub seen_here : (k : ColumnKind) (a : ℕ) (qs : List ℕ) (v : Option (List ℕ)) → Below qs a → seen_by qs (declaration k a qs v (nat_le a a)) ≡ entry_of false v
seen_here k a qs v bl = one_seen qs false k a qs v (nat_le a a) (le-leb a a (omega arith)) (not_crossed qs qs a (agree_itself qs a) bl)
