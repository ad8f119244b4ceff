-- What a source or a sink tells of its content, and what one call does to it.
use Rattle.std.specs.Prelude.{◌≡◌, ℕ, ◌≤◌, Bool, true, false, ◌&&◌, List, [], ◌++◌, length, take, drop, Option, Some, None}
use Rattle.gql_values3.specs.Texts.{same_text}

-- a source: its own name, whether it is ready, and the bytes that are left
pub record Content : Type 0 where
  pub name : List ℕ
  pub ready : Bool
  pub left : List ℕ

-- after an `open` of the name, which went well or not
abbrev pub after_opening : List ℕ → Bool → Content → Content
after_opening name ok c = record c { ready = ok && same_text name c.name }

-- the content is told before and after, and so related, or told neither time
abbrev pub MatchTold : {A : Type 0} → Option A → Option A → (A → A → Type 0) → Type 0
MatchTold None None P = Unit {0}
MatchTold None (Some b) P = ⊥
MatchTold (Some a) None P = ⊥
MatchTold (Some a) (Some b) P = P a b

-- A read that gave count bytes: the first of those that are left, which it took. It gives none where it isn't ready,
-- and where it is, it gives none only where none is left.
pub record AfterReading (into : List ℕ) (count : ℕ) (before after : Content) : Type 0 where
  pub bytes : take count into ≡ take count before.left
  pub there : count ≤ length before.left
  pub rest : after ≡ record before { left = drop count before.left }
  pub idle : before.ready ≡ false → count ≡ 0
  pub end : before.ready ≡ true → count ≡ 0 → before.left ≡ []

-- new is old with these bytes at its end
abbrev pub Appends : List ℕ → List ℕ → List ℕ → Type 0
Appends bytes old new = new ≡ old ++ bytes

-- new is old with a first part of these bytes at its end
abbrev pub AppendsPrefix : List ℕ → List ℕ → List ℕ → Type 0
AppendsPrefix bytes old new = (n : ℕ) × (new ≡ old ++ take n bytes)
