-- Unprotected quantifiers without their places.
use Rattle.std.specs.Prelude.{ℕ, Bool, false, not, ◌&&◌, ◌||◌, is_none, Option}
use Rattle.gql_norm.specs.NormalPattern.{Part, Node, Edge, Concat, Union, Alt, Quant, Opt, ModeScope, Sides, NoSide, Side}
use Rattle.gql_norm.specs.Termination.{protects}

-- a quantifier without an upper bound, where a scope around protects it or not
abbrev pub is_open : Bool → Option ℕ → Bool
is_open safe n = not safe && is_none n

-- some quantifier of a part is unprotected, where a scope around protects it or not
abbrev mutual
  pub has_open : Part → Bool → Bool
  has_open (Node w) safe = false
  has_open (Edge d w) safe = false
  has_open (Concat p r) safe = has_open p safe || has_open r safe
  has_open (Union p r) safe = has_open p safe || has_open r safe
  has_open (Alt ss) safe = has_open_side ss safe
  has_open (Quant b l n) safe = is_open safe n || has_open b safe
  has_open (Opt b) safe = has_open b safe
  has_open (ModeScope m b c) safe = has_open b (safe || protects m)

  pub has_open_side : Sides → Bool → Bool
  has_open_side NoSide safe = false
  has_open_side (Side p ss) safe = has_open p safe || has_open_side ss safe
