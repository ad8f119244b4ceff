-- How high a part is: one more than its highest part.
use Rattle.std.specs.Prelude.{ℕ, ◌+◌, max, List}
use Rattle.gql_norm.specs.NormalPattern.{Part, Node, Edge, Concat, Union, Alt, Quant, Opt, ModeScope, Sides, NoSide, Side, sides_of}

abbrev mutual
  pub part_height_of : Part → ℕ
  part_height_of (Node w) = 1
  part_height_of (Edge d w) = 1
  part_height_of (Concat p r) = max (part_height_of p) (part_height_of r) + 1
  part_height_of (Union p r) = max (part_height_of p) (part_height_of r) + 1
  part_height_of (Alt ss) = sides_height_of ss + 1
  part_height_of (Quant b l n) = part_height_of b + 1
  part_height_of (Opt b) = part_height_of b + 1
  part_height_of (ModeScope m b c) = part_height_of b + 1

  -- the greatest height of the sides
  pub sides_height_of : Sides → ℕ
  sides_height_of NoSide = 0
  sides_height_of (Side p ss) = max (part_height_of p) (sides_height_of ss)

-- the same of a list
abbrev pub highest_part : List Part → ℕ
highest_part ps = sides_height_of (sides_of ps)
