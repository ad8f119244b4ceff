-- A question that is asked of each element and each condition of a pattern, in the order of the text: the first refusal.
use Rattle.std.specs.Prelude.{List, [], ◌∷◌, Option, Some, None}
use Rattle.std.specs.Option.{option_or}
use Rattle.gql_ast.specs.Tree.{Tree}
use Rattle.gql_ast.specs.declared.refusal.Refusal.{Refusal}
use Rattle.gql_norm.specs.NormalPattern.{ElementPattern, Part, Node, Edge, Concat, Union, Alt, Quant, Opt, ModeScope, Sides, NoSide, Side, NormalPath}

-- of a condition that may be there
abbrev pub if_there : (Tree → Option Refusal) → Option Tree → Option Refusal
if_there condition None = None
if_there condition (Some e) = condition e

module _ (element : ElementPattern → Option Refusal) (condition : Tree → Option Refusal) where
  abbrev mutual
    pub asked_of : Part → Option Refusal
    asked_of (Node w) = element w
    asked_of (Edge d w) = element w
    asked_of (Concat p r) = option_or (asked_of p) (asked_of r)
    asked_of (Union p r) = option_or (asked_of p) (asked_of r)
    asked_of (Alt ss) = asked_of_sides ss
    asked_of (Quant b l n) = asked_of b
    asked_of (Opt b) = asked_of b
    asked_of (ModeScope m b c) = option_or (asked_of b) (if_there condition c)

    pub asked_of_sides : Sides → Option Refusal
    asked_of_sides NoSide = None
    asked_of_sides (Side p ss) = option_or (asked_of p) (asked_of_sides ss)

  -- the same of parts one behind the other, and of path patterns
  abbrev pub asked_of_all : List Part → Option Refusal
  asked_of_all [] = None
  asked_of_all (p ∷ ps) = option_or (asked_of p) (asked_of_all ps)

  abbrev pub asked_of_paths : List NormalPath → Option Refusal
  asked_of_paths [] = None
  asked_of_paths (p ∷ ps) = option_or (asked_of p.body) (asked_of_paths ps)
