-- A question by the parts of a pattern, and by its predicates with their places: the same.
use Rattle.std.proofs.Common.{◌≡◌, ℕ, ◌+◌, List, [], ◌∷◌, ◌++◌, flat_map, Option, Some, None, refl, ap, ◌∙◌}
use Rattle.std.specs.Option.{option_or}
use Rattle.gql_ast.specs.Tree.{Tree}
use Rattle.gql_ast.specs.declared.refusal.Refusal.{Refusal}
use Rattle.gql_norm.specs.NormalPattern.{ElementPattern, Part, Node, Edge, Concat, Union, Alt, Quant, Opt, ModeScope, Sides, NoSide, Side, NormalPath, in_a_row, side_by_side, sides_of}
use Rattle.gql_norm.specs.Places.{size}
use Rattle.gql_norm.specs.PredicateSpot.{PredicateSpot, predicates_of_element, predicates_of_scope, predicates_in, predicates_in_sides}
use Rattle.gql_norm.specs.OtherDefects.{predicates_of_path}
use Rattle.gql_pattern_checks.specs.Machinery.PartWalk.{if_there, asked_of, asked_of_sides, asked_of_all, asked_of_paths}

pub alone : (o : Option Refusal) → o ≡ option_or o None
alone None = refl
alone (Some r) = refl

-- parts in a row, beside each other, and told
pub asked_in_row : (element : ElementPattern → Option Refusal) (condition : Tree → Option Refusal) (p : Part) (ps : List Part)
    → asked_of element condition (in_a_row p ps) ≡ asked_of_all element condition (p ∷ ps)
asked_in_row element condition p [] = alone (asked_of element condition p)
asked_in_row element condition p (r ∷ rs) = ap (λ o. option_or (asked_of element condition p) o) (asked_in_row element condition r rs)

pub asked_beside : (element : ElementPattern → Option Refusal) (condition : Tree → Option Refusal) (p : Part) (ps : List Part)
    → asked_of element condition (side_by_side p ps) ≡ asked_of_all element condition (p ∷ ps)
asked_beside element condition p [] = alone (asked_of element condition p)
asked_beside element condition p (r ∷ rs) = ap (λ o. option_or (asked_of element condition p) o) (asked_beside element condition r rs)

pub asked_told : (element : ElementPattern → Option Refusal) (condition : Tree → Option Refusal) (ps : List Part)
    → asked_of_sides element condition (sides_of ps) ≡ asked_of_all element condition ps
asked_told element condition [] = refl
asked_told element condition (p ∷ ps) = ap (λ o. option_or (asked_of element condition p) o) (asked_told element condition ps)

-- what is said of a list of predicates is the first refusal of what is asked of each
pub record IsAsked (said : List PredicateSpot → Option Refusal) (element : ElementPattern → Option Refusal) (condition : Tree → Option Refusal) : Type 0 where
  pub nothing : said [] ≡ None
  pub both : (xs ys : List PredicateSpot) → said (xs ++ ys) ≡ option_or (said xs) (said ys)
  pub at_element : (a : ℕ) (qs : List ℕ) (w : ElementPattern) → said (predicates_of_element a qs w ∷ []) ≡ element w
  pub at_condition : (a : ℕ) (qs : List ℕ) (c : Option Tree) → said (predicates_of_scope a qs c ∷ []) ≡ if_there condition c

-- so it is said of a part, wherever it is entered
mutual
  unfolding predicates_in

  walked : (said : List PredicateSpot → Option Refusal) (element : ElementPattern → Option Refusal) (condition : Tree → Option Refusal) → IsAsked said element condition
      → (p : Part) (a : ℕ) (qs : List ℕ) → said (predicates_in p a qs) ≡ asked_of element condition p
  walked said element condition f (Node w) a qs = f.at_element a qs w
  walked said element condition f (Edge d w) a qs = f.at_element a qs w
  walked said element condition f (Concat p r) a qs =
      f.both (predicates_in p a qs) (predicates_in r (a + size p) qs)
      ∙ (λ i. option_or (walked said element condition f p a qs i) (walked said element condition f r (a + size p) qs i))
  walked said element condition f (Union p r) a qs =
      f.both (predicates_in p (a + 1) qs) (predicates_in r (a + size p + 2) qs)
      ∙ (λ i. option_or (walked said element condition f p (a + 1) qs i) (walked said element condition f r (a + size p + 2) qs i))
  walked said element condition f (Alt ss) a qs = walked_sides said element condition f ss (a + 1) qs
  walked said element condition f (Quant b l n) a qs = walked said element condition f b (a + 2) (a ∷ qs)
  walked said element condition f (Opt b) a qs = walked said element condition f b (a + 1) qs
  walked said element condition f (ModeScope m b c) a qs =
      f.both (predicates_in b (a + 1) qs) (predicates_of_scope (a + size b + 1) qs c ∷ [])
      ∙ (λ i. option_or (walked said element condition f b (a + 1) qs i) (f.at_condition (a + size b + 1) qs c i))

  walked_sides : (said : List PredicateSpot → Option Refusal) (element : ElementPattern → Option Refusal) (condition : Tree → Option Refusal) → IsAsked said element condition
      → (ss : Sides) (b : ℕ) (qs : List ℕ) → said (predicates_in_sides ss b qs) ≡ asked_of_sides element condition ss
  walked_sides said element condition f NoSide b qs = f.nothing
  walked_sides said element condition f (Side p ss) b qs =
      f.both (predicates_in p b qs) (predicates_in_sides ss (b + size p + 1) qs)
      ∙ (λ i. option_or (walked said element condition f p b qs i) (walked_sides said element condition f ss (b + size p + 1) qs i))

pub walked_paths : (said : List PredicateSpot → Option Refusal) (element : ElementPattern → Option Refusal) (condition : Tree → Option Refusal) → IsAsked said element condition
    → (ps : List NormalPath) → said (flat_map predicates_of_path ps) ≡ asked_of_paths element condition ps
walked_paths said element condition f [] = f.nothing
walked_paths said element condition f (p ∷ ps) =
    f.both (predicates_in p.body 0 []) (flat_map predicates_of_path ps)
    ∙ (λ i. option_or (walked said element condition f p.body 0 [] i) (walked_paths said element condition f ps i))
