-- What lets a pattern have endlessly many matches. E12 EMPTY_LOOP: a quantifier's part has least length 0. E13 UNBOUNDED: a
-- quantifier without an upper bound is unprotected. E14 GROUP_REF: a reference crosses one that no scope encloses.
use Rattle.std.specs.Prelude.{ℕ, ◌+◌, ◌*◌, min, Bool, true, false, ◌&&◌, ◌||◌, ◌==◌, is_none, List, [], ◌∷◌, ◌++◌, filter, Option, None}
use Rattle.std.specs.List.{list_any, flat_map}
use Rattle.gql_ast.specs.declared.mode.Mode.{Mode}
use Rattle.gql_ast.specs.declared.mode.Mode.TheVariants as mode
use Rattle.gql_norm.specs.NormalPattern.{Part, Node, Edge, Concat, Union, Alt, Quant, Opt, ModeScope, Sides, NoSide, Side, NormalPath, NormalPattern}
use Rattle.gql_norm.specs.Places.{size}
use Rattle.gql_norm.specs.PathMode.{is_number_among}
use Rattle.gql_norm.specs.Reference.{crossed}
use Rattle.gql_norm.specs.PredicateSpot.{PredicateSpot, predicates_in, names_of}

-- least length: the least number of edges that a part passes
unfoldable mutual
  pub least_length : Part → ℕ
  least_length (Node w) = 0
  least_length (Edge d w) = 1
  least_length (Concat p r) = least_length p + least_length r
  least_length (Union p r) = min (least_length p) (least_length r)
  least_length (Alt ss) = least_length_of_sides ss
  least_length (Quant b l n) = l * least_length b
  least_length (Opt b) = 0
  least_length (ModeScope m b c) = least_length b

  -- of one side or more
  pub least_length_of_sides : Sides → ℕ
  least_length_of_sides NoSide = 0
  least_length_of_sides (Side p ss) = least_length_beside (least_length p) ss

  pub least_length_beside : ℕ → Sides → ℕ
  least_length_beside k NoSide = k
  least_length_beside k (Side p ss) = min k (least_length_beside (least_length p) ss)

-- some quantifier's part has least length 0
unfoldable mutual
  pub has_empty_loop : Part → Bool
  has_empty_loop (Node w) = false
  has_empty_loop (Edge d w) = false
  has_empty_loop (Concat p r) = has_empty_loop p || has_empty_loop r
  has_empty_loop (Union p r) = has_empty_loop p || has_empty_loop r
  has_empty_loop (Alt ss) = has_empty_loop_beside ss
  has_empty_loop (Quant b l n) = (least_length b == 0) || has_empty_loop b
  has_empty_loop (Opt b) = has_empty_loop b
  has_empty_loop (ModeScope m b c) = has_empty_loop b

  pub has_empty_loop_beside : Sides → Bool
  has_empty_loop_beside NoSide = false
  has_empty_loop_beside (Side p ss) = has_empty_loop p || has_empty_loop_beside ss

-- TRAIL, ACYCLIC and SIMPLE protect what stands in their scope
abbrev pub protects : Mode → Bool
protects mode.Walk = false
protects _ = true

-- an unprotected quantifier: one without an upper bound
abbrev pub if_open : Bool → Option ℕ → ℕ → List ℕ
if_open false None a = a ∷ []
if_open _ n a = []

-- the unprotected quantifiers of a part that is entered at place a, which a scope around protects or not
unfoldable mutual
  pub unprotected : Part → ℕ → Bool → List ℕ
  unprotected (Node w) a safe = []
  unprotected (Edge d w) a safe = []
  unprotected (Concat p r) a safe = unprotected p a safe ++ unprotected r (a + size p) safe
  unprotected (Union p r) a safe = unprotected p (a + 1) safe ++ unprotected r (a + size p + 2) safe
  unprotected (Alt ss) a safe = unprotected_beside ss (a + 1) safe
  unprotected (Quant b l n) a safe = if_open safe n a ++ unprotected b (a + 2) safe
  unprotected (Opt b) a safe = unprotected b (a + 1) safe
  unprotected (ModeScope m b c) a safe = unprotected b (a + 1) (safe || protects m)

  pub unprotected_beside : Sides → ℕ → Bool → List ℕ
  unprotected_beside NoSide b safe = []
  unprotected_beside (Side p ss) b safe = unprotected p b safe ++ unprotected_beside ss (b + size p + 1) safe

-- there is a number
abbrev pub is_some_number : List ℕ → Bool
is_some_number [] = false
is_some_number (q ∷ qs) = true

-- some quantifier is unprotected, and the path pattern has no selector
abbrev pub is_unprotected : NormalPath → Bool
is_unprotected p = is_some_number (unprotected p.body 0 false) && is_none p.selector

-- the names of references that cross an unprotected quantifier, in the order of the text
abbrev pub open_references : Part → List (List ℕ)
open_references body = flat_map (λ (q : PredicateSpot). filter (λ x. list_any (is_number_among (unprotected body 0 false)) (crossed body q.quants q.place x)) (names_of q)) (predicates_in body 0 [])

-- E12 of a MATCH: some path pattern has a quantifier whose part may pass no edge
abbrev pub empty_loop : NormalPattern → Bool
empty_loop p = list_any (λ (q : NormalPath). has_empty_loop q.body) p.paths

-- E13 of a MATCH: some path pattern has an unprotected quantifier and no selector
abbrev pub unbounded : NormalPattern → Bool
unbounded p = list_any is_unprotected p.paths

-- the names that E14 refuses in a MATCH, in the order of the text
abbrev pub group_references : NormalPattern → List (List ℕ)
group_references p = flat_map (λ (q : NormalPath). open_references q.body) p.paths
