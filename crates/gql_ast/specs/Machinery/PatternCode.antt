-- How the logic tells path patterns apart: each has a code of its own.
use Rattle.std.specs.Prelude.{◌≡◌, ℕ, List, Option, refl}
use Rattle.std.specs.Coded.{Coded, code_by, coded×, coded_list, coded_option}
use Rattle.std.proofs.Common.{ap}
use base.Stored.{Gv, gnil, gnum, gcons}
use Rattle.gql_ast.specs.Machinery.CodeParts.{coded_bytes, head, tail, tag, shape, apart}
use Rattle.gql_ast.specs.Label.{Label}
use Rattle.gql_ast.specs.Machinery.LabelCode.{coded_label}
use Rattle.gql_ast.specs.Tree.{Tree}
use Rattle.gql_ast.specs.Machinery.TreeCode.{coded_tree}
use Rattle.gql_ast.specs.Filler.{ConditionTree, FillerTree, properties, holds}
use Rattle.gql_ast.specs.Pattern.{Pattern, Patterns, node, edge, paren, repeated, optional, sequence, alternation, multiset_alternation, no_patterns, more_patterns}
use Rattle.gql_ast.specs.declared.mode.Mode.{Mode}
use Rattle.gql_ast.specs.contracts.mode.Mode as modes
use Rattle.gql_ast.specs.contracts.pattern.Direction as directions
use Rattle.gql_ast.specs.contracts.pattern.Quantifier as quantifiers

abbrev coded_map : Coded (List (List ℕ × Tree))
coded_map = coded_list (coded× coded_bytes coded_tree)

abbrev condition_code : ConditionTree → Gv
condition_code (properties ps) = gcons (gnum 0) (coded_map.code ps)
condition_code (holds e) = gcons (gnum 1) (coded_tree.code e)

pub condition_inj : (x y : ConditionTree) → condition_code x ≡ condition_code y → x ≡ y
condition_inj (properties a) (properties b) p = ap properties (coded_map.inj a b (ap (λ g. tail g) p))
condition_inj (properties a) _ p = absurd (apart tag p refl)
condition_inj (holds a) (holds b) p = ap holds (coded_tree.inj a b (ap (λ g. tail g) p))
condition_inj (holds a) _ p = absurd (apart tag p refl)

abbrev coded_condition : Coded ConditionTree
coded_condition = record { code = condition_code; inj = condition_inj }

-- a filler is stored as its three parts
abbrev pub coded_filler : Coded FillerTree
coded_filler =
    code_by (Option (List ℕ) × (Option Label × Option ConditionTree))
    (coded× (coded_option coded_bytes) (coded× (coded_option coded_label) (coded_option coded_condition)))
    (λ f. (f.variable, (f.labels, f.condition)))
    (λ p. record { variable = p.0; labels = p.1.0; condition = p.1.1 })
    (λ _. refl)

abbrev coded_mode : Coded (Option Mode)
coded_mode = coded_option modes.the_row.coded

abbrev coded_where : Coded (Option Tree)
coded_where = coded_option coded_tree

abbrev mutual
  pub pattern_code : Pattern → Gv
  pattern_code (node a0) = gcons (gnum 0) (coded_filler.code a0)
  pattern_code (edge a0 a1) = gcons (gnum 1) (gcons (directions.the_row.coded.code a0) (coded_filler.code a1))
  pattern_code (paren a0 a1 a2) = gcons (gnum 2) (gcons (coded_mode.code a0) (gcons (pattern_code a1) (coded_where.code a2)))
  pattern_code (repeated a0 a1) = gcons (gnum 3) (gcons (pattern_code a0) (quantifiers.the_row.coded.code a1))
  pattern_code (optional a0) = gcons (gnum 4) (pattern_code a0)
  pattern_code (sequence a0 a1) = gcons (gnum 5) (gcons (pattern_code a0) (patterns_code a1))
  pattern_code (alternation a0 a1) = gcons (gnum 6) (gcons (pattern_code a0) (patterns_code a1))
  pattern_code (multiset_alternation a0 a1) = gcons (gnum 7) (gcons (pattern_code a0) (patterns_code a1))

  pub patterns_code : Patterns → Gv
  patterns_code no_patterns = gnil
  patterns_code (more_patterns x xs) = gcons (pattern_code x) (patterns_code xs)

-- two values of one code are one value
mutual
  pub pattern_inj : (x y : Pattern) → pattern_code x ≡ pattern_code y → x ≡ y
  pattern_inj (node a0) (node b0) p = λ i. node (coded_filler.inj a0 b0 (ap (λ g. tail g) p) i)
  pattern_inj (node a0) _ p = absurd (apart tag p refl)
  pattern_inj (edge a0 a1) (edge b0 b1) p = λ i. edge (directions.the_row.coded.inj a0 b0 (ap (λ g. head (tail g)) p) i) (coded_filler.inj a1 b1 (ap (λ g. tail (tail g)) p) i)
  pattern_inj (edge a0 a1) _ p = absurd (apart tag p refl)
  pattern_inj (paren a0 a1 a2) (paren b0 b1 b2) p = λ i. paren (coded_mode.inj a0 b0 (ap (λ g. head (tail g)) p) i) (pattern_inj a1 b1 (ap (λ g. head (tail (tail g))) p) i) (coded_where.inj a2 b2 (ap (λ g. tail (tail (tail g))) p) i)
  pattern_inj (paren a0 a1 a2) _ p = absurd (apart tag p refl)
  pattern_inj (repeated a0 a1) (repeated b0 b1) p = λ i. repeated (pattern_inj a0 b0 (ap (λ g. head (tail g)) p) i) (quantifiers.the_row.coded.inj a1 b1 (ap (λ g. tail (tail g)) p) i)
  pattern_inj (repeated a0 a1) _ p = absurd (apart tag p refl)
  pattern_inj (optional a0) (optional b0) p = λ i. optional (pattern_inj a0 b0 (ap (λ g. tail g) p) i)
  pattern_inj (optional a0) _ p = absurd (apart tag p refl)
  pattern_inj (sequence a0 a1) (sequence b0 b1) p = λ i. sequence (pattern_inj a0 b0 (ap (λ g. head (tail g)) p) i) (patterns_inj a1 b1 (ap (λ g. tail (tail g)) p) i)
  pattern_inj (sequence a0 a1) _ p = absurd (apart tag p refl)
  pattern_inj (alternation a0 a1) (alternation b0 b1) p = λ i. alternation (pattern_inj a0 b0 (ap (λ g. head (tail g)) p) i) (patterns_inj a1 b1 (ap (λ g. tail (tail g)) p) i)
  pattern_inj (alternation a0 a1) _ p = absurd (apart tag p refl)
  pattern_inj (multiset_alternation a0 a1) (multiset_alternation b0 b1) p = λ i. multiset_alternation (pattern_inj a0 b0 (ap (λ g. head (tail g)) p) i) (patterns_inj a1 b1 (ap (λ g. tail (tail g)) p) i)
  pattern_inj (multiset_alternation a0 a1) _ p = absurd (apart tag p refl)

  pub patterns_inj : (x y : Patterns) → patterns_code x ≡ patterns_code y → x ≡ y
  patterns_inj no_patterns no_patterns p = refl
  patterns_inj no_patterns _ p = absurd (apart shape p refl)
  patterns_inj (more_patterns x xs) (more_patterns y ys) p = λ i. more_patterns (pattern_inj x y (ap (λ g. head g) p) i) (patterns_inj xs ys (ap (λ g. tail g) p) i)
  patterns_inj (more_patterns x xs) _ p = absurd (apart shape p refl)

abbrev pub coded_pattern : Coded Pattern
coded_pattern = record { code = pattern_code; inj = pattern_inj }
