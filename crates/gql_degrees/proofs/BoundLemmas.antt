-- The first number at fault, as it is told, of several parts.
use Rattle.std.proofs.Common.{◌≡◌, ℕ, ◌+◌, ◌<◌, ◌==◌, pos, nat_lt, Bool, true, false, ◌||◌, List, [], ◌∷◌, ◌++◌, map, flat_map, drop, get_or, length, Option, Some, None, refl, sym, ap, ◌∙◌, arith, append-nil}
use Rattle.std.specs.Prelude.{option_map, if◌then◌else◌}
use Rattle.std.specs.Option.{option_or}
use Rattle.std.proofs.lemmas.Bool.Decides.{nat_tests}
use Rattle.std.proofs.lemmas.Grind.{common_steps}
use Rattle.gql_ast.specs.Pattern.{Pattern, Patterns, node, edge, paren, repeated, optional, sequence, alternation, multiset_alternation, patterns_of}
use Rattle.gql_ast.specs.PatternMeaning.{pattern_of}
use Rattle.gql_ast.specs.declared.mode.Mode.{Mode}
use Rattle.gql_ast.specs.declared.path.GraphPattern.{GraphPattern}
use Rattle.gql_ast.specs.declared.path.PathPattern.{PathPattern}
use Rattle.gql_ast.specs.declared.pattern.PathExpr.{PathExpr}
use Rattle.gql_ast.specs.declared.pattern.Quantifier.{Quantifier}
use Rattle.gql_expr_checks.specs.First.{first}
use Rattle.gql_expr_checks.proofs.FirstLemmas.{first_in_two}
use Rattle.gql_norm.specs.NormalPattern.{Part, NormalPath, sides_of, in_a_row, side_by_side}
use Rattle.gql_norm.specs.NormalForm.{quantified, part_of, parts_of, fewest_copies, most_copies, from_prefix, selector_of, mode_of, under_mode, normal_path}
use Rattle.gql_norm.specs.Bounds.{bounds_in, bounds_in_sides, bounds_in_selector, faults_of_bounds, faults_of_number}
use Rattle.gql_degrees.specs.FirstFaults.{at_most_largest, told_number, first_bound_at_fault}
use Rattle.gql_degrees.specs.Machinery.ToldBounds.{first_told, bounds_in_patterns, bounds_in_path}

mapped_or : (o p : Option ℕ) → option_map at_most_largest (option_or o p) ≡ option_or (option_map at_most_largest o) (option_map at_most_largest p)
mapped_or None p = refl
mapped_or (Some n) p = refl

pub told_in_two : (xs ys : List ℕ) → first_told (xs ++ ys) ≡ option_or (first_told xs) (first_told ys)
told_in_two xs ys = ap (option_map at_most_largest) (first_in_two xs ys) ∙ mapped_or (first xs) (first ys)

-- rows and sides
in_row : (p : Part) (ps : List Part) → bounds_in (in_a_row p ps) ≡ bounds_in p ++ flat_map bounds_in ps
in_row p [] = sym (append-nil (bounds_in p))
in_row p (r ∷ rs) = ap (λ ns. bounds_in p ++ ns) (in_row r rs)

in_sides : (p : Part) (ps : List Part) → bounds_in (side_by_side p ps) ≡ bounds_in p ++ flat_map bounds_in ps
in_sides p [] = sym (append-nil (bounds_in p))
in_sides p (r ∷ rs) = ap (λ ns. bounds_in p ++ ns) (in_sides r rs)

in_told : (ps : List Part) → bounds_in_sides (sides_of ps) ≡ flat_map bounds_in ps
in_told [] = refl
in_told (p ∷ ps) = ap (λ ns. bounds_in p ++ ns) (in_told ps)

pub row_told : (p : Pattern) (ps : Patterns) → first_told (bounds_in (part_of (sequence p ps))) ≡ option_or (first_told (bounds_in (part_of p))) (first_told (bounds_in_patterns ps))
row_told p ps = ap first_told (in_row (part_of p) (parts_of ps)) ∙ told_in_two (bounds_in (part_of p)) (bounds_in_patterns ps)

pub sides_told : (p : Pattern) (ps : Patterns) → first_told (bounds_in (part_of (alternation p ps))) ≡ option_or (first_told (bounds_in (part_of p))) (first_told (bounds_in_patterns ps))
sides_told p ps = ap first_told (in_sides (part_of p) (parts_of ps)) ∙ told_in_two (bounds_in (part_of p)) (bounds_in_patterns ps)

pub told_sides_told : (p : Pattern) (ps : Patterns) → first_told (bounds_in (part_of (multiset_alternation p ps))) ≡ option_or (first_told (bounds_in (part_of p))) (first_told (bounds_in_patterns ps))
told_sides_told p ps = ap (λ ns. first_told (bounds_in (part_of p) ++ ns)) (in_told (parts_of ps)) ∙ told_in_two (bounds_in (part_of p)) (bounds_in_patterns ps)

-- a quantified part, whose nodes without a name have no bounds
same_bounds : (p : Pattern) (r : Part) → bounds_in (quantified p r) ≡ bounds_in r
same_bounds (node f) r = refl
same_bounds (edge d f) r = append-nil (bounds_in r)
same_bounds (paren m q c) r = refl
same_bounds (repeated q n) r = refl
same_bounds (optional q) r = refl
same_bounds (sequence q ps) r = refl
same_bounds (alternation q ps) r = refl
same_bounds (multiset_alternation q ps) r = refl

pub repeated_told : (p : Pattern) (q : Quantifier)
    → first_told (bounds_in (part_of (repeated p q))) ≡ option_or (first_told (bounds_in (part_of p))) (first_told (faults_of_bounds (fewest_copies q) (most_copies q)))
repeated_told p q =
    ap (λ ns. first_told (ns ++ faults_of_bounds (fewest_copies q) (most_copies q))) (same_bounds p (part_of p))
    ∙ told_in_two (bounds_in (part_of p)) (faults_of_bounds (fewest_copies q) (most_copies q))

-- a path pattern
same_under : (m : Option Mode) (p : Part) → bounds_in (under_mode m p) ≡ bounds_in p
same_under None p = refl
same_under (Some m) p = refl

pub path_told : (p : PathPattern) → first_told (bounds_in_path p) ≡ option_or (first_told (bounds_in_selector (from_prefix selector_of p.prefix))) (first_told (bounds_in (part_of (pattern_of p.expr))))
path_told p =
    told_in_two (bounds_in_selector (from_prefix selector_of p.prefix)) (bounds_in (normal_path p).body)
    ∙ ap (λ ns. option_or (first_told (bounds_in_selector (from_prefix selector_of p.prefix))) (first_told ns)) (same_under (from_prefix mode_of p.prefix) (part_of (pattern_of p.expr)))

-- A bound that is told as the largest integer is at fault exactly where it is.
same_above : (n : ℕ) → nat_lt 65535 (at_most_largest n) ≡ nat_lt 65535 n
same_above n = grind (arith, nat_tests)

same_least : (l n : ℕ) → (nat_lt 65535 (at_most_largest l) || nat_lt (at_most_largest n) (at_most_largest l)) ≡ (nat_lt 65535 l || nat_lt n l)
same_least l n = grind (arith, nat_tests)

same_none : (k : ℕ) → ((at_most_largest k == 0) || nat_lt 65535 (at_most_largest k)) ≡ ((k == 0) || nat_lt 65535 k)
same_none k = grind (arith, nat_tests)

one_told : (b : Bool) (n : ℕ) → first (if b then at_most_largest n ∷ [] else []) ≡ first_told (if b then n ∷ [] else [])
one_told true n = refl
one_told false n = refl

two_told : (b c : Bool) (l n : ℕ) → first ((if b then at_most_largest l ∷ [] else []) ++ (if c then at_most_largest n ∷ [] else [])) ≡ first_told ((if b then l ∷ [] else []) ++ (if c then n ∷ [] else []))
two_told true c l n = refl
two_told false c l n = one_told c n

bounds_told : (l : ℕ) (n : Option ℕ) → first (faults_of_bounds (at_most_largest l) (option_map at_most_largest n)) ≡ first_told (faults_of_bounds l n)
bounds_told l None = ap (λ b. first (if b then at_most_largest l ∷ [] else [])) (same_above l) ∙ one_told (nat_lt 65535 l) l
bounds_told l (Some n) =
    (λ i. first ((if same_least l n i then at_most_largest l ∷ [] else []) ++ (if same_above n i then at_most_largest n ∷ [] else [])))
    ∙ two_told (nat_lt 65535 l || nat_lt n l) (nat_lt 65535 n) l n

pub quantifier_told : (q : Quantifier) → first (faults_of_bounds (at_most_largest (fewest_copies q)) (option_map at_most_largest (most_copies q))) ≡ first_told (faults_of_bounds (fewest_copies q) (most_copies q))
quantifier_told q = bounds_told (fewest_copies q) (most_copies q)

pub number_told : (k : ℕ) → first (faults_of_number (at_most_largest k)) ≡ first_told (faults_of_number k)
number_told k = ap (λ b. first (if b then at_most_largest k ∷ [] else [])) (same_none k) ∙ one_told ((k == 0) || nat_lt 65535 k) k

-- patterns from one on, and path patterns from one on
abbrev pub told_from : List PathExpr → ℕ → Option ℕ
told_from xs i = first_told (bounds_in_patterns (patterns_of (map pattern_of (drop i xs))))

pub pattern_step : (xs : List PathExpr) (i : ℕ) (x : PathExpr) → i < length xs → x ≡ get_or xs i x → told_from xs i ≡ option_or (first_told (bounds_in (part_of (pattern_of x)))) (told_from xs (i + 1))
pattern_step xs i x h k =
    ap (λ ys. first_told (bounds_in_patterns (patterns_of (map pattern_of ys)))) (dropped xs i x h k)
    ∙ told_in_two (bounds_in (part_of (pattern_of x))) (bounds_in_patterns (patterns_of (map pattern_of (drop (i + 1) xs))))
  where
    dropped : (xs : List PathExpr) (i : ℕ) (x : PathExpr) → i < length xs → x ≡ get_or xs i x → drop i xs ≡ x ∷ drop (i + 1) xs
    dropped xs i x h k = grind (arith, common_steps)

abbrev pub told_from_path : List PathPattern → ℕ → Option ℕ
told_from_path ps i = first_told (flat_map bounds_in_path (drop i ps))

pub path_step : (ps : List PathPattern) (i : ℕ) (p : PathPattern) → i < length ps → p ≡ get_or ps i p → told_from_path ps i ≡ option_or (first_told (bounds_in_path p)) (told_from_path ps (i + 1))
path_step ps i p h k =
    ap (λ qs. first_told (flat_map bounds_in_path qs)) (dropped ps i p h k)
    ∙ told_in_two (bounds_in_path p) (flat_map bounds_in_path (drop (i + 1) ps))
  where
    dropped : (ps : List PathPattern) (i : ℕ) (p : PathPattern) → i < length ps → p ≡ get_or ps i p → drop i ps ≡ p ∷ drop (i + 1) ps
    dropped ps i p h k = grind (arith, common_steps)

-- of a graph pattern, as an integer
all_paths : (ps : List PathPattern) → flat_map bounds_in_path ps ≡ flat_map (λ (q : NormalPath). bounds_in_selector q.selector ++ bounds_in q.body) (map normal_path ps)
all_paths [] = refl
all_paths (p ∷ ps) = ap (λ ns. bounds_in_path p ++ ns) (all_paths ps)

twice_most : (n : ℕ) → at_most_largest (at_most_largest n) ≡ at_most_largest n
twice_most n = omega arith

as_integer : (o : Option ℕ) → option_map told_number (option_map at_most_largest o) ≡ option_map told_number o
as_integer None = refl
as_integer (Some n) = ap (λ m. Some (pos m)) (twice_most n)

pub integer_told : (p : GraphPattern) → option_map told_number (first_told (flat_map bounds_in_path p.paths)) ≡ first_bound_at_fault p
integer_told p = as_integer (first (flat_map bounds_in_path p.paths)) ∙ ap (λ ns. option_map told_number (first ns)) (all_paths p.paths)
