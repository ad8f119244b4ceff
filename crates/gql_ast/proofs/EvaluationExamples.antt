-- Examples of evaluation and of canonical texts, computed: each was worked out by hand from the rules.
use Rattle.std.proofs.Common.{◌≡◌, ℕ, pos, negsuc, true, false, List, [], ◌∷◌, codes, Result, Ok, Err, refl}
use Rattle.gql_values3.specs.Datum.{Datum, null, boolean, integer, text, list, node, edge, data_of}
use Rattle.gql_values3.specs.PropertyGraph.{PropertyGraph}
use Rattle.gql_values3.specs.declared.comparison.Comparison.TheVariants as op
use Rattle.gql_values3.specs.declared.truth.Truth.TheVariants as truth
use Rattle.gql_values3.specs.declared.element.Ends.TheVariants.{Directed}
use Rattle.gql_ast.specs.Tree.{Tree, constant, number, name, property, listing, aggregate, modulo, signed, product, sum, comparing, test, negation, conjunction, disjunction, link, trees_of, links_of}
use Rattle.gql_ast.specs.Scope.{Scope, Entry}
use Rattle.gql_ast.specs.Evaluation.{value_of, pattern_truth}
use Rattle.std.specs.Fmt.{digits}
use Rattle.gql_ast.specs.ExprText.{expr_text}
use Rattle.gql_ast.specs.declared.words.Aggregate.TheVariants as aggregates
use Rattle.gql_ast.specs.declared.words.Operator.TheVariants as operators
use Rattle.gql_ast.specs.declared.words.Quality.TheVariants as qualities
use Rattle.gql_ast.specs.declared.words.Sense.TheVariants as senses
use Rattle.gql_ast.specs.declared.words.SetQuantifier.TheVariants as quantifiers
use Rattle.gql_ast.specs.declared.words.Sign.TheVariants as signs
use Rattle.gql_ast.specs.declared.fault.DataFault.{DataFault}
use Rattle.gql_ast.specs.declared.fault.DataFault.TheVariants as fault

-- a graph of node 1, labelled A, with n = 1, and an edge from it to itself with w = 5
abbrev small : PropertyGraph
small = record {
  nodes = record { number = record { 0 = 1 }; labels = codes "A" ∷ []; properties = (codes "n", integer (pos 1)) ∷ [] } ∷ [];
  edges = record { number = record { 0 = 1 }; ends = Directed (record { 0 = 1 }) (record { 0 = 1 }); labels = []; properties = (codes "w", integer (pos 5)) ∷ [] } ∷ [];
  next_node = 4;
  next_edge = 2;
}

-- x is node 1, gone is a node that was deleted, and es is a group of two edges, both edge 1
abbrev entry : List ℕ → Datum → Entry
entry x d = record { name = x; is_group = false; datum = d }

abbrev scope : Scope
scope = entry (codes "x") (node 1) ∷ entry (codes "gone") (node 3)
    ∷ record { name = codes "es"; is_group = true; datum = list (data_of (edge 1 ∷ edge 1 ∷ [])) } ∷ []

abbrev value : Tree → Result Datum DataFault
value e = value_of small [] scope e

-- NULL AND FALSE
unknown_and_false : value (conjunction (constant null) (links_of (link operators.And (constant (boolean false)) ∷ []))) ≡ Ok (boolean false)
unfolding value_of
unknown_and_false = refl

-- NULL = 1 OR TRUE
unknown_or_true : value (disjunction (comparing op.Eq (constant null) (number (codes "1"))) (links_of (link operators.Or (constant (boolean true)) ∷ []))) ≡ Ok (boolean true)
unfolding value_of
unknown_or_true = refl

-- TRUE OR 1 skips its second side, and TRUE XOR 1 does not
or_skips : value (disjunction (constant (boolean true)) (links_of (link operators.Or (number (codes "1")) ∷ []))) ≡ Ok (boolean true)
unfolding value_of
or_skips = refl

xor_does_not_skip : value (disjunction (constant (boolean true)) (links_of (link operators.Xor (number (codes "1")) ∷ []))) ≡ Err fault.WrongKind
unfolding value_of
xor_does_not_skip = refl

-- MOD(-7, 2) and -7 / 2: the quotient is cut towards zero
modulo_of_negative : value (modulo (signed signs.Minus (number (codes "7"))) (number (codes "2"))) ≡ Ok (integer (negsuc 0))
unfolding value_of
modulo_of_negative = refl

quotient_of_negative : value (product (signed signs.Minus (number (codes "7"))) (links_of (link operators.Divide (number (codes "2")) ∷ []))) ≡ Ok (integer (negsuc 2))
unfolding value_of
quotient_of_negative = refl

-- 9223372036854775807 + 1 is no integer of 64 bits, and inside a pattern the fault is Unknown
abbrev too_large : Tree
too_large = sum (number (codes "9223372036854775807")) (links_of (link operators.Add (number (codes "1")) ∷ []))

sum_overflows : value too_large ≡ Err fault.Overflow
unfolding value_of
sum_overflows = refl

fault_is_unknown : pattern_truth small [] scope (comparing op.Gt too_large (number (codes "0"))) ≡ truth.Unknown
unfolding value_of
fault_is_unknown = refl

-- the least integer, as it is written, and its negation
least_integer : value (sum (signed signs.Minus (number (codes "9223372036854775807"))) (links_of (link operators.Subtract (number (codes "1")) ∷ []))) ≡ Ok (integer (negsuc 9223372036854775807))
unfolding value_of
least_integer = refl

-- MOD(-9223372036854775807 - 1, -1) is 0, although the quotient is no integer of 64 bits
modulo_of_least : value (modulo (sum (signed signs.Minus (number (codes "9223372036854775807"))) (links_of (link operators.Subtract (number (codes "1")) ∷ []))) (signed signs.Minus (number (codes "1")))) ≡ Ok (integer (pos 0))
unfolding value_of
modulo_of_least = refl

-- x.n, a property that isn't there, one of a deleted node, and one of no element
property_there : value (property (codes "x") (codes "n")) ≡ Ok (integer (pos 1))
unfolding value_of
property_there = refl

property_missing : value (comparing op.Eq (property (codes "x") (codes "missing")) (number (codes "1"))) ≡ Ok null
unfolding value_of
property_missing = refl

property_deleted : value (property (codes "gone") (codes "n")) ≡ Err fault.Deleted
unfolding value_of
property_deleted = refl

property_of_group : value (property (codes "es") (codes "w")) ≡ Err fault.WrongKind
unfolding value_of
property_of_group = refl

-- COUNT(es) > 2 and SUM(es.w) over the two items of the group
count_of_group : value (comparing op.Gt (aggregate aggregates.Count quantifiers.All (name (codes "es"))) (number (codes "2"))) ≡ Ok (boolean false)
unfolding value_of
count_of_group = refl

sum_over_group : value (aggregate aggregates.Sum quantifiers.All (property (codes "es") (codes "w"))) ≡ Ok (integer (pos 10))
unfolding value_of
sum_over_group = refl

distinct_sum_over_group : value (aggregate aggregates.Sum quantifiers.Distinct (property (codes "es") (codes "w"))) ≡ Ok (integer (pos 5))
unfolding value_of
distinct_sum_over_group = refl

-- 1 = 'a' is not comparable, within lists too
not_comparable : value (comparing op.Eq (listing (trees_of (number (codes "1") ∷ []))) (listing (trees_of (constant (text (codes "a")) ∷ [])))) ≡ Err fault.NotComparable
unfolding value_of
not_comparable = refl

-- not 1=007 or null is not null (names are left out: whether one is plain is a look-up in Unicode's tables)
canonical_chain : expr_text (disjunction (negation (comparing op.Eq (number (codes "1")) (number (codes "007")))) (links_of (link operators.Or (test (constant null) senses.IsNot qualities.Null) ∷ [])))
    ≡ codes "NOT 1 = 7 OR NULL IS NOT NULL"
unfolding expr_text digits
canonical_chain = refl

-- list[1,"it's"], and a sign
canonical_list : expr_text (listing (trees_of (signed signs.Minus (number (codes "1")) ∷ constant (text (codes "it's")) ∷ []))) ≡ codes "[-1, 'it\\'s']"
unfolding expr_text digits
canonical_list = refl

-- count(distinct all-of-a-sum)
canonical_aggregate : expr_text (aggregate aggregates.Count quantifiers.Distinct (sum (number (codes "1")) (links_of (link operators.Concatenate (constant (boolean true)) ∷ [])))) ≡ codes "COUNT(DISTINCT 1 || TRUE)"
unfolding expr_text digits
canonical_aggregate = refl
