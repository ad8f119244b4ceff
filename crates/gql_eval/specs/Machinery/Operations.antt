-- What an operation makes of its operands' values.
use Rattle.std.specs.Prelude.{Result, Ok, Err}
use Rattle.gql_values3.specs.Datum.{Datum}
use Rattle.gql_values3.specs.PropertyGraph.{PropertyGraph}
use Rattle.gql_values3.specs.Truth.{negated}
use Rattle.gql_values3.specs.Comparison.{compared}
use Rattle.gql_ast.specs.Tree.{Tree, call, modulo, signed, comparing, test, label_test, end_test, negation}
use Rattle.gql_ast.specs.Faults.{◌>>=◌}
use Rattle.gql_ast.specs.Operators.{arithmetic, remaining, sign_of, applied}
use Rattle.gql_ast.specs.TruthValues.{truth_in, datum_of_truth}
use Rattle.gql_ast.specs.ElementTests.{labeled_value, end_value}
use Rattle.gql_ast.specs.Evaluation.{comparison_value, quality_value, sensed}
use Rattle.gql_ast.specs.declared.fault.DataFault.{DataFault}
use Rattle.gql_ast.specs.declared.fault.DataFault.TheVariants as fault

-- functions, signs, tests and NOT; no other expression is an operation of one operand
abbrev pub of_operand : PropertyGraph → Tree → Datum → Result Datum DataFault
of_operand g (call f e) d = applied f d
of_operand g (signed s e) d = sign_of s d
of_operand g (test e s q) d = quality_value g q d >>= λ b. Ok (sensed s b)
of_operand g (label_test e s l) d = labeled_value g d l >>= λ b. Ok (sensed s b)
of_operand g (negation e) d = truth_in d >>= λ t. Ok (datum_of_truth (negated t))
of_operand g _ d = Err fault.WrongKind

-- MOD, comparisons, and the test of an element as an end of the edge that is the second; no other expression is an
-- operation of two operands
abbrev pub of_operands : PropertyGraph → Tree → Datum → Datum → Result Datum DataFault
of_operands g (modulo a b) x y = arithmetic remaining x y
of_operands g (comparing op a b) x y = comparison_value (compared op x y)
of_operands g (end_test e s which edge) x y = end_value g which x y >>= λ b. Ok (sensed s b)
of_operands g _ x y = Err fault.WrongKind
