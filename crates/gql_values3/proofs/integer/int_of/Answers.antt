use Rattle.std.proofs.Common.{◌≡◌, ℕ, ◌<◌, ◌^◌, ℤ, pos, Result, Ok, Err, Some, None, if◌then◌else◌, nat_le, length, true, ap, ◌∙◌, arith, rules, w64}
use Rattle.std.specs.Result.{result_ok, OkIff}
use Rattle.std.specs.Str.{all_ascii_digits}
use Rattle.std.proofs.lemmas.Bool.Decides.{nat_tests}
use Rattle.std.proofs.lemmas.Str.Parse.{IsNumeralModel, numerals_by_weight, tells_all_ascii_digits, parse_signed_digits}
use Rattle.gql_values3.specs.Integers.{value_of_digits}
use Rattle.gql_values3.proofs.integer.int_of.Goals as goal

own : IsNumeralModel (λ ds. all_ascii_digits ds ≡ true) value_of_digits
own = numerals_by_weight (λ ds. all_ascii_digits ds ≡ true) tells_all_ascii_digits value_of_digits (search rules)

shown : {E : Type 0} (r : Result ℤ E) (n v : ℕ) → 0 < n → OkIff r ((0 < n) × (v < 2 ^ 63)) (pos v)
    → result_ok r ≡ (if (nat_le v 9223372036854775807) then Some (pos v) else None)
shown (Ok x) n v p h = ap Some h.1 ∙ grind (arith, nat_tests)
shown (Err e) n v p h = grind (arith, nat_tests)

pub returns : goal.returns
returns c =
    c.ok.ensures.value ∙ shown c.parse.result (length c.args.digits.now) (value_of_digits c.args.digits.now) c.requires.some
    (parse_signed_digits own w64 c.args.digits.now c.parse.result c.parse.ensures.value.0 c.requires.digits)
