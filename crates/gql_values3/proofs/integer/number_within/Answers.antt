use Rattle.std.proofs.Common.{◌≡◌, ◌+◌, ◌-◌, ◌*◌, ◌<◌, ◌∙◌, ap, sym, drop, get_or, length, arith}
use Rattle.gql_values3.specs.Integers.{value_of_digits}
use Rattle.gql_values3.proofs.DigitLemmas.{behind, step, at_least, above}
use Rattle.gql_values3.proofs.integer.number_within.Goals as goal

pub returns-then-value-limit : goal.returns-then-value-limit
returns-then-value-limit c =
    let xs = c.args.digits.now in
    let i = c.loop-digit.digit-index in
    let inside : i < length xs = omega arith in
    let whole = sym (step c.loop-digit.value xs i inside) ∙ c.loop-digit.invariant.told in
    let least = rw whole at (at_least (c.loop-digit.value * 10 + (get_or xs i 0 - 48)) (drop (i + 1) xs)) in
    let large : c.args.most < value_of_digits xs = omega (arith, c.from-limit.ensures, c.saturating_sub.ensures, c.from.ensures, least) in
    above (value_of_digits xs) c.args.most large

pub loop-digit-preserved : goal.loop-digit-preserved
loop-digit-preserved c =
    let xs = c.args.digits.now in
    let i = c.loop-digit.digit-index in
    let inside : i < length xs = omega arith in
    let same : c.loop-digit.value * 10 + c.from.result ≡ c.loop-digit.value * 10 + (get_or xs i 0 - 48) = omega (arith, c.saturating_sub.ensures, c.from.ensures) in
    record {
      told = ap (λ v. behind v (drop (i + 1) xs)) same ∙ sym (step c.loop-digit.value xs i inside) ∙ c.loop-digit.invariant.told;
      small = omega (arith, c.from-limit.ensures, c.if-value-limit.false);
    }
