-- A share of a number, taken without the product of the whole.
use Rattle.std.proofs.Common.{◌≡◌, ℕ, zero, ◌<◌, ◌+◌, ◌*◌, ◌/◌, ◌%◌, ap, sym, ◌∙◌}
use Rattle.std.proofs.lemmas.Nat.{div-add-mod'}
use Rattle.std.proofs.Math.Nat.{mul-add-div_right, mul_right_comm, add-mul}

pub share : (n p w : ℕ) → zero < w → n / w * p + n % w * p / w ≡ n * p / w
share n p w h = sym (mul-add-div_right h (n / w * p) (n % w * p)) ∙ ap (λ x. x / w) whole
  where
    whole : n / w * p * w + n % w * p ≡ n * p
    whole = ap (λ x. x + n % w * p) (mul_right_comm (n / w) p w) ∙ sym (add-mul (n / w * w) (n % w) p) ∙ ap (λ x. x * p) (div-add-mod' n w)
