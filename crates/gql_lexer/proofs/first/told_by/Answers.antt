use Rattle.std.proofs.Common.{refl, arith}
use Rattle.std.proofs.lemmas.Bool.Decides.{nat_tests}
use Rattle.gql_lexer.specs.Forms.{front, symbols}
use Rattle.gql_lexer.proofs.FrontLemmas.{no-name}
use Rattle.gql_lexer.proofs.first.told_by.Goals as goal

pub returns-in-61 : goal.returns-in-61
unfolding front symbols
returns-in-61 c = λ bs. rw c.in-61.is (rw (no-name 61 bs refl) refl)

pub returns-in-43 : goal.returns-in-43
unfolding front symbols
returns-in-43 c = λ bs. rw c.in-43.is (rw (no-name 43 bs refl) refl)

pub returns-in-42 : goal.returns-in-42
unfolding front symbols
returns-in-42 c = λ bs. rw c.in-42.is (rw (no-name 42 bs refl) refl)

pub returns-in-37 : goal.returns-in-37
unfolding front symbols
returns-in-37 c = λ bs. rw c.in-37.is (rw (no-name 37 bs refl) refl)

pub returns-in-40 : goal.returns-in-40
unfolding front symbols
returns-in-40 c = λ bs. rw c.in-40.is (rw (no-name 40 bs refl) refl)

pub returns-in-41 : goal.returns-in-41
unfolding front symbols
returns-in-41 c = λ bs. rw c.in-41.is (rw (no-name 41 bs refl) refl)

pub returns-in-91 : goal.returns-in-91
unfolding front symbols
returns-in-91 c = λ bs. rw c.in-91.is (rw (no-name 91 bs refl) refl)

pub returns-in-93 : goal.returns-in-93
unfolding front symbols
returns-in-93 c = λ bs. rw c.in-93.is (rw (no-name 93 bs refl) refl)

pub returns-in-123 : goal.returns-in-123
unfolding front symbols
returns-in-123 c = λ bs. rw c.in-123.is (rw (no-name 123 bs refl) refl)

pub returns-in-125 : goal.returns-in-125
unfolding front symbols
returns-in-125 c = λ bs. rw c.in-125.is (rw (no-name 125 bs refl) refl)

pub returns-in-44 : goal.returns-in-44
unfolding front symbols
returns-in-44 c = λ bs. rw c.in-44.is (rw (no-name 44 bs refl) refl)

pub returns-in-46 : goal.returns-in-46
unfolding front symbols
returns-in-46 c = λ bs. rw c.in-46.is (rw (no-name 46 bs refl) refl)

pub returns-in-38 : goal.returns-in-38
unfolding front symbols
returns-in-38 c = λ bs. rw c.in-38.is (rw (no-name 38 bs refl) refl)

pub returns-in-33 : goal.returns-in-33
unfolding front symbols
returns-in-33 c = λ bs. rw c.in-33.is (rw (no-name 33 bs refl) refl)

pub returns-in-63 : goal.returns-in-63
unfolding front symbols
returns-in-63 c = λ bs. rw c.in-63.is (rw (no-name 63 bs refl) refl)

pub returns-in-59 : goal.returns-in-59
unfolding front symbols
returns-in-59 c = λ bs. rw c.in-59.is (rw (no-name 59 bs refl) refl)

pub returns-in_default : goal.returns-in_default
unfolding symbols
returns-in_default c = (grind (arith, nat_tests), (grind (arith, nat_tests), grind (arith, nat_tests)))

pub returns-in_default-2 : goal.returns-in_default-2
unfolding symbols
returns-in_default-2 c = (grind (arith, nat_tests), (grind (arith, nat_tests), grind (arith, nat_tests)))

pub returns-in_default-3 : goal.returns-in_default-3
unfolding symbols
returns-in_default-3 c = (grind (arith, nat_tests), (grind (arith, nat_tests), grind (arith, nat_tests)))

pub returns-in_default-4 : goal.returns-in_default-4
unfolding symbols
returns-in_default-4 c = (grind (arith, nat_tests), (grind (arith, nat_tests), grind (arith, nat_tests)))

pub returns-in_default-5 : goal.returns-in_default-5
unfolding symbols
returns-in_default-5 c = (grind (arith, nat_tests), (grind (arith, nat_tests), grind (arith, nat_tests)))
