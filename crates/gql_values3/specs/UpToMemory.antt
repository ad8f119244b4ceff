-- Up to memory: what the answer of a call says of what its definition gives. The answer is the expected result, or the
-- expected refusal; want of memory is the one answer that no definition speaks of.
use Rattle.std.specs.Prelude.{◌≡◌, Option, Some, Result, Ok, Err}

-- A crate says by `cause` what each of its errors says of what is expected; `view` is the expected result of which an Ok speaks.
abbrev pub AnswersBy : {X E Y : Type 0} → (X → Y) → (E → Y → Type 0) → Result X E → Y → Type 0
AnswersBy view cause (Ok x) expected = expected ≡ view x
AnswersBy view cause (Err e) expected = cause e expected

-- the same of a definition that gives a result or a refusal
abbrev pub GivesBy : {X E Y F : Type 0} → (E → Result Y F → Type 0) → (X → Y) → Result X E → Result Y F → Type 0
GivesBy cause view = AnswersBy (λ x. Ok (view x)) cause

-- the same of a definition that finds something or nothing
abbrev pub FindsBy : {X E Y : Type 0} → (E → Option Y → Type 0) → (X → Y) → Result X E → Option Y → Type 0
FindsBy cause view = AnswersBy (λ x. Some (view x)) cause
