-- Reads: what a reader over slices promises. It answers what it read and the slice of lexemes behind it.
use Rattle.std.specs.Prelude.{◌≡◌, ◌<◌, ◌≤◌, Bool, List, length, Option, Result, IfOk}
use Rattle.std.specs.Borrow.{Bor}
use Rattle.gql_lexer.specs.declared.lexeme.Lexeme.{Lexeme}
use Rattle.gql_ast.specs.declared.parse_fault.ParseFault.{ParseFault}
use Rattle.gql_front.specs.Reading.{Reader, after}
use Rattle.gql_front.specs.Gives.{Gives, Finds}

-- what a reader over slices answers: what it read, and a slice of what is left
abbrev pub Parsed : Type 0 → Type 0 → Type 0
Parsed A E = Result (A × Bor (List Lexeme)) E

-- the answer is what the reader gives of ts, its tree seen by the view, and fewer lexemes are left
pub record ReadsAs {A B : Type 0} (view : A → B) (result : Parsed A ParseFault) (ts : List Lexeme) (reader : Reader B) : Type 0 where
  pub given : Gives (λ x. (view x.0, x.1.now)) result (reader ts)
  pub shorter : IfOk result (λ x. length x.1.now < length ts)

-- the same of a tree that is its own meaning
abbrev pub Reads : {A : Type 0} → Parsed A ParseFault → List Lexeme → Reader A → Type 0
Reads result ts reader = ReadsAs (λ x. x) result ts reader

-- the same of what may be empty: no more lexemes are left
pub record MayReadAs {A B : Type 0} (view : A → B) (result : Parsed A ParseFault) (ts : List Lexeme) (reader : Reader B) : Type 0 where
  pub given : Gives (λ x. (view x.0, x.1.now)) result (reader ts)
  pub shorter : IfOk result (λ x. length x.1.now ≤ length ts)

-- the same of a tree that is its own meaning
abbrev pub MayRead : {A : Type 0} → Parsed A ParseFault → List Lexeme → Reader A → Type 0
MayRead result ts reader = MayReadAs (λ x. x) result ts reader

-- the same where no memory is taken, so that there is one error
pub record TakesAs {A B E : Type 0} (view : A → B) (result : Parsed A E) (ts : List Lexeme) (reader : Reader B) : Type 0 where
  pub given : Finds (λ x. (view x.0, x.1.now)) result (reader ts)
  pub shorter : IfOk result (λ x. length x.1.now < length ts)

-- the same of what is its own meaning
abbrev pub Takes : {A E : Type 0} → Parsed A E → List Lexeme → Reader A → Type 0
Takes result ts reader = TakesAs (λ x. x) result ts reader

-- what is left behind a lexeme that passes the test
pub record GoesPast {E : Type 0} (result : Result (Bor (List Lexeme)) E) (ts : List Lexeme) (test : Lexeme → Bool) : Type 0 where
  pub given : Finds (λ x. x.now) result (after test ts)
  pub shorter : IfOk result (λ x. length x.now < length ts)

-- what is left behind some words, given as a result
pub record GoesBehind {E : Type 0} (result : Result (Bor (List Lexeme)) E) (ts : List Lexeme) (left : Option (List Lexeme)) : Type 0 where
  pub given : Finds (λ x. x.now) result left
  pub shorter : IfOk result (λ x. length x.now < length ts)

-- what is left behind words that may be missing
pub record LeftBehind (result : Bor (List Lexeme)) (ts left : List Lexeme) : Type 0 where
  pub given : result.now ≡ left
  pub shorter : length result.now ≤ length ts

-- what is always there to read, since nothing at all is one of its forms
pub record AlwaysReads {A : Type 0} (result : A × Bor (List Lexeme)) (ts : List Lexeme) (expected : A × List Lexeme) : Type 0 where
  pub given : (result.0, result.1.now) ≡ expected
  pub shorter : length result.1.now ≤ length ts

-- the same where memory is taken
pub record AlwaysReadsInMemory {A E : Type 0} (result : Parsed A E) (ts : List Lexeme) (expected : A × List Lexeme) : Type 0 where
  pub given : IfOk result (λ x. (x.0, x.1.now) ≡ expected)
  pub shorter : IfOk result (λ x. length x.1.now ≤ length ts)
