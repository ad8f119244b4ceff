-- Reading: readers take something from the front of the lexemes, and leave the rest; the ways to put them together.
use Rattle.std.specs.Prelude.{ℕ, zero, suc, Bool, false, List, [], ◌∷◌, length, Option, Some, None, nat_eq, cond}
use Rattle.gql_lexer.specs.declared.lexeme.Lexeme.{Lexeme}
use Rattle.gql_lexer.specs.declared.lexeme.Lexeme.TheVariants as lex

-- what f makes of what is there
infixl 10 ◌>>=◌
abbrev pub ◌>>=◌ : {A B : Type 0} → Option A → (A → Option B) → Option B
None >>= f = None
(Some x) >>= f = f x

-- a reader gives what it read, and the lexemes that are left
abbrev pub Reader : Type 0 → Type 0
Reader A = List Lexeme → Option (A × List Lexeme)

-- the symbol of the place
abbrev pub is_sign : ℕ → Lexeme → Bool
is_sign n (lex.Sign place) = nat_eq place n
is_sign n _ = false

-- the reserved word of the place, however it is written
abbrev pub is_word : ℕ → Lexeme → Bool
is_word n (lex.Word place written) = nat_eq place n
is_word n _ = false

-- a name
abbrev pub name_in : Lexeme → Option (List ℕ)
name_in (lex.Name text) = Some text
name_in _ = None

-- a name or a reserved word, as it is written
abbrev pub any_name_in : Lexeme → Option (List ℕ)
any_name_in (lex.Name text) = Some text
any_name_in (lex.Word place written) = Some written
any_name_in _ = None

-- the lexemes behind one that passes the test
abbrev pub after : (Lexeme → Bool) → List Lexeme → Option (List Lexeme)
after test [] = None
after test (t ∷ ts) = cond (test t) (Some ts) None

-- something read before these lexemes
abbrev pub before : {O : Type 0} → List Lexeme → O → Option (O × List Lexeme)
before ts o = Some (o, ts)

-- what the lexeme at the front is: an operator, a name
abbrev pub op_at : {O : Type 0} → (Lexeme → Option O) → Reader O
op_at op [] = None
op_at op (t ∷ ts) = op t >>= before ts

-- an operator and its operand
abbrev pub step : {A O C : Type 0} → (Lexeme → Option O) → Reader A → (O → A → C) → List Lexeme → Option (C × List Lexeme)
step op item make [] = None
step op item make (t ∷ ts) = op t >>= λ o. item ts >>= λ x. Some (make o x.0, x.1)

-- a step, if there is one, and then more
abbrev pub with_step : {C : Type 0} → List Lexeme → Option (C × List Lexeme) → (List Lexeme → List C × List Lexeme) → List C × List Lexeme
with_step ts None more = ([], ts)
with_step ts (Some x) more = (x.0 ∷ (more x.1).0, (more x.1).1)

-- {step}*, at most n of them
unfoldable pub many : {C : Type 0} → Reader C → ℕ → List Lexeme → List C × List Lexeme
many step zero ts = ([], ts)
many step (suc n) ts = with_step ts (step ts) (many step n)

-- item {step}*, as far as it goes
unfoldable pub sequence : {A C B : Type 0} → Reader A → Reader C → (A → List C → B) → Reader B
sequence item step build ts = item ts >>= λ x. Some (build x.0 (many step (length x.1) x.1).0, (many step (length x.1) x.1).1)

-- item {operator item}*
abbrev pub chain : {A O C B : Type 0} → (Lexeme → Option O) → Reader A → (O → A → C) → (A → List C → B) → Reader B
chain op item make build = sequence item (step op item make) build

-- the item behind an operator, or the whole as an item
abbrev pub prefixed : {A O : Type 0} → (O → A → A) → Reader A → List Lexeme → Option (O × List Lexeme) → Option (A × List Lexeme)
prefixed build item whole None = item whole
prefixed build item whole (Some o) = item o.1 >>= λ x. Some (build o.0 x.0, x.1)

-- [operator] item
unfoldable pub prefix : {A O : Type 0} → (Lexeme → Option O) → (O → A → A) → Reader A → Reader A
prefix op build item ts = prefixed build item ts (op_at op ts)

-- the item with the ending that stands behind it, if one does
abbrev pub with_ending : {A C : Type 0} → (A → C → A) → A → List Lexeme → Option (C × List Lexeme) → A × List Lexeme
with_ending build x ts None = (x, ts)
with_ending build x ts (Some e) = (build x e.0, e.1)

-- item [ending]
unfoldable pub suffix : {A C : Type 0} → Reader C → (A → C → A) → Reader A → Reader A
suffix ending build item ts = item ts >>= λ x. Some (with_ending build x.0 x.1 (ending x.1))

-- an item alone, or a node of it and its steps
abbrev pub one_or : {A C : Type 0} → (A → List C → A) → A → List C → A
one_or node x [] = x
one_or node x (c ∷ cs) = node x (c ∷ cs)

-- the item that was read, or nothing
abbrev pub opted : {A : Type 0} → List Lexeme → Option (A × List Lexeme) → Option A × List Lexeme
opted ts None = (None, ts)
opted ts (Some x) = (Some x.0, x.1)

-- [item]
unfoldable pub maybe : {A : Type 0} → Reader A → Reader (Option A)
maybe item ts = Some (opted ts (item ts))

-- the first where it can be read, else the second
abbrev pub chosen : {X : Type 0} → Option X → Option X → Option X
chosen None q = q
chosen (Some x) q = Some x

-- one of two
unfoldable pub either : {A : Type 0} → Reader A → Reader A → Reader A
either p q ts = chosen (p ts) (q ts)
