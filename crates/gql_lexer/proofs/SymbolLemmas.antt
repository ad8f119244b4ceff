-- The symbols that begin with a byte with which others begin too.
use Rattle.std.proofs.Common.{◌≡◌, ◌≢◌, ℕ, ◌<◌, ◌==◌, false, List, [], ◌∷◌, length, get_or, refl, sym, arith}
use Rattle.std.proofs.lemmas.Bool.{ne_eqb}
use Rattle.gql_lexer.specs.SymbolPlaces as symbol
use Rattle.gql_lexer.specs.declared.front.Shape.TheVariants.{Symbol}
use Rattle.gql_lexer.specs.Forms.{form, front, symbols}
use Rattle.gql_lexer.proofs.FrontLemmas.{no-name}

other : (x b : ℕ) → b ≢ x → (x == b) ≡ false
other x b n = ne_eqb x b (λ e. n (sym e))

-- a byte that is not NUL stands there
pub stands : (bs : List ℕ) (b : ℕ) → get_or bs 1 0 ≡ b → 0 < b → 1 < length bs
stands [] b e h = absurd (omega (arith, e))
stands (x ∷ []) b e h = absurd (omega (arith, e))
stands (x ∷ y ∷ bs) b e h = omega arith

-- with `<`
pub less-minus-greater : (bs : List ℕ) → 0 < length bs → get_or bs 0 0 ≡ 60 → get_or bs 1 0 ≡ 45 → get_or bs 2 0 ≡ 62 → form (Symbol symbol.left_right_arrow) 3 ≡ front bs
unfolding front symbols
less-minus-greater [] h p q1 q2 = absurd (omega arith)
less-minus-greater (a ∷ []) h p q1 q2 = absurd (omega (arith, q2))
less-minus-greater (a ∷ b ∷ []) h p q1 q2 = absurd (omega (arith, q2))
less-minus-greater (a ∷ b ∷ c ∷ bs) h p q1 q2 = rw (p, q1, q2, no-name 60 (45 ∷ 62 ∷ bs) refl) refl

pub less-minus : (bs : List ℕ) → 0 < length bs → get_or bs 0 0 ≡ 60 → get_or bs 1 0 ≡ 45 → get_or bs 2 0 ≢ 62 → form (Symbol symbol.left_arrow) 2 ≡ front bs
unfolding front symbols
less-minus [] h p q1 n62 = absurd (omega arith)
less-minus (a ∷ []) h p q1 n62 = absurd (omega (arith, q1))
less-minus (a ∷ b ∷ []) h p q1 n62 = rw (p, q1, no-name 60 (45 ∷ []) refl) refl
less-minus (a ∷ b ∷ c ∷ bs) h p q1 n62 = rw (p, q1, no-name 60 (45 ∷ c ∷ bs) refl, other 62 c n62) refl

pub less-tilde : (bs : List ℕ) → 0 < length bs → get_or bs 0 0 ≡ 60 → get_or bs 1 0 ≡ 126 → form (Symbol symbol.left_tilde) 2 ≡ front bs
unfolding front symbols
less-tilde [] h p q1 = absurd (omega arith)
less-tilde (a ∷ []) h p q1 = absurd (omega (arith, q1))
less-tilde (a ∷ b ∷ bs) h p q1 = rw (p, q1, no-name 60 (126 ∷ bs) refl) refl

pub less-greater : (bs : List ℕ) → 0 < length bs → get_or bs 0 0 ≡ 60 → get_or bs 1 0 ≡ 62 → form (Symbol symbol.not_equal) 2 ≡ front bs
unfolding front symbols
less-greater [] h p q1 = absurd (omega arith)
less-greater (a ∷ []) h p q1 = absurd (omega (arith, q1))
less-greater (a ∷ b ∷ bs) h p q1 = rw (p, q1, no-name 60 (62 ∷ bs) refl) refl

pub less-equals : (bs : List ℕ) → 0 < length bs → get_or bs 0 0 ≡ 60 → get_or bs 1 0 ≡ 61 → form (Symbol symbol.less_or_equal) 2 ≡ front bs
unfolding front symbols
less-equals [] h p q1 = absurd (omega arith)
less-equals (a ∷ []) h p q1 = absurd (omega (arith, q1))
less-equals (a ∷ b ∷ bs) h p q1 = rw (p, q1, no-name 60 (61 ∷ bs) refl) refl

pub less-alone : (bs : List ℕ) → 0 < length bs → get_or bs 0 0 ≡ 60 → get_or bs 1 0 ≢ 45 → get_or bs 1 0 ≢ 126 → get_or bs 1 0 ≢ 62 → get_or bs 1 0 ≢ 61 → form (Symbol symbol.less) 1 ≡ front bs
unfolding front symbols
less-alone [] h p n45 n126 n62 n61 = absurd (omega arith)
less-alone (a ∷ []) h p n45 n126 n62 n61 = rw (p, no-name 60 [] refl) refl
less-alone (a ∷ b ∷ bs) h p n45 n126 n62 n61 = rw (p, no-name 60 (b ∷ bs) refl, other 45 b n45, other 126 b n126, other 62 b n62, other 61 b n61) refl

-- with `>`
pub greater-equals : (bs : List ℕ) → 0 < length bs → get_or bs 0 0 ≡ 62 → get_or bs 1 0 ≡ 61 → form (Symbol symbol.greater_or_equal) 2 ≡ front bs
unfolding front symbols
greater-equals [] h p q1 = absurd (omega arith)
greater-equals (a ∷ []) h p q1 = absurd (omega (arith, q1))
greater-equals (a ∷ b ∷ bs) h p q1 = rw (p, q1, no-name 62 (61 ∷ bs) refl) refl

pub greater-alone : (bs : List ℕ) → 0 < length bs → get_or bs 0 0 ≡ 62 → get_or bs 1 0 ≢ 61 → form (Symbol symbol.greater) 1 ≡ front bs
unfolding front symbols
greater-alone [] h p n61 = absurd (omega arith)
greater-alone (a ∷ []) h p n61 = rw (p, no-name 62 [] refl) refl
greater-alone (a ∷ b ∷ bs) h p n61 = rw (p, no-name 62 (b ∷ bs) refl, other 61 b n61) refl

-- with `~`
pub tilde-greater : (bs : List ℕ) → 0 < length bs → get_or bs 0 0 ≡ 126 → get_or bs 1 0 ≡ 62 → form (Symbol symbol.right_tilde) 2 ≡ front bs
unfolding front symbols
tilde-greater [] h p q1 = absurd (omega arith)
tilde-greater (a ∷ []) h p q1 = absurd (omega (arith, q1))
tilde-greater (a ∷ b ∷ bs) h p q1 = rw (p, q1, no-name 126 (62 ∷ bs) refl) refl

pub tilde-alone : (bs : List ℕ) → 0 < length bs → get_or bs 0 0 ≡ 126 → get_or bs 1 0 ≢ 62 → form (Symbol symbol.tilde) 1 ≡ front bs
unfolding front symbols
tilde-alone [] h p n62 = absurd (omega arith)
tilde-alone (a ∷ []) h p n62 = rw (p, no-name 126 [] refl) refl
tilde-alone (a ∷ b ∷ bs) h p n62 = rw (p, no-name 126 (b ∷ bs) refl, other 62 b n62) refl

-- with `:`
pub colon-colon : (bs : List ℕ) → 0 < length bs → get_or bs 0 0 ≡ 58 → get_or bs 1 0 ≡ 58 → form (Symbol symbol.double_colon) 2 ≡ front bs
unfolding front symbols
colon-colon [] h p q1 = absurd (omega arith)
colon-colon (a ∷ []) h p q1 = absurd (omega (arith, q1))
colon-colon (a ∷ b ∷ bs) h p q1 = rw (p, q1, no-name 58 (58 ∷ bs) refl) refl

pub colon-alone : (bs : List ℕ) → 0 < length bs → get_or bs 0 0 ≡ 58 → get_or bs 1 0 ≢ 58 → form (Symbol symbol.colon) 1 ≡ front bs
unfolding front symbols
colon-alone [] h p n58 = absurd (omega arith)
colon-alone (a ∷ []) h p n58 = rw (p, no-name 58 [] refl) refl
colon-alone (a ∷ b ∷ bs) h p n58 = rw (p, no-name 58 (b ∷ bs) refl, other 58 b n58) refl

-- with `|`
pub bar-bar : (bs : List ℕ) → 0 < length bs → get_or bs 0 0 ≡ 124 → get_or bs 1 0 ≡ 124 → form (Symbol symbol.double_bar) 2 ≡ front bs
unfolding front symbols
bar-bar [] h p q1 = absurd (omega arith)
bar-bar (a ∷ []) h p q1 = absurd (omega (arith, q1))
bar-bar (a ∷ b ∷ bs) h p q1 = rw (p, q1, no-name 124 (124 ∷ bs) refl) refl

pub bar-plus-bar : (bs : List ℕ) → 0 < length bs → get_or bs 0 0 ≡ 124 → get_or bs 1 0 ≡ 43 → get_or bs 2 0 ≡ 124 → form (Symbol symbol.multiset_bar) 3 ≡ front bs
unfolding front symbols
bar-plus-bar [] h p q1 q2 = absurd (omega arith)
bar-plus-bar (a ∷ []) h p q1 q2 = absurd (omega (arith, q2))
bar-plus-bar (a ∷ b ∷ []) h p q1 q2 = absurd (omega (arith, q2))
bar-plus-bar (a ∷ b ∷ c ∷ bs) h p q1 q2 = rw (p, q1, q2, no-name 124 (43 ∷ 124 ∷ bs) refl) refl

pub bar-plus : (bs : List ℕ) → 0 < length bs → get_or bs 0 0 ≡ 124 → get_or bs 1 0 ≡ 43 → get_or bs 2 0 ≢ 124 → form (Symbol symbol.bar) 1 ≡ front bs
unfolding front symbols
bar-plus [] h p q1 n124 = absurd (omega arith)
bar-plus (a ∷ []) h p q1 n124 = absurd (omega (arith, q1))
bar-plus (a ∷ b ∷ []) h p q1 n124 = rw (p, q1, no-name 124 (43 ∷ []) refl) refl
bar-plus (a ∷ b ∷ c ∷ bs) h p q1 n124 = rw (p, q1, no-name 124 (43 ∷ c ∷ bs) refl, other 124 c n124) refl

pub bar-alone : (bs : List ℕ) → 0 < length bs → get_or bs 0 0 ≡ 124 → get_or bs 1 0 ≢ 124 → get_or bs 1 0 ≢ 43 → form (Symbol symbol.bar) 1 ≡ front bs
unfolding front symbols
bar-alone [] h p n124 n43 = absurd (omega arith)
bar-alone (a ∷ []) h p n124 n43 = rw (p, no-name 124 [] refl) refl
bar-alone (a ∷ b ∷ bs) h p n124 n43 = rw (p, no-name 124 (b ∷ bs) refl, other 124 b n124, other 43 b n43) refl

-- with `-`, where no comment begins
pub minus-greater : (bs : List ℕ) → 0 < length bs → get_or bs 0 0 ≡ 45 → get_or bs 1 0 ≡ 62 → form (Symbol symbol.right_arrow) 2 ≡ front bs
unfolding front symbols
minus-greater [] h p q1 = absurd (omega arith)
minus-greater (a ∷ []) h p q1 = absurd (omega (arith, q1))
minus-greater (a ∷ b ∷ bs) h p q1 = rw (p, q1, no-name 45 (62 ∷ bs) refl) refl

pub minus-alone : (bs : List ℕ) → 0 < length bs → get_or bs 0 0 ≡ 45 → get_or bs 1 0 ≢ 45 → get_or bs 1 0 ≢ 62 → form (Symbol symbol.minus) 1 ≡ front bs
unfolding front symbols
minus-alone [] h p n45 n62 = absurd (omega arith)
minus-alone (a ∷ []) h p n45 n62 = rw (p, no-name 45 [] refl) refl
minus-alone (a ∷ b ∷ bs) h p n45 n62 = rw (p, no-name 45 (b ∷ bs) refl, other 45 b n45, other 62 b n62) refl

-- with `/`, where no comment begins
pub slash-alone : (bs : List ℕ) → 0 < length bs → get_or bs 0 0 ≡ 47 → get_or bs 1 0 ≢ 47 → get_or bs 1 0 ≢ 42 → form (Symbol symbol.slash) 1 ≡ front bs
unfolding front symbols
slash-alone [] h p n47 n42 = absurd (omega arith)
slash-alone (a ∷ []) h p n47 n42 = rw (p, no-name 47 [] refl) refl
slash-alone (a ∷ b ∷ bs) h p n47 n42 = rw (p, no-name 47 (b ∷ bs) refl, other 47 b n47, other 42 b n42) refl
