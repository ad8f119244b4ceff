-- Lexemes: how reading goes on.
use Rattle.std.proofs.Common.{◌≡◌, ℕ, ◌+◌, ◌<◌, ◌≤◌, Bool, true, false, cond, List, [], ◌∷◌, ◌++◌, length, take, drop, Option, Some, None, refl, sym, ap, ◌∙◌, arith, subst, append_assoc, drop-drop, length-drop}
use Rattle.std.specs.Option.{option_map}
use Rattle.gql_lexer.specs.declared.front.Front.{Front}
use Rattle.gql_lexer.specs.declared.lexeme.Lexeme.{Lexeme}
use Rattle.gql_lexer.specs.Forms.{front}
use Rattle.gql_lexer.specs.Lexemes.{lexeme_of, is_gap, with_lexeme, lexemes_of_spans, lexemes_of}
use Rattle.gql_lexer.proofs.SpanLemmas.{spans-step}

-- the lexemes read so far, and those of the rest
abbrev pub behind : List Lexeme → Option (List Lexeme) → Option (List Lexeme)
behind all o = option_map (λ ls. all ++ ls) o

lexemes-step : (bs : List ℕ) → 0 < length bs → 1 ≤ (front bs).size
    → lexemes_of bs ≡ cond (is_gap (front bs).shape) (lexemes_of (drop (front bs).size bs)) (with_lexeme (lexeme_of (front bs).shape (take (front bs).size bs)) (lexemes_of (drop (front bs).size bs)))
lexemes-step bs h p = ap lexemes_of_spans (spans-step bs h p)

here : (bs : List ℕ) (at : ℕ) → at < length bs → 0 < length (drop at bs)
here bs at h = omega (arith, length-drop at bs)

step-by : (bs : List ℕ) (f : Front) (b : Bool) → 0 < length bs → f ≡ front bs → 1 ≤ f.size → is_gap f.shape ≡ b
    → lexemes_of bs ≡ cond b (lexemes_of (drop f.size bs)) (with_lexeme (lexeme_of f.shape (take f.size bs)) (lexemes_of (drop f.size bs)))
step-by bs f b h e p g =
    let P : Front → Type 0 = λ f. 1 ≤ f.size → is_gap f.shape ≡ b → lexemes_of bs ≡ cond b (lexemes_of (drop f.size bs)) (with_lexeme (lexeme_of f.shape (take f.size bs)) (lexemes_of (drop f.size bs))) in
    let at_front : P (front bs) = λ p g. lexemes-step bs h p ∙ ap (λ b. cond b (lexemes_of (drop (front bs).size bs)) (with_lexeme (lexeme_of (front bs).shape (take (front bs).size bs)) (lexemes_of (drop (front bs).size bs)))) g in
    subst P (sym e) at_front p g

-- a gap
pub gap-on : (all : List Lexeme) (bs : List ℕ) (at : ℕ) (f : Front) → at < length bs → f ≡ front (drop at bs) → 1 ≤ f.size → is_gap f.shape ≡ true
    → behind all (lexemes_of (drop (at + f.size) bs)) ≡ behind all (lexemes_of (drop at bs))
gap-on all bs at f l e p g =
    ap (behind all) (sym (step-by (drop at bs) f true (here bs at l) e p g ∙ ap lexemes_of (drop-drop f.size at bs)))

with-behind : (all after : List Lexeme) (o : Option Lexeme) (more : Option (List Lexeme)) → option_map (λ x. all ++ x ∷ []) o ≡ Some after
    → behind after more ≡ behind all (with_lexeme o more)
with-behind all after None more e = cc
with-behind all after (Some l) None e = refl
with-behind all after (Some l) (Some ls) e =
    let same : all ++ l ∷ [] ≡ after = cc in ap (λ a. Some (a ++ ls)) (sym same) ∙ ap Some (append_assoc all (l ∷ []) ls)

-- a lexeme
pub lexeme-on : (all after : List Lexeme) (bs : List ℕ) (at : ℕ) (f : Front) → at < length bs → f ≡ front (drop at bs) → 1 ≤ f.size → is_gap f.shape ≡ false
    → option_map (λ x. all ++ x ∷ []) (lexeme_of f.shape (take f.size (drop at bs))) ≡ Some after
    → behind after (lexemes_of (drop (at + f.size) bs)) ≡ behind all (lexemes_of (drop at bs))
lexeme-on all after bs at f l e p g added =
    ap (behind after) (ap lexemes_of (sym (drop-drop f.size at bs)))
    ∙ with-behind all after (lexeme_of f.shape (take f.size (drop at bs))) (lexemes_of (drop f.size (drop at bs))) added
    ∙ ap (behind all) (sym (step-by (drop at bs) f false (here bs at l) e p g))
