-- A piece has no more lexemes than bytes.
use Rattle.std.proofs.Common.{◌≡◌, ℕ, zero, suc, ◌-◌, ◌≤◌, Bool, true, false, cond, List, [], ◌∷◌, length, Option, Some, None, refl, ap, arith}
use Rattle.std.specs.Prelude.{unwrap_or}
use Rattle.gql_lexer.specs.declared.lexeme.Lexeme.{Lexeme}
use Rattle.gql_lexer.specs.Forms.{front}
use Rattle.gql_lexer.specs.Spans.{Span, spans_from, spans}
use Rattle.gql_lexer.specs.Lexemes.{is_gap, lexeme_of, with_lexeme, lexemes_of_spans, lexemes_of}

spans-few : (skip : ℕ) (bs : List ℕ) → length (spans_from skip bs) ≤ length bs
spans-few zero [] = omega arith
spans-few (suc skip) [] = omega arith
spans-few (suc skip) (b ∷ bs) = omega (arith, spans-few skip bs)
spans-few zero (b ∷ bs) = omega (arith, spans-few ((front (b ∷ bs)).size - 1) bs)

-- one span more, whatever it is
one_span : (b : Bool) (l : Option Lexeme) (r : Option (List Lexeme)) (n : ℕ) (ts : List Lexeme) → ((us : List Lexeme) → r ≡ Some us → length us ≤ n)
    → cond b r (with_lexeme l r) ≡ Some ts → length ts ≤ suc n
one_span true l r n ts few p = omega (arith, few ts p)
one_span false None r n ts few p = cc
one_span false (Some l) None n ts few p = cc
one_span false (Some l) (Some us) n ts few p =
    let same : suc (length us) ≡ length ts = ap (λ o. length (unwrap_or o [])) p in omega (arith, same, few us refl)

spans-lexemes : (ss : List Span) (ts : List Lexeme) → lexemes_of_spans ss ≡ Some ts → length ts ≤ length ss
spans-lexemes [] ts p = let same : 0 ≡ length ts = ap (λ o. length (unwrap_or o [])) p in omega (arith, same)
spans-lexemes (s ∷ ss) ts p = one_span (is_gap s.shape) (lexeme_of s.shape s.bytes) (lexemes_of_spans ss) (length ss) ts (λ us q. spans-lexemes ss us q) p

pub lexemes-few : (piece : List ℕ) (ts : List Lexeme) → lexemes_of piece ≡ Some ts → length ts ≤ length piece
lexemes-few piece ts p = omega (arith, spans-lexemes (spans piece) ts p, spans-few 0 piece)
