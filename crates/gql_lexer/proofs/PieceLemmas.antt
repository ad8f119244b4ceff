-- Pieces: where no `;` stands, nothing ends a piece.
use Rattle.std.proofs.Common.{◌≡◌, ◌≢◌, ℕ, zero, suc, ◌+◌, ◌-◌, ◌<◌, ◌≤◌, Bool, true, false, cond, List, [], ◌∷◌, ◌++◌, length, take, drop, get_or, refl, sym, ap, ◌∙◌, arith, nat_lt, drop-drop, length-drop}
use Rattle.std.proofs.lemmas.Bool.Decides.{nat_tests}
use Rattle.std.proofs.lemmas.List.{drop_all, get_or-drop, take-append-drop}
use Rattle.gql_lexer.specs.declared.front.Shape.{Shape}
use Rattle.gql_lexer.specs.declared.front.Shape.TheVariants.{Gap, Plain, Ticked, Quoted, Digits, Dollar, Symbol, Bad}
use Rattle.gql_lexer.specs.declared.piece.Piece.{Piece}
use Rattle.gql_lexer.specs.Forms.{front}
use Rattle.gql_lexer.specs.Machinery.Shapes.{Tells}
use Rattle.gql_lexer.specs.Pieces.{is_end, piece, with_bytes, pieces_of, NoEndFrom}
use Rattle.gql_lexer.proofs.FormLemmas.{front-fits}
use Rattle.gql_lexer.proofs.SpanLemmas.{pieces-of-step, with_bytes-twice, pieces_at}

-- the symbol that ends a piece is `;`
end-bytes : (shape : Shape) (bytes : List ℕ) → is_end shape ≡ true → Tells shape bytes → bytes ≡ 59 ∷ []
end-bytes Gap bytes e t = cc
end-bytes Plain bytes e t = cc
end-bytes Ticked bytes e t = cc
end-bytes Quoted bytes e t = cc
end-bytes Digits bytes e t = cc
end-bytes Dollar bytes e t = cc
end-bytes (Symbol place) bytes e t = t e
end-bytes Bad bytes e t = cc

first-taken : (n : ℕ) (bs : List ℕ) → take n bs ≡ 59 ∷ [] → get_or bs 0 0 ≡ 59
first-taken zero bs h = cc
first-taken (suc n) [] h = cc
first-taken (suc n) (b ∷ bs) h = ap (λ ys. get_or ys 0 0) h

-- a form whose first byte is no `;` ends no piece
no-end : (bs : List ℕ) → 0 < length bs → get_or bs 0 0 ≢ 59 → is_end (front bs).shape ≡ false
no-end bs h other = by (is_end (front bs).shape) refl
  where
    by : (b : Bool) → is_end (front bs).shape ≡ b → is_end (front bs).shape ≡ false
    by false e = e
    by true e = absurd (other (first-taken (front bs).size bs (end-bytes (front bs).shape (take (front bs).size bs) e (front-fits bs h).tells)))

-- one form, and what is known of the bytes behind it
quiet-step : (at : ℕ) (bs : List ℕ) → at < length bs → NoEndFrom at bs
    → ((m : ℕ) → 1 ≤ m → pieces_of (drop (at + m) bs) ≡ with_bytes (drop (at + m) bs) []) → pieces_of (drop at bs) ≡ with_bytes (drop at bs) []
quiet-step at bs l n behind =
    let ds = drop at bs in
    let m = (front ds).size in
    let some : 0 < length ds = omega (arith, length-drop at bs) in
    let fits = front-fits ds some in
    let same : at + 0 ≡ at = omega arith in
    let first : get_or ds 0 0 ≢ 59 = λ e. n at (omega arith) l (sym (get_or-drop at bs 0 0 ∙ ap (λ k. get_or bs k 0) same) ∙ e) in
    let one : pieces_of ds ≡ with_bytes (take m ds) (pieces_of (drop m ds)) =
    pieces-of-step ds some fits.some ∙ ap (λ b. cond b (piece [] true ∷ pieces_of (drop m ds)) (with_bytes (take m ds) (pieces_of (drop m ds)))) (no-end ds some first) in
    let two : pieces_of (drop m ds) ≡ with_bytes (drop m ds) [] =
    ap pieces_of (drop-drop m at bs) ∙ behind m fits.some ∙ ap (λ t. with_bytes t []) (sym (drop-drop m at bs)) in
    one ∙ ap (with_bytes (take m ds)) two ∙ with_bytes-twice (take m ds) (drop m ds) [] ∙ ap (λ t. with_bytes t []) (take-append-drop m ds)

-- so all the bytes from there on are of one piece
quiet : (fuel at : ℕ) (bs : List ℕ) → length bs ≤ at + fuel → NoEndFrom at bs → pieces_of (drop at bs) ≡ with_bytes (drop at bs) []
quiet zero at bs h n = let e = drop_all at bs (omega arith) in rw e refl
quiet (suc fuel) at bs h n = by (nat_lt at (length bs)) refl (λ m p. quiet fuel (at + m) bs (omega arith) (λ k g. n k (omega arith)))
  where
    by : (b : Bool) → nat_lt at (length bs) ≡ b
        → ((m : ℕ) → 1 ≤ m → pieces_of (drop (at + m) bs) ≡ with_bytes (drop (at + m) bs) []) → pieces_of (drop at bs) ≡ with_bytes (drop at bs) []
    by true e behind = quiet-step at bs (grind (arith, nat_tests)) n behind
    by false e behind = let d = drop_all at bs (grind (arith, nat_tests)) in rw d refl

pieces-quiet : (at : ℕ) (bs : List ℕ) → NoEndFrom at bs → pieces_of (drop at bs) ≡ with_bytes (drop at bs) []
pieces-quiet at bs n = quiet (length bs) at bs (omega arith) n

rest-of-range : (bs : List ℕ) (start at : ℕ) → start ≤ at → take (at - start) (drop start bs) ++ drop at bs ≡ drop start bs
rest-of-range bs start at h =
    let k = at - start in
    let f : start + k ≡ at = omega arith in
    ap (λ t. take k (drop start bs) ++ t) (sym (drop-drop k start bs ∙ ap (λ m. drop m bs) f)) ∙ take-append-drop k (drop start bs)

-- what stands behind the last cut is the last piece, or none where it is empty
pieces-last : (bs : List ℕ) (start at : ℕ) → start ≤ at → NoEndFrom at bs → pieces_at bs start at ≡ with_bytes (drop start bs) []
pieces-last bs start at h n =
    ap (with_bytes (take (at - start) (drop start bs))) (pieces-quiet at bs n)
    ∙ with_bytes-twice (take (at - start) (drop start bs)) (drop at bs) []
    ∙ ap (λ t. with_bytes t []) (rest-of-range bs start at h)

append-nil : (ps : List Piece) → ps ++ [] ≡ ps
append-nil [] = refl
append-nil (p ∷ ps) = ap (λ qs. p ∷ qs) (append-nil ps)

one-piece : (bs : List ℕ) → 0 < length bs → with_bytes bs [] ≡ piece bs false ∷ []
one-piece [] h = absurd (omega arith)
one-piece (b ∷ bs) h = refl

pub last-piece : (all : List Piece) (bs : List ℕ) (start at : ℕ) → start ≤ at → NoEndFrom at bs → start < length bs
    → all ++ piece (drop start bs) false ∷ [] ≡ all ++ pieces_at bs start at
last-piece all bs start at h n l =
    let some : 0 < length (drop start bs) = omega (arith, length-drop start bs) in
    ap (λ ps. all ++ ps) (sym (pieces-last bs start at h n ∙ one-piece (drop start bs) some))

pub no-last_piece : (all : List Piece) (bs : List ℕ) (start at : ℕ) → start ≤ at → NoEndFrom at bs → length bs ≤ start
    → all ≡ all ++ pieces_at bs start at
no-last_piece all bs start at h n l =
    sym (append-nil all) ∙ ap (λ ps. all ++ ps) (sym (pieces-last bs start at h n ∙ ap (λ t. with_bytes t []) (drop_all start bs l)))
