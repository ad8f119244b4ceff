-- Spans and pieces: how the cut goes on.
use Rattle.std.proofs.Common.{◌≡◌, ℕ, zero, suc, ◌+◌, ◌-◌, ◌<◌, ◌≤◌, true, false, cond, List, [], ◌∷◌, ◌++◌, length, take, drop, refl, sym, ap, ◌∙◌, arith, append_assoc, drop-drop, length-drop}
use Rattle.std.proofs.lemmas.List.{take-take, take-append-drop, drop-take}
use Rattle.gql_lexer.specs.declared.front.Front.{Front}
use Rattle.gql_lexer.specs.declared.piece.Piece.{Piece}
use Rattle.gql_lexer.specs.Forms.{front}
use Rattle.gql_lexer.specs.Spans.{first_span, spans_from, spans}
use Rattle.gql_lexer.specs.Pieces.{is_end, piece, with_bytes, pieces_of_spans, pieces_of}

-- the bytes that belong to the form before are dropped
spans_from-drop : (n : ℕ) (bs : List ℕ) → spans_from n bs ≡ spans_from 0 (drop n bs)
spans_from-drop zero bs = refl
spans_from-drop (suc n) [] = refl
spans_from-drop (suc n) (b ∷ bs) = spans_from-drop n bs

rest-of : (n b : ℕ) (bs : List ℕ) → 1 ≤ n → drop (n - 1) bs ≡ drop n (b ∷ bs)
rest-of zero b bs h = absurd (omega arith)
rest-of (suc n) b bs h = let e : suc n - 1 ≡ n = omega arith in ap (λ m. drop m bs) e

-- the form at the front, and those behind it
pub spans-step : (bs : List ℕ) → 0 < length bs → 1 ≤ (front bs).size → spans bs ≡ first_span bs ∷ spans (drop (front bs).size bs)
spans-step [] h p = absurd (omega arith)
spans-step (b ∷ bs) h p =
    ap (λ ss. first_span (b ∷ bs) ∷ ss) (spans_from-drop ((front (b ∷ bs)).size - 1) bs ∙ ap spans (rest-of (front (b ∷ bs)).size b bs p))

append-nil : (xs : List ℕ) → xs ++ [] ≡ xs
append-nil [] = refl
append-nil (x ∷ xs) = ap (λ ys. x ∷ ys) (append-nil xs)

pub with_bytes-twice : (xs ys : List ℕ) (ps : List Piece) → with_bytes xs (with_bytes ys ps) ≡ with_bytes (xs ++ ys) ps
with_bytes-twice [] ys ps = refl
with_bytes-twice (x ∷ xs) [] ps = ap (λ t. with_bytes (x ∷ t) ps) (sym (append-nil xs))
with_bytes-twice (x ∷ xs) (y ∷ ys) [] = refl
with_bytes-twice (x ∷ xs) (y ∷ ys) (p ∷ ps) = ap (λ t. piece (x ∷ t) p.ended ∷ ps) (sym (append_assoc xs (y ∷ ys) p.bytes))

with_bytes-end : (xs : List ℕ) (ps : List Piece) → with_bytes xs (piece [] true ∷ ps) ≡ piece xs true ∷ ps
with_bytes-end [] ps = refl
with_bytes-end (x ∷ xs) ps = ap (λ t. piece (x ∷ t) true ∷ ps) (append-nil xs)

range-more : (bs : List ℕ) (start at n : ℕ) → start ≤ at → take (at - start) (drop start bs) ++ take n (drop at bs) ≡ take (at + n - start) (drop start bs)
range-more bs start at n h =
    let k = at - start in
    let xs = drop start bs in
    let e : at + n - start ≡ k + n = omega arith in
    let f : start + k ≡ at = omega arith in
    let same : drop k xs ≡ drop at bs = drop-drop k start bs ∙ ap (λ m. drop m bs) f in
    ap (λ t. take k xs ++ take n t) (sym same)
    ∙ ap (λ t. take k xs ++ t) (sym (drop-take k n xs))
    ∙ ap (λ t. t ++ drop k (take (k + n) xs)) (sym (take-take k (k + n) xs (omega arith)))
    ∙ take-append-drop k (take (k + n) xs)
    ∙ ap (λ m. take m xs) (sym e)

-- what stands between, and the pieces of what follows
abbrev pub pieces_at : List ℕ → ℕ → ℕ → List Piece
pieces_at bs start at = with_bytes (take (at - start) (drop start bs)) (pieces_of (drop at bs))

pub pieces-of-step : (bs : List ℕ) → 0 < length bs → 1 ≤ (front bs).size
    → pieces_of bs ≡ cond (is_end (front bs).shape) (piece [] true ∷ pieces_of (drop (front bs).size bs)) (with_bytes (take (front bs).size bs) (pieces_of (drop (front bs).size bs)))
pieces-of-step bs h p = ap pieces_of_spans (spans-step bs h p)

here : (bs : List ℕ) (at : ℕ) → at < length bs → 0 < length (drop at bs)
here bs at h = omega (arith, length-drop at bs)

-- a form that ends no piece
pieces-on : (bs : List ℕ) (start at n : ℕ) → start ≤ at → at < length bs → n ≡ (front (drop at bs)).size → 1 ≤ n → is_end (front (drop at bs)).shape ≡ false
    → pieces_at bs start (at + n) ≡ pieces_at bs start at
pieces-on bs start at n h l s p e =
    let ds = drop at bs in
    let q : 1 ≤ (front ds).size = omega arith in
    let m = (front ds).size in
    let xs = take (at - start) (drop start bs) in
    let one : pieces_of ds ≡ with_bytes (take m ds) (pieces_of (drop m ds)) =
    pieces-of-step ds (here bs at l) q ∙ ap (λ b. cond b (piece [] true ∷ pieces_of (drop m ds)) (with_bytes (take m ds) (pieces_of (drop m ds)))) e in
    let all : pieces_at bs start at ≡ pieces_at bs start (at + m) =
    ap (with_bytes xs) one ∙ with_bytes-twice xs (take m ds) (pieces_of (drop m ds))
    ∙ ap (λ t. with_bytes t (pieces_of (drop m ds))) (range-more bs start at m h)
    ∙ ap (λ t. with_bytes (take (at + m - start) (drop start bs)) (pieces_of t)) (drop-drop m at bs) in
    ap (λ k. pieces_at bs start (at + k)) s ∙ sym all

empty-range : (bs : List ℕ) (at : ℕ) → pieces_of (drop at bs) ≡ pieces_at bs at at
empty-range bs at = let e : 0 ≡ at - at = omega arith in ap (λ k. with_bytes (take k (drop at bs)) (pieces_of (drop at bs))) e

-- a form that ends a piece
pieces-cut : (all : List Piece) (bs : List ℕ) (start at n : ℕ) → at < length bs → n ≡ (front (drop at bs)).size → 1 ≤ n → is_end (front (drop at bs)).shape ≡ true
    → (all ++ piece (take (at - start) (drop start bs)) true ∷ []) ++ pieces_at bs (at + n) (at + n) ≡ all ++ pieces_at bs start at
pieces-cut all bs start at n l s p e =
    let ds = drop at bs in
    let q : 1 ≤ (front ds).size = omega arith in
    let m = (front ds).size in
    let xs = take (at - start) (drop start bs) in
    let one : pieces_of ds ≡ piece [] true ∷ pieces_of (drop m ds) =
    pieces-of-step ds (here bs at l) q ∙ ap (λ b. cond b (piece [] true ∷ pieces_of (drop m ds)) (with_bytes (take m ds) (pieces_of (drop m ds)))) e in
    let two : pieces_at bs start at ≡ piece xs true ∷ pieces_at bs (at + m) (at + m) =
    ap (with_bytes xs) one ∙ with_bytes-end xs (pieces_of (drop m ds)) ∙ ap (λ t. piece xs true ∷ pieces_of t) (drop-drop m at bs) ∙ ap (λ t. piece xs true ∷ t) (empty-range bs (at + m)) in
    append_assoc all (piece xs true ∷ []) (pieces_at bs (at + n) (at + n))
    ∙ ap (λ k. all ++ piece xs true ∷ pieces_at bs (at + k) (at + k)) s
    ∙ ap (λ t. all ++ t) (sym two)

-- the same, of the form that was found
pub found-on : (bs : List ℕ) (start at : ℕ) (f : Front) → start ≤ at → at < length bs → f ≡ front (drop at bs) → 1 ≤ f.size → is_end f.shape ≡ false
    → pieces_at bs start (at + f.size) ≡ pieces_at bs start at
found-on bs start at f h l e p ends =
    pieces-on bs start at f.size h l (ap (λ (g : Front). g.size) e) p (sym (ap (λ (g : Front). is_end g.shape) e) ∙ ends)

pub found-cut : (all : List Piece) (bs : List ℕ) (start at : ℕ) (f : Front) → at < length bs → f ≡ front (drop at bs) → 1 ≤ f.size → is_end f.shape ≡ true
    → (all ++ piece (take (at - start) (drop start bs)) true ∷ []) ++ pieces_at bs (at + f.size) (at + f.size) ≡ all ++ pieces_at bs start at
found-cut all bs start at f l e p ends =
    pieces-cut all bs start at f.size l (ap (λ (g : Front). g.size) e) p (sym (ap (λ (g : Front). is_end g.shape) e) ∙ ends)
