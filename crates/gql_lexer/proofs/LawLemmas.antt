-- The laws.
use Rattle.std.proofs.Common.{◌≡◌, ℕ, ◌+◌, ◌<◌, ◌≤◌, Bool, true, false, cond, ◌⊎◌, inl, inr, nat_lt, List, [], ◌∷◌, ◌++◌, length, take, drop, Option, Some, None, refl, sym, ap, ◌∙◌, arith, subst, append_assoc}
use Rattle.std.specs.Option.{option_map}
use Rattle.std.specs.List.{flat_map}
use Rattle.std.proofs.lemmas.Bool.Decides.{nat_tests}
use Rattle.std.proofs.lemmas.List.{take-append-drop, take_all, drop_all}
use Rattle.gql_lexer.specs.declared.front.Front.{Front}
use Rattle.gql_lexer.specs.declared.front.Shape.{Shape}
use Rattle.gql_lexer.specs.declared.front.Shape.TheVariants.{Gap, Plain, Ticked, Quoted, Digits, Dollar, Symbol, Bad}
use Rattle.gql_lexer.specs.declared.piece.Piece.{Piece}
use Rattle.gql_lexer.specs.Machinery.Shapes.{Tells}
use Rattle.gql_lexer.specs.Forms.{form, forms, front, longer, longest, closed}
use Rattle.gql_lexer.specs.Spans.{Span, first_span, spans}
use Rattle.gql_lexer.specs.Pieces.{is_end, piece, with_bytes, pieces_of}
use Rattle.gql_lexer.specs.Laws.{with_end, PiecesJoin, SpansJoin, EachForm, SomeForm, NoneIsLonger, IsAForm, AreBad, IsOpen, IsOpenBlock}
use Rattle.gql_lexer.proofs.FormLemmas.{front-fits, by-fronts}
use Rattle.gql_lexer.proofs.FrontLemmas.{front-39, front-34, front-96, front-block}
use Rattle.gql_lexer.proofs.SpanLemmas.{spans-step, pieces-of-step}

with_bytes-join : (xs : List ℕ) (ps : List Piece) → flat_map with_end (with_bytes xs ps) ≡ xs ++ flat_map with_end ps
with_bytes-join [] ps = refl
with_bytes-join (x ∷ xs) [] = append_assoc (x ∷ xs) [] []
with_bytes-join (x ∷ xs) (p ∷ ps) =
    let e = cond p.ended (59 ∷ []) [] in
    append_assoc ((x ∷ xs) ++ p.bytes) e (flat_map with_end ps) ∙ append_assoc (x ∷ xs) p.bytes (e ++ flat_map with_end ps)
    ∙ ap (λ t. (x ∷ xs) ++ t) (sym (append_assoc p.bytes e (flat_map with_end ps)))

pub end-bytes : (shape : Shape) (bytes : List ℕ) → is_end shape ≡ true → Tells shape bytes → bytes ≡ 59 ∷ []
end-bytes (Symbol place) bytes e t = t e
end-bytes Gap bytes e t = cc
end-bytes Plain bytes e t = cc
end-bytes Ticked bytes e t = cc
end-bytes Quoted bytes e t = cc
end-bytes Digits bytes e t = cc
end-bytes Dollar bytes e t = cc
end-bytes Bad bytes e t = cc

join-step : (bs : List ℕ) (b : Bool) → 0 < length bs → is_end (front bs).shape ≡ b → PiecesJoin (drop (front bs).size bs) → PiecesJoin bs
join-step bs true h e more =
    let n = (front bs).size in
    let fits = front-fits bs h in
    let rest = pieces_of (drop n bs) in
    ap (flat_map with_end) (pieces-of-step bs h fits.some ∙ ap (λ b. cond b (piece [] true ∷ rest) (with_bytes (take n bs) rest)) e)
    ∙ ap (λ t. 59 ∷ t) more ∙ ap (λ t. t ++ drop n bs) (sym (end-bytes (front bs).shape (take n bs) e fits.tells)) ∙ take-append-drop n bs
join-step bs false h e more =
    let n = (front bs).size in
    let fits = front-fits bs h in
    let rest = pieces_of (drop n bs) in
    ap (flat_map with_end) (pieces-of-step bs h fits.some ∙ ap (λ b. cond b (piece [] true ∷ rest) (with_bytes (take n bs) rest)) e)
    ∙ with_bytes-join (take n bs) rest ∙ ap (λ t. take n bs ++ t) more ∙ take-append-drop n bs

pub pieces-join : (bs : List ℕ) → PiecesJoin bs
pieces-join = by-fronts PiecesJoin refl (λ bs some more. join-step bs (is_end (front bs).shape) some refl more)

spans-join-step : (bs : List ℕ) → 0 < length bs → SpansJoin (drop (front bs).size bs) → SpansJoin bs
spans-join-step bs some more =
    let n = (front bs).size in
    ap (flat_map (λ (s : Span). s.bytes)) (spans-step bs some (front-fits bs some).some) ∙ ap (λ t. take n bs ++ t) more ∙ take-append-drop n bs

pub spans-join : (bs : List ℕ) → SpansJoin bs
spans-join = by-fronts SpansJoin refl spans-join-step

-- a bound that grows is a bound
pub each-more : (fs : List (Option Front)) (m n : ℕ) → m ≤ n → EachForm (λ f. f.size ≤ m) fs → EachForm (λ f. f.size ≤ n) fs
each-more [] m n h e = tt
each-more (None ∷ fs) m n h e = (tt, each-more fs m n h e.1)
each-more (Some f ∷ fs) m n h e = (omega (arith, e.0), each-more fs m n h e.1)

longer-bounds : (f g : Front) → (f.size ≤ (longer (Some f) g).size) × (g.size ≤ (longer (Some f) g).size)
longer-bounds f g = go (nat_lt f.size g.size) refl
  where
    go : (b : Bool) → nat_lt f.size g.size ≡ b → (f.size ≤ (cond b g f).size) × (g.size ≤ (cond b g f).size)
    go true e = (grind (arith, nat_tests), omega arith)
    go false e = (omega arith, grind (arith, nat_tests))

longest-bounds : (fs : List (Option Front)) (g : Front) → EachForm (λ f. f.size ≤ (longest fs g).size) fs
longest-bounds [] g = tt
longest-bounds (None ∷ fs) g = (tt, longest-bounds fs g)
longest-bounds (Some f ∷ fs) g =
    let b = longer-bounds f (longest fs g) in (b.0, each-more fs (longest fs g).size (longer (Some f) (longest fs g)).size b.1 (longest-bounds fs g))

pub none-longer : (bs : List ℕ) → NoneIsLonger bs
unfolding front
none-longer bs = longest-bounds (forms bs) (form Bad 1)

choice-is : (b : Bool) (f g : Front) → (cond b g f ≡ f) ⊎ (cond b g f ≡ g)
choice-is true f g = inr refl
choice-is false f g = inl refl

one-more : (fs : List (Option Front)) (o : Option Front) (g x y : Front) → y ≡ x → SomeForm (λ f. x ≡ f) fs ⊎ (x ≡ g) → SomeForm (λ f. y ≡ f) (o ∷ fs) ⊎ (y ≡ g)
one-more fs o g x y e h = let P : Front → Type 0 = λ y. SomeForm (λ f. y ≡ f) (o ∷ fs) ⊎ (y ≡ g) in subst P (sym e) (later h)
  where
    later : SomeForm (λ f. x ≡ f) fs ⊎ (x ≡ g) → SomeForm (λ f. x ≡ f) (o ∷ fs) ⊎ (x ≡ g)
    later (inl s) = inl (inr s)
    later (inr s) = inr s

chosen-is : (fs : List (Option Front)) (f g : Front) → SomeForm (λ x. longest fs g ≡ x) fs ⊎ (longest fs g ≡ g)
    → (longer (Some f) (longest fs g) ≡ f) ⊎ (longer (Some f) (longest fs g) ≡ longest fs g) → SomeForm (λ x. longer (Some f) (longest fs g) ≡ x) (Some f ∷ fs) ⊎ (longer (Some f) (longest fs g) ≡ g)
chosen-is fs f g more (inl e) = inl (inl e)
chosen-is fs f g more (inr e) = one-more fs (Some f) g (longest fs g) (longer (Some f) (longest fs g)) e more

longest-is : (fs : List (Option Front)) (g : Front) → SomeForm (λ f. longest fs g ≡ f) fs ⊎ (longest fs g ≡ g)
longest-is [] g = inr refl
longest-is (None ∷ fs) g = one-more fs None g (longest fs g) (longest fs g) refl (longest-is fs g)
longest-is (Some f ∷ fs) g = chosen-is fs f g (longest-is fs g) (choice-is (nat_lt f.size (longest fs g).size) f (longest fs g))

pub is-a-form : (bs : List ℕ) → IsAForm bs
unfolding front
is-a-form bs = longest-is (forms bs) (form Bad 1)

whole-bad : (bs : List ℕ) → 0 < length bs → front bs ≡ form Bad (length bs) → AreBad bs
whole-bad bs h e =
    let size : (front bs).size ≡ length bs = ap (λ (f : Front). f.size) e in
    let some : 1 ≤ (front bs).size = omega (arith, size) in
    let P : Front → Type 0 = λ f. first_span bs ∷ spans (drop (front bs).size bs) ≡ record { shape = f.shape; bytes = take f.size bs } ∷ spans (drop f.size bs) in
    spans-step bs h some ∙ subst P e refl
    ∙ ap (λ t. record { shape = Bad; bytes = t } ∷ spans (drop (length bs) bs)) (take_all (length bs) bs (omega arith))
    ∙ ap (λ t. record { shape = Bad; bytes = bs } ∷ spans t) (drop_all (length bs) bs (omega arith))

pub open-single : (bs : List ℕ) → IsOpen 39 bs → AreBad (39 ∷ bs)
open-single bs h = whole-bad (39 ∷ bs) (omega arith) (front-39 bs ∙ ap (λ o. closed Quoted (option_map (λ n. n + 2) o) (39 ∷ bs)) h)

pub open-double : (bs : List ℕ) → IsOpen 34 bs → AreBad (34 ∷ bs)
open-double bs h = whole-bad (34 ∷ bs) (omega arith) (front-34 bs ∙ ap (λ o. closed Quoted (option_map (λ n. n + 2) o) (34 ∷ bs)) h)

pub open-ticked : (bs : List ℕ) → IsOpen 96 bs → AreBad (96 ∷ bs)
open-ticked bs h = whole-bad (96 ∷ bs) (omega arith) (front-96 bs ∙ ap (λ o. closed Ticked (option_map (λ n. n + 2) o) (96 ∷ bs)) h)

pub open-block : (bs : List ℕ) → IsOpenBlock bs → AreBad (47 ∷ 42 ∷ bs)
open-block bs h = whole-bad (47 ∷ 42 ∷ bs) (omega arith) (front-block bs ∙ ap (λ o. closed Gap (option_map (λ n. n + 4) o) (47 ∷ 42 ∷ bs)) h)
