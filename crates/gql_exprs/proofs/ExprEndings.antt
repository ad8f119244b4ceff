-- What stands behind a comparison is read soundly and completely.
use Rattle.std.proofs.Common.{◌≡◌, ℕ, ◌≤◌, ◌⊎◌, inl, inr, Bool, true, false, cond, nat_eq, eqb-true, List, [], ◌∷◌, length, Option, Some, None, refl, sym, ap, subst, ◌∙◌, arith}
use Rattle.gql_lexer.specs.declared.lexeme.Lexeme.{Lexeme}
use Rattle.gql_lexer.specs.declared.lexeme.Lexeme.TheVariants as lex
use Rattle.gql_ast.specs.Label.{Label}
use Rattle.gql_ast.specs.declared.words.EdgeEnd.{EdgeEnd}
use Rattle.gql_ast.specs.declared.words.Sense.{Sense}
use Rattle.gql_ast.specs.declared.words.Sense.TheVariants as sense
use Rattle.gql_exprs.specs.declared.test_word.TestWord.{TestWord}
use Rattle.gql_exprs.specs.declared.test_word.TestWord.TheVariants as asked
use Rattle.gql_lexer.specs.SymbolPlaces.{colon}
use Rattle.gql_lexer.specs.WordPlaces.{IS, NOT, OF}
use Rattle.gql_front.specs.Tables.{Begins}
use Rattle.gql_front.specs.Reading.{◌>>=◌, is_word, name_in, after, op_at}
use Rattle.gql_front.proofs.Found.{Goes, Found, exact, Sound, Shrinks, some_is, bind_some}
use Rattle.gql_front.proofs.LexemeTests.{after_word, name_is}
use Rattle.gql_front.proofs.Parts.{last_found}
use Rattle.gql_front.proofs.TableLemmas.{begins_read, read_begins, word_row}
use Rattle.gql_exprs.specs.ExprWords.{test_words, test_word}
use Rattle.gql_exprs.specs.LabelGrammar.{IsLabel}
use Rattle.gql_exprs.specs.Machinery.LabelReaders.{read_label}
use Rattle.gql_exprs.specs.Grammar.{Asks, AsksLabels, Ending, has_quality, has_labels, is_end, IsEnding}
use Rattle.gql_exprs.specs.Machinery.LeafReaders.{not_or_is, sense_of, labels_ending, end_ending, asked_ending, is_ending, ending}
use Rattle.gql_exprs.proofs.LabelLevels.{goes_label, label_sound, label_complete}
use Rattle.gql_exprs.proofs.ExprShorter.{ending_shorter}
use Rattle.gql_exprs.proofs.ExprLists.{goes_comparison, begins_ending}

-- IS, and what sense_of reads behind it
sense_is : (x : List ℕ) (ts : List Lexeme) → Asks (sense_of ts).0 (lex.Word IS x ∷ ts) (sense_of ts).1
unfolding sense_of
sense_is x ts = go (after (is_word NOT) ts) refl
  where
    go : (o : Option (List Lexeme)) → after (is_word NOT) ts ≡ o → Asks (not_or_is ts o).0 (lex.Word IS x ∷ ts) (not_or_is ts o).1
    go None e = (x, refl)
    go (Some r) e = let h = after_word NOT ts r e in (x, h.0, ap (λ (z : List Lexeme). lex.Word IS x ∷ z) h.1)

-- behind IS [NOT]: what is asked
asked_sound : (s : Sense) (w : TestWord) (whole a ts : List Lexeme) (c : Ending) (r : List Lexeme) → Asks s whole a → Begins test_word w a ts → asked_ending s w ts ≡ Some (c, r) → IsEnding c whole r
unfolding labels_ending end_ending
asked_sound s (asked.Quality q) whole a ts c r asks begins e =
    subst (λ (z : Ending × List Lexeme). IsEnding z.0 whole z.1) (some_is (has_quality s q, ts) (c, r) e) (a, asks, begins)
asked_sound s asked.Labeled whole a ts c r asks begins e =
    let l = bind_some (read_label ts) (λ l. Some (has_labels s l.0, l.1)) (c, r) e in
    subst (λ (z : Ending × List Lexeme). IsEnding z.0 whole z.1) (some_is (has_labels s l.0.0, l.0.1) (c, r) l.2)
    (ts, labels s asks, label_sound ts l.0.0 l.0.1 l.1)
  where
    labels : (s : Sense) → Asks s whole a → AsksLabels s whole ts
    labels sense.Is asks = inr (a, asks, begins)
    labels sense.IsNot asks = (a, asks, begins)
asked_sound s (asked.End end) whole a ts c r asks begins e =
    let o = bind_some (after (is_word OF) ts) (λ b. op_at name_in b >>= λ v. Some (is_end s end v.0, v.1)) (c, r) e in
    let v = bind_some (op_at name_in o.0) (λ v. Some (is_end s end v.0, v.1)) (c, r) o.2 in
    let of_is = after_word OF ts o.0 o.1 in
    let named = read_begins name_in o.0 v.0.0 v.0.1 v.1 in
    let behind : ts ≡ lex.Word OF of_is.0 ∷ lex.Name v.0.0 ∷ v.0.1 =
    of_is.1 ∙ ap (λ (z : List Lexeme). lex.Word OF of_is.0 ∷ z) (named.2 ∙ ap (λ (z : Lexeme). z ∷ v.0.1) (name_is named.0 v.0.0 named.1)) in
    subst (λ (z : Ending × List Lexeme). IsEnding z.0 whole z.1) (some_is (is_end s end v.0.0, v.0.1) (c, r) v.2)
    (a, of_is.0, asks, subst (λ (z : List Lexeme). Begins test_word (asked.End end) a z) behind begins)

is_sound : (x : List ℕ) (ts : List Lexeme) (c : Ending) (r : List Lexeme) → is_ending ts ≡ Some (c, r) → IsEnding c (lex.Word IS x ∷ ts) r
unfolding is_ending
is_sound x ts c r e =
    let w = bind_some (op_at test_word (sense_of ts).1) (λ w. asked_ending (sense_of ts).0 w.0 w.1) (c, r) e in
    asked_sound (sense_of ts).0 w.0.0 (lex.Word IS x ∷ ts) (sense_of ts).1 w.0.1 c r (sense_is x ts) (read_begins test_word (sense_of ts).1 w.0.0 w.0.1 w.1) w.2

colon_sound : (ts : List Lexeme) (c : Ending) (r : List Lexeme) → labels_ending sense.Is ts ≡ Some (c, r) → IsEnding c (lex.Sign colon ∷ ts) r
unfolding labels_ending
colon_sound ts c r e =
    let l = bind_some (read_label ts) (λ l. Some (has_labels sense.Is l.0, l.1)) (c, r) e in
    subst (λ (z : Ending × List Lexeme). IsEnding z.0 (lex.Sign colon ∷ ts) z.1) (some_is (has_labels sense.Is l.0.0, l.0.1) (c, r) l.2)
    (ts, inl refl, label_sound ts l.0.0 l.0.1 l.1)

pub ending_sound : Sound IsEnding ending
unfolding ending
ending_sound [] c r e = absurd cc
ending_sound (lex.Sign place ∷ ts) c r e = go (nat_eq place colon) refl e
  where
    go : (b : Bool) → nat_eq place colon ≡ b → cond b (labels_ending sense.Is ts) None ≡ Some (c, r) → IsEnding c (lex.Sign place ∷ ts) r
    go true q e = subst (λ (z : ℕ). IsEnding c (lex.Sign z ∷ ts) r) (sym (eqb-true place colon q)) (colon_sound ts c r e)
    go false q e = absurd cc
ending_sound (lex.Word place x ∷ ts) c r e = go (nat_eq place IS) refl e
  where
    go : (b : Bool) → nat_eq place IS ≡ b → cond b (is_ending ts) None ≡ Some (c, r) → IsEnding c (lex.Word place x ∷ ts) r
    go true q e = subst (λ (z : ℕ). IsEnding c (lex.Word z x ∷ ts) r) (sym (eqb-true place IS q)) (is_sound x ts c r e)
    go false q e = absurd cc
ending_sound (lex.Name x ∷ ts) c r e = absurd cc
ending_sound (lex.Chars x ∷ ts) c r e = absurd cc
ending_sound (lex.Number x ∷ ts) c r e = absurd cc
ending_sound (lex.Param x ∷ ts) c r e = absurd cc

pub ending_shrinks : Shrinks ending
ending_shrinks ts c r e = ending_shorter c ts r (ending_sound ts c r e)

asks_begin : (s : Sense) (ts a : List Lexeme) → Asks s ts a → (x : List ℕ) × (b : List Lexeme) × (ts ≡ lex.Word IS x ∷ b)
asks_begin sense.Is ts a h = (h.0, a, h.1)
asks_begin sense.IsNot ts a h = (h.0, lex.Word NOT h.1 ∷ a, h.2)

-- an ending begins with a colon or IS
first_is : (c : Ending) (ts r : List Lexeme) → IsEnding c ts r → ((b : List Lexeme) × (ts ≡ lex.Sign colon ∷ b)) ⊎ ((x : List ℕ) × (b : List Lexeme) × (ts ≡ lex.Word IS x ∷ b))
first_is (has_quality s q) ts r h = inr (asks_begin s ts h.0 h.1)
first_is (has_labels sense.Is l) ts r (a, inl h, d) = inl (a, h)
first_is (has_labels sense.Is l) ts r (a, inr h, d) = inr (asks_begin sense.Is ts h.0 h.1)
first_is (has_labels sense.IsNot l) ts r h = inr (asks_begin sense.IsNot ts h.1.0 h.1.1)
first_is (is_end s end v) ts r h = inr (asks_begin s ts h.0 h.2)

pub ending_goes : (ts : List Lexeme) (x : Ending × List Lexeme) → ending ts ≡ Some x → Goes begins_ending ts
ending_goes ts x e = go (first_is x.0 ts x.1 (ending_sound ts x.0 x.1 e))
  where
    go : ((b : List Lexeme) × (ts ≡ lex.Sign colon ∷ b)) ⊎ ((y : List ℕ) × (b : List Lexeme) × (ts ≡ lex.Word IS y ∷ b)) → Goes begins_ending ts
    go (inl h) = subst (λ z. Goes begins_ending z) (sym h.1) refl
    go (inr h) = subst (λ z. Goes begins_ending z) (sym h.2) refl

-- a comparison does not go on with what an ending begins with
pub ending_apart : (c : Ending) (ts r : List Lexeme) → IsEnding c ts r → Goes goes_comparison ts → ⊥
ending_apart c ts r h i = go (first_is c ts r h)
  where
    go : ((b : List Lexeme) × (ts ≡ lex.Sign colon ∷ b)) ⊎ ((y : List ℕ) × (b : List Lexeme) × (ts ≡ lex.Word IS y ∷ b)) → ⊥
    go (inl h) = let j : false ≡ true = subst (λ z. Goes goes_comparison z) h.1 i in cc
    go (inr h) = let j : false ≡ true = subst (λ z. Goes goes_comparison z) h.2 i in cc

-- no word that asks is NOT
asks_not : (w : TestWord) (ts r : List Lexeme) → Begins test_word w ts r → after (is_word NOT) ts ≡ None
asks_not w ts r h =
    ap (after (is_word NOT)) h.2 ∙ ap (λ b. cond b (Some r) None)
    (word_row (λ t w. is_word NOT t ≡ false) test_words (λ x. (refl, (refl, (refl, (refl, (refl, (refl, (refl, (refl, tt))))))))) h.0 w h.1)

-- what is read behind IS, where a word that asks stands behind it or behind NOT
ending_is : (s : Sense) (w : TestWord) (ts a r : List Lexeme) → Asks s ts a → Begins test_word w a r → ending ts ≡ asked_ending s w r
unfolding ending is_ending sense_of
ending_is sense.Is w ts a r asks begins = ap ending asks.1 ∙ rw (asks_not w a r begins, begins_read test_word w a r begins) refl
ending_is sense.IsNot w ts a r asks begins = ap ending asks.2 ∙ rw (begins_read test_word w a r begins) refl

labels_found : (s : Sense) (n : ℕ) (l : Label) (ts r : List Lexeme) → length ts ≤ n → IsLabel l ts r → Found (labels_ending s ts) goes_label (has_labels s l) r
unfolding labels_ending
labels_found s n l ts r le h = last_found (read_label ts) (λ l. has_labels s l) goes_label l r (label_complete n l ts r le h)

end_read : (s : Sense) (end : EdgeEnd) (x v : List ℕ) (r : List Lexeme) → end_ending s end (lex.Word OF x ∷ lex.Name v ∷ r) ≡ Some (is_end s end v, r)
unfolding end_ending
end_read s end x v r = refl

pub ending_complete : (n : ℕ) (c : Ending) (ts r : List Lexeme) → length ts ≤ n → IsEnding c ts r → Found (ending ts) goes_label c r
unfolding ending
ending_complete n (has_quality s q) ts r le h = exact (ending_is s (asked.Quality q) ts h.0 r h.1 h.2)
ending_complete n (has_labels sense.Is l) ts r le (a, inl h, d) =
    subst (λ z. Found (ending z) goes_label (has_labels sense.Is l) r) (sym h) (labels_found sense.Is n l a r (omega (arith, ap length h)) d)
ending_complete n (has_labels sense.Is l) ts r le (a, inr h, d) =
    subst (λ z. Found z goes_label (has_labels sense.Is l) r) (sym (ending_is sense.Is asked.Labeled ts h.0 a h.1 h.2)) (labels_found sense.Is (length a) l a r (omega arith) d)
ending_complete n (has_labels sense.IsNot l) ts r le h =
    subst (λ z. Found z goes_label (has_labels sense.IsNot l) r) (sym (ending_is sense.IsNot asked.Labeled ts h.1.0 h.0 h.1.1 h.1.2)) (labels_found sense.IsNot (length h.0) l h.0 r (omega arith) h.2)
ending_complete n (is_end s end v) ts r le h = exact (ending_is s (asked.End end) ts h.0 (lex.Word OF h.1 ∷ lex.Name v ∷ r) h.2 h.3 ∙ end_read s end h.1 v r)
