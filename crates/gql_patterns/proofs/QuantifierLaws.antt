-- The laws of quantifiers, and of what may stand behind an element or a part.
use Rattle.std.proofs.Common.{◌≡◌, ◌<◌, ◌≤◌, Bool, true, false, cond, nat_eq, ℕ, List, [], ◌∷◌, length, Option, Some, None, refl, ap, ◌∙◌, arith}
use Rattle.gql_lexer.specs.declared.lexeme.Lexeme.{Lexeme}
use Rattle.gql_lexer.specs.declared.lexeme.Lexeme.TheVariants as lex
use Rattle.gql_lexer.specs.SymbolPlaces.{star, plus, opening_brace, closing_brace, comma, question}
use Rattle.gql_ast.specs.declared.pattern.Quantifier.{Quantifier}
use Rattle.gql_ast.specs.declared.pattern.Quantifier.TheVariants as quantifier
use Rattle.gql_front.specs.Tables.{Begins}
use Rattle.gql_front.specs.Reading.{is_sign, after, op_at, maybe}
use Rattle.gql_front.proofs.Found.{Goes, Sound, Shrinks, is_there}
use Rattle.gql_front.proofs.Chains.{Opens}
use Rattle.gql_front.proofs.TableLemmas.{read_begins, begins_shorter}
use Rattle.gql_parts.specs.Parts.{Passes, IsOptional}
use Rattle.gql_parts.proofs.PartLaws.{Stops, bind_then, finish, passes_after, after_passes, passes_shorter, stops_after, sign_apart, passes_stops, optional_shorter, maybe_sound, said_exact}
use Rattle.gql_patterns.specs.PatternWords.{number_in}
use Rattle.gql_patterns.specs.QuantifierGrammar.{AreBounds, IsBraced, IsQuantifier}
use Rattle.gql_patterns.specs.Machinery.QuantifierReaders.{number_of, upper_of, exactly, bounded, bounds_of, quantifier_of, once_or_times, repetition_of}
use Rattle.gql_patterns.specs.declared.quantifier.Repetition.{Repetition}
use Rattle.gql_patterns.specs.declared.quantifier.Repetition.TheVariants as repetition
use Rattle.gql_patterns.proofs.SignSets.{Signs, among, sign_whole, sign_goes}

-- [Number]

abbrev pub is_number : Lexeme → Bool
is_number t = is_there (number_in t)

abbrev pub IsNumber : List ℕ → List Lexeme → List Lexeme → Type 0
IsNumber = Begins number_in

pub number_sound : Sound (IsOptional IsNumber) number_of
unfolding number_of
number_sound = maybe_sound (op_at number_in) (Begins number_in) (read_begins number_in)

pub number_exact : (x : Option (List ℕ)) (ts s : List Lexeme) → IsOptional IsNumber x ts s → Stops is_number s → number_of ts ≡ Some (x, s)
unfolding number_of maybe
number_exact x ts s h stop = ap Some (said_exact number_in x ts s h stop)

pub number_shorter : (x : Option (List ℕ)) (ts r : List Lexeme) → IsOptional IsNumber x ts r → length r ≤ length ts
number_shorter = optional_shorter IsNumber (begins_shorter number_in)

-- Bounds

bounded_sound : (ts a : List Lexeme) (m : Option (List ℕ)) → IsOptional IsNumber m ts a → (q : Quantifier) (r : List Lexeme) (o : Option (List Lexeme)) → after (is_sign comma) a ≡ o
    → bounded m a o ≡ Some (q, r) → AreBounds q ts r
unfolding upper_of
bounded_sound ts a m h q r (Some b) p e =
    bind_then (number_of b) _ (q, r) e (λ n k e.
    bind_then (after (is_sign closing_brace) n.1) _ (q, r) e (λ c l e.
    finish (λ q r. AreBounds q ts r) (quantifier.Between m n.0) c q r e
    (a, h, b, after_passes (is_sign comma) a b p, n.1, number_sound b n.0 n.1 k, after_passes (is_sign closing_brace) n.1 c l)))
bounded_sound ts a None h q r None p e = bind_then (after (is_sign closing_brace) a) (λ r. exactly None r) (q, r) e (λ c l e. absurd cc)
bounded_sound ts a (Some n) h q r None p e =
    bind_then (after (is_sign closing_brace) a) (λ r. exactly (Some n) r) (q, r) e (λ c l e.
    finish (λ q r. AreBounds q ts r) (quantifier.Exactly n) c q r e (a, h, after_passes (is_sign closing_brace) a c l))

bounds_sound : Sound AreBounds bounds_of
unfolding bounds_of
bounds_sound ts q r e =
    bind_then (number_of ts) _ (q, r) e (λ m p e. bounded_sound ts m.1 m.0 (number_sound ts m.0 m.1 p) q r (after (is_sign comma) m.1) refl e)

bounds_exact : (q : Quantifier) (ts s : List Lexeme) → AreBounds q ts s → bounds_of ts ≡ Some (q, s)
unfolding bounds_of upper_of
bounds_exact quantifier.Star ts s h = absurd h
bounds_exact quantifier.Plus ts s h = absurd h
bounds_exact (quantifier.Exactly n) ts s h =
    let closes : (g : Lexeme → Bool) → g (lex.Sign closing_brace) ≡ false → Stops g h.0 = λ g e. passes_stops (is_sign closing_brace) g (sign_apart closing_brace g e) h.0 s h.2 in
    rw (number_exact (Some n) ts h.0 h.1 (closes is_number refl), stops_after (is_sign comma) h.0 (closes (is_sign comma) refl), passes_after (is_sign closing_brace) h.0 s h.2) refl
bounds_exact (quantifier.Between m n) ts s h =
    rw (
      number_exact m ts h.0 h.1 (passes_stops (is_sign comma) is_number (sign_apart comma is_number refl) h.0 h.2 h.3),
      passes_after (is_sign comma) h.0 h.2 h.3,
      number_exact n h.2 h.4 h.5 (passes_stops (is_sign closing_brace) is_number (sign_apart closing_brace is_number refl) h.4 s h.6),
      passes_after (is_sign closing_brace) h.4 s h.6,
    ) refl

bounds_shorter : (q : Quantifier) (ts r : List Lexeme) → AreBounds q ts r → length r < length ts
bounds_shorter quantifier.Star ts r h = absurd h
bounds_shorter quantifier.Plus ts r h = absurd h
bounds_shorter (quantifier.Exactly n) ts r h = omega (arith, begins_shorter number_in n ts h.0 h.1, passes_shorter (is_sign closing_brace) h.0 r h.2)
bounds_shorter (quantifier.Between m n) ts r h =
    omega (arith, number_shorter m ts h.0 h.1, passes_shorter (is_sign comma) h.0 h.2 h.3, number_shorter n h.2 h.4 h.5, passes_shorter (is_sign closing_brace) h.4 r h.6)

-- Quantifiers

braced : (q : Quantifier) (ts r : List Lexeme) → IsBraced q ts r → IsQuantifier q ts r
braced quantifier.Star ts r h = absurd h.2
braced quantifier.Plus ts r h = absurd h.2
braced (quantifier.Exactly n) ts r h = h
braced (quantifier.Between m n) ts r h = h

passes_sign : (n : ℕ) → is_sign n (lex.Sign n) ≡ true → (place : ℕ) → nat_eq place n ≡ true → (ts : List Lexeme) → Passes (is_sign n) (lex.Sign place ∷ ts) ts
passes_sign n self place e ts = (lex.Sign place, e, refl)

quantifier_sound : Sound IsQuantifier quantifier_of
unfolding quantifier_of
quantifier_sound [] q r e = absurd cc
quantifier_sound (lex.Word w x ∷ ts) q r e = absurd cc
quantifier_sound (lex.Name x ∷ ts) q r e = absurd cc
quantifier_sound (lex.Chars x ∷ ts) q r e = absurd cc
quantifier_sound (lex.Number x ∷ ts) q r e = absurd cc
quantifier_sound (lex.Param x ∷ ts) q r e = absurd cc
quantifier_sound (lex.Sign place ∷ ts) q r e = go (nat_eq place star) refl (nat_eq place plus) refl (nat_eq place opening_brace) refl e
  where
    go : (a : Bool) → nat_eq place star ≡ a → (b : Bool) → nat_eq place plus ≡ b → (c : Bool) → nat_eq place opening_brace ≡ c
        → cond a (Some (quantifier.Star, ts)) (cond b (Some (quantifier.Plus, ts)) (cond c (bounds_of ts) None)) ≡ Some (q, r) → IsQuantifier q (lex.Sign place ∷ ts) r
    go true p b k c l e = finish (λ q r. IsQuantifier q (lex.Sign place ∷ ts) r) quantifier.Star ts q r e (passes_sign star refl place p ts)
    go false p true k c l e = finish (λ q r. IsQuantifier q (lex.Sign place ∷ ts) r) quantifier.Plus ts q r e (passes_sign plus refl place k ts)
    go false p false k true l e = braced q (lex.Sign place ∷ ts) r (ts, passes_sign opening_brace refl place l ts, bounds_sound ts q r e)
    go false p false k false l e = absurd cc

braced_exact : (q : Quantifier) (ts s : List Lexeme) → IsBraced q ts s → quantifier_of ts ≡ Some (q, s)
unfolding quantifier_of
braced_exact q ts s h = ap quantifier_of (sign_whole opening_brace ts h.0 h.1) ∙ bounds_exact q h.0 s h.2

quantifier_exact : (q : Quantifier) (ts s : List Lexeme) → IsQuantifier q ts s → quantifier_of ts ≡ Some (q, s)
unfolding quantifier_of
quantifier_exact quantifier.Star ts s h = ap quantifier_of (sign_whole star ts s h)
quantifier_exact quantifier.Plus ts s h = ap quantifier_of (sign_whole plus ts s h)
quantifier_exact (quantifier.Exactly n) ts s h = braced_exact (quantifier.Exactly n) ts s h
quantifier_exact (quantifier.Between m n) ts s h = braced_exact (quantifier.Between m n) ts s h

braced_shorter : (q : Quantifier) (ts r : List Lexeme) → IsBraced q ts r → length r < length ts
braced_shorter q ts r h = omega (arith, passes_shorter (is_sign opening_brace) ts h.0 h.1, bounds_shorter q h.0 r h.2)

pub quantifier_shorter : (q : Quantifier) (ts r : List Lexeme) → IsQuantifier q ts r → length r < length ts
quantifier_shorter quantifier.Star ts r h = passes_shorter (is_sign star) ts r h
quantifier_shorter quantifier.Plus ts r h = passes_shorter (is_sign plus) ts r h
quantifier_shorter (quantifier.Exactly n) ts r h = braced_shorter (quantifier.Exactly n) ts r h
quantifier_shorter (quantifier.Between m n) ts r h = braced_shorter (quantifier.Between m n) ts r h

-- Repetitions

abbrev pub IsRepetition : Repetition → List Lexeme → List Lexeme → Type 0
IsRepetition (repetition.Times q) ts r = IsQuantifier q ts r
IsRepetition repetition.AtMostOnce ts r = Passes (is_sign question) ts r

-- the symbols with which a repetition begins
abbrev pub repetition_signs : Signs
repetition_signs = (question, tt) ∷ (star, tt) ∷ (plus, tt) ∷ (opening_brace, tt) ∷ []

abbrev pub begins_repetition : Lexeme → Bool
begins_repetition t = among repetition_signs t

quantifier_goes : (q : Quantifier) (ts r : List Lexeme) → IsQuantifier q ts r → Goes begins_repetition ts
quantifier_goes quantifier.Star ts r h = sign_goes star begins_repetition refl ts r h
quantifier_goes quantifier.Plus ts r h = sign_goes plus begins_repetition refl ts r h
quantifier_goes (quantifier.Exactly n) ts r h = sign_goes opening_brace begins_repetition refl ts h.0 h.1
quantifier_goes (quantifier.Between m n) ts r h = sign_goes opening_brace begins_repetition refl ts h.0 h.1

pub repetition_goes : (x : Repetition) (ts r : List Lexeme) → IsRepetition x ts r → Goes begins_repetition ts
repetition_goes (repetition.Times q) ts r h = quantifier_goes q ts r h
repetition_goes repetition.AtMostOnce ts r h = sign_goes question begins_repetition refl ts r h

no_question : (q : Quantifier) (ts r : List Lexeme) → IsQuantifier q ts r → Stops (is_sign question) ts
no_question quantifier.Star ts r h = passes_stops (is_sign star) (is_sign question) (sign_apart star (is_sign question) refl) ts r h
no_question quantifier.Plus ts r h = passes_stops (is_sign plus) (is_sign question) (sign_apart plus (is_sign question) refl) ts r h
no_question (quantifier.Exactly n) ts r h = passes_stops (is_sign opening_brace) (is_sign question) (sign_apart opening_brace (is_sign question) refl) ts h.0 h.1
no_question (quantifier.Between m n) ts r h = passes_stops (is_sign opening_brace) (is_sign question) (sign_apart opening_brace (is_sign question) refl) ts h.0 h.1

pub repetition_sound : Sound IsRepetition repetition_of
unfolding repetition_of
repetition_sound ts x r e = go (after (is_sign question) ts) refl e
  where
    go : (o : Option (List Lexeme)) → after (is_sign question) ts ≡ o → once_or_times ts o ≡ Some (x, r) → IsRepetition x ts r
    go (Some a) p k = finish (λ x r. IsRepetition x ts r) repetition.AtMostOnce a x r k (after_passes (is_sign question) ts a p)
    go None p k =
        bind_then (quantifier_of ts) (λ q. Some (repetition.Times q.0, q.1)) (x, r) k (λ q l k.
        finish (λ x r. IsRepetition x ts r) (repetition.Times q.0) q.1 x r k (quantifier_sound ts q.0 q.1 l))

pub repetition_exact : (x : Repetition) (ts s : List Lexeme) → IsRepetition x ts s → repetition_of ts ≡ Some (x, s)
unfolding repetition_of
repetition_exact (repetition.Times q) ts s h =
    ap (once_or_times ts) (stops_after (is_sign question) ts (no_question q ts s h)) ∙ rw (quantifier_exact q ts s h) refl
repetition_exact repetition.AtMostOnce ts s h = ap (once_or_times ts) (passes_after (is_sign question) ts s h)

repetition_shorter : (x : Repetition) (ts r : List Lexeme) → IsRepetition x ts r → length r < length ts
repetition_shorter (repetition.Times q) ts r h = quantifier_shorter q ts r h
repetition_shorter repetition.AtMostOnce ts r h = passes_shorter (is_sign question) ts r h

pub repetition_shrinks : Shrinks repetition_of
repetition_shrinks ts x r e = repetition_shorter x ts r (repetition_sound ts x r e)

pub repetition_opens : Opens begins_repetition repetition_of
repetition_opens ts x e = repetition_goes x.0 ts x.1 (repetition_sound ts x.0 x.1 e)
