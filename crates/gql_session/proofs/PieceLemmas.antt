-- One piece: its step has an outcome at most, and the outcome's text is written by one `put`.
use Rattle.std.proofs.Common.{◌≡◌, ◌⊎◌, ℕ, Bool, true, false, List, [], ◌∷◌, ◌++◌, length, take, Option, Some, None, refl, ap, sym, ◌∙◌, inl, inr, append-nil, arith, subst}
use Rattle.std.specs.Prelude.{◌==◌, unwrap_or}
use Rattle.std.proofs.lemmas.Bool.{eqb-true}
use Rattle.gql_ports.specs.Held.{Holding}
use Rattle.gql_ports.specs.Told.{MatchTold, Appends, AppendsPrefix}
use Rattle.gql_ast.specs.declared.refusal.Outcome.{Outcome}
use Rattle.gql_ast.specs.declared.refusal.Outcome.TheVariants as outcome
use Rattle.gql_ast.specs.declared.refusal.Refusal.TheVariants as refusal
use Rattle.gql_text.specs.OutcomeText.{outcome_text}
use Rattle.gql_txn.specs.Keeps.{Keeps}
use Rattle.gql_machine.specs.Causes.{RoseBy}
use Rattle.gql_machine.specs.Outcomes.{outcome_texts, store_refusals}
use Rattle.gql_machine.specs.PieceRun.{RanPiece}
use Rattle.gql_machine.specs.Reading.{Reading, blank, bad, deep, unread, read}
use Rattle.gql_machine.specs.SessionRun.{Step, MayAnswer}
use Rattle.gql_machine.specs.SessionState.{SessionState}
use Rattle.gql_session.specs.Machinery.TextEndings.{WrotePiece, FailedPiece}

some_same : {A : Type 0} (x y : A) → Some x ≡ Some y → x ≡ y
some_same x y p = ap (λ o. unwrap_or o x) p

appended : (old new : Option (List ℕ)) (before bytes : List ℕ) → old ≡ Some before → MatchTold old new (Appends bytes) → new ≡ Some (before ++ bytes)
appended None None before bytes p m = cc
appended None (Some b) before bytes p m = absurd m
appended (Some a) None before bytes p m = absurd m
appended (Some a) (Some b) before bytes p m = ap Some (m ∙ ap (λ t. t ++ bytes) (some_same a before p))

appended_part : (old new : Option (List ℕ)) (before bytes : List ℕ) → old ≡ Some before → MatchTold old new (AppendsPrefix bytes) → (n : ℕ) × (new ≡ Some (before ++ take n bytes))
appended_part None None before bytes p m = cc
appended_part None (Some b) before bytes p m = absurd m
appended_part (Some a) None before bytes p m = absurd m
appended_part (Some a) (Some b) before bytes p m = (m.0, ap Some (m.1 ∙ ap (λ t. t ++ take m.0 bytes) (some_same a before p)))

-- no outcome, or one
one_answer : (s t : SessionState) (r : Reading) (made : List Outcome) → MayAnswer s r made t → (made ≡ []) ⊎ ((o : Outcome) × (made ≡ o ∷ []))
one_answer s t blank made h = inl h.0
one_answer s t bad made h = inr (outcome.Refused refusal.Lex, h.0)
one_answer s t deep made h = inr (outcome.Refused refusal.Deep, h.0)
one_answer s t unread made h = inr (outcome.Refused refusal.Syntax, h.0)
one_answer s t (read u) made h = inr (h.answer, h.made_is)

-- What was written

empty : (xs : List ℕ) → (length xs == 0) ≡ true → xs ≡ []
empty [] h = refl
empty (x ∷ xs) h = let e : length (x ∷ xs) ≡ 0 = eqb-true (length (x ∷ xs)) 0 h in absurd (omega (arith, e))

-- nothing
pub wrote_nothing : (start end : SessionState) (piece before text : List ℕ) (a b : ℕ) (held held_after : Option Holding) (refused : Bool) (after : Option (List ℕ)) → after ≡ Some before → (length text == 0) ≡ true
    → RanPiece start piece refused text a b end → (Keeps held start.kept → Keeps held_after end.kept)
    → WrotePiece start piece before (record { before = a; after = b }) held refused end after held_after
wrote_nothing start end piece before text a b held held_after refused after p none ran kept = record {
  made = ran.made;
  step = ran.step;
  written = p ∙ ap Some (sym (append-nil before)) ∙ ap (λ t. Some (before ++ t)) (sym (empty text none) ∙ ran.written);
  refused = ran.is_refused;
  store = ran.store;
  kept = kept;
}

-- the whole text
pub wrote_all : (start end : SessionState) (piece before text : List ℕ) (a b : ℕ) (held held_after : Option Holding) (refused : Bool) (old new : Option (List ℕ)) → old ≡ Some before
    → MatchTold old new (Appends text) → RanPiece start piece refused text a b end → (Keeps held start.kept → Keeps held_after end.kept)
    → WrotePiece start piece before (record { before = a; after = b }) held refused end new held_after
wrote_all start end piece before text a b held held_after refused old new p m ran kept = record {
  made = ran.made;
  step = ran.step;
  written = appended old new before text p m ∙ ap (λ t. Some (before ++ t)) ran.written;
  refused = ran.is_refused;
  store = ran.store;
  kept = kept;
}

none_is_empty : (text : List ℕ) (made : List Outcome) → text ≡ outcome_texts made → made ≡ [] → (length text == 0) ≡ true
none_is_empty text made p q = ap (λ (t : List ℕ). length t == 0) (p ∙ ap outcome_texts q)

-- a first part of it, or all
pub wrote_part : (start end : SessionState) (piece before text : List ℕ) (a b : ℕ) (held held_after : Option Holding) (refused : Bool) (old new : Option (List ℕ)) → old ≡ Some before
    → MatchTold old new (AppendsPrefix text) → (length text == 0) ≡ false → RanPiece start piece refused text a b end → (Keeps held start.kept → Keeps held_after end.kept)
    → FailedPiece start piece before (record { before = a; after = b }) held end new held_after
wrote_part start end piece before text a b held held_after refused old new p m some ran kept = go (one_answer start end ran.step.reading ran.made ran.step.answers)
  where
    go : (ran.made ≡ []) ⊎ ((o : Outcome) × (ran.made ≡ o ∷ [])) → FailedPiece start piece before (record { before = a; after = b }) held end new held_after
    go (inl none) = absurd (let e = none_is_empty text ran.made ran.written none in cc)
    go (inr one) =
        let part = appended_part old new before text p m in
        let text_is : text ≡ outcome_text one.0 = ran.written ∙ ap outcome_texts one.1 ∙ append-nil (outcome_text one.0) in
        let Stepped : List Outcome → Type 0 = λ os. Step start piece os end in
        let Counted : List Outcome → Type 0 = λ os. RoseBy (store_refusals os) a b in
        record {
          last = one.0;
          step = subst Stepped one.1 ran.step;
          part = part.0;
          written = part.1 ∙ ap (λ t. Some (before ++ take part.0 t)) text_is;
          store = subst Counted one.1 ran.store;
          kept = kept;
        }
