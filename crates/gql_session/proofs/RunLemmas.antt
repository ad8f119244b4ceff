-- A run of a text, piece by piece. Key idea: so many of its pieces were run, and the run of these is one.
use Rattle.std.proofs.Common.{◌≡◌, ℕ, zero, suc, ◌+◌, ◌<◌, Bool, true, false, ◌||◌, List, [], ◌∷◌, ◌++◌, length, take, map, get_or, Option, Some, refl, ap, sym, ◌∙◌, inl, inr, append_assoc, append-nil, add-one, arith, subst}
use Rattle.std.proofs.Math.Bool.{or_assoc}
use Rattle.std.specs.List.{list_any}
use Rattle.std.proofs.lemmas.List.{length-map}
use Rattle.gql_lexer.specs.declared.piece.Piece.{Piece}
use Rattle.gql_lexer.specs.Pieces.{pieces_of}
use Rattle.gql_ports.specs.Held.{Holding}
use Rattle.gql_ast.specs.declared.refusal.Outcome.{Outcome}
use Rattle.gql_text.specs.OutcomeText.{outcome_text}
use Rattle.gql_txn.specs.Keeps.{Keeps}
use Rattle.gql_machine.specs.Causes.{RoseBy}
use Rattle.gql_machine.specs.Outcomes.{outcome_texts, is_refusal, store_refusals}
use Rattle.gql_machine.specs.SessionState.{SessionState}
use Rattle.gql_machine.specs.SessionRun.{Step, RunsSession, no_pieces, one_more}
use Rattle.gql_session.specs.Pieces.{session_pieces}
use Rattle.gql_session.specs.Endings.{FaultCounts}
use Rattle.gql_session.specs.Machinery.TextEndings.{WrotePiece, PieceFault, EarlyEnd, WholeAndKept, FirstAndKept}
use Rattle.gql_session.specs.declared.run_pieces.RunFault.{RunFault}
use Rattle.gql_session.specs.declared.run_pieces.RunFault.TheVariants as fault
use Rattle.gql_session.proofs.FaultLemmas.{rose_none, rose_no_more, rose_behind}

-- so many pieces were run, and the store keeps what the machine keeps
pub record Ran (start : SessionState) (text before : List ℕ) (count : ℕ) (faults : FaultCounts) (held : Option Holding) (any_refused : Bool) (end : SessionState) (after : Option (List ℕ)) (held_after : Option Holding) : Type 0 where
  pub outcomes : List Outcome
  pub runs : RunsSession start (take count (session_pieces text)) outcomes end
  pub written : after ≡ Some (before ++ outcome_texts outcomes)
  pub refused : list_any is_refusal outcomes ≡ any_refused
  pub store : RoseBy (store_refusals outcomes) faults.before faults.after
  pub kept : Keeps held start.kept → Keeps held_after end.kept

pub ran_none : (start end : SessionState) (text before : List ℕ) (n : ℕ) (held : Option Holding) (after : Option (List ℕ)) → end ≡ start → after ≡ Some before
    → Ran start text before 0 (record { before = n; after = n }) held false end after held
ran_none start end text before n held after e p =
    let Runs : SessionState → Type 0 = λ s. RunsSession start [] [] s in
    let Kept : SessionState → Type 0 = λ s. Keeps held s.kept in
    record {
      outcomes = [];
      runs = subst Runs (sym e) no_pieces;
      written = p ∙ ap Some (sym (append-nil before));
      refused = refl;
      store = rose_none n;
      kept = λ k. subst Kept (sym e) k;
    }

-- One piece more

outcome_texts-append : (os us : List Outcome) → outcome_texts (os ++ us) ≡ outcome_texts os ++ outcome_texts us
outcome_texts-append [] us = refl
outcome_texts-append (o ∷ os) us = ap (λ t. outcome_text o ++ t) (outcome_texts-append os us) ∙ sym (append_assoc (outcome_text o) (outcome_texts os) (outcome_texts us))

list_any-append : (p : Outcome → Bool) (os us : List Outcome) → list_any p (os ++ us) ≡ (list_any p os || list_any p us)
list_any-append p [] us = refl
list_any-append p (o ∷ os) us = ap (λ b. p o || b) (list_any-append p os us) ∙ sym (or_assoc (p o) (list_any p os) (list_any p us))

-- the text so far, and that of one piece more
longer : (before : List ℕ) (os us : List Outcome) (after : Option (List ℕ)) → after ≡ Some ((before ++ outcome_texts os) ++ outcome_texts us) → after ≡ Some (before ++ outcome_texts (os ++ us))
longer before os us after p = p ∙ ap Some (append_assoc before (outcome_texts os) (outcome_texts us) ∙ ap (λ t. before ++ t) (sym (outcome_texts-append os us)))

either : (os us : List Outcome) (r s : Bool) → list_any is_refusal os ≡ r → list_any is_refusal us ≡ s → list_any is_refusal (os ++ us) ≡ (r || s)
either os us r s p q = list_any-append is_refusal os us ∙ (λ i. p i || q i)

take-piece : (ps : List Piece) (i : ℕ) (p : Piece) → i < length ps → p ≡ get_or ps i p
    → take (suc i) (map (λ (p : Piece). p.bytes) ps) ≡ take i (map (λ (p : Piece). p.bytes) ps) ++ p.bytes ∷ []
take-piece [] i p h e = absurd (omega arith)
take-piece (q ∷ ps) zero p h e = ap (λ (x : Piece). x.bytes ∷ []) (sym e)
take-piece (q ∷ ps) (suc i) p h e = ap (λ rs. q.bytes ∷ rs) (take-piece ps i p (omega arith) e)

take-next : (text : List ℕ) (i : ℕ) (p : Piece) → i < length (pieces_of text) → p ≡ get_or (pieces_of text) i p
    → take (i + 1) (session_pieces text) ≡ take i (session_pieces text) ++ p.bytes ∷ []
take-next text i p h e = rw add-one (take-piece (pieces_of text) i p h e)

runs_on : (start : SessionState) (text : List ℕ) (i : ℕ) (p : Piece) (middle end : SessionState) (os us : List Outcome) → i < length (pieces_of text) → p ≡ get_or (pieces_of text) i p
    → RunsSession start (take i (session_pieces text)) os middle → Step middle p.bytes us end → RunsSession start (take (i + 1) (session_pieces text)) (os ++ us) end
runs_on start text i p middle end os us h e runs step =
    let P : List (List ℕ) → Type 0 = λ ps. RunsSession start ps (os ++ us) end in
    subst P (sym (take-next text i p h e)) (one_more runs step)

pub ran_more : (start : SessionState) (text before : List ℕ) (i : ℕ) (p : Piece) (a b c : ℕ) (r s : Bool) (middle end : SessionState) (written after : Option (List ℕ)) (held held_middle held_after : Option Holding)
    → i < length (pieces_of text) → p ≡ get_or (pieces_of text) i p → (ran : Ran start text before i (record { before = a; after = b }) held r middle written held_middle)
    → WrotePiece middle p.bytes (before ++ outcome_texts ran.outcomes) (record { before = b; after = c }) held_middle s end after held_after
    → Ran start text before (i + 1) (record { before = a; after = c }) held (r || s) end after held_after
ran_more start text before i p a b c r s middle end written after held held_middle held_after h e ran step = record {
  outcomes = ran.outcomes ++ step.made;
  runs = runs_on start text i p middle end ran.outcomes step.made h e ran.runs step.step;
  written = longer before ran.outcomes step.made after step.written;
  refused = either ran.outcomes step.made r s ran.refused step.refused;
  store = rose_behind ran.outcomes step.made a b c ran.store step.store;
  kept = λ k. step.kept (ran.kept k);
}

-- Endings

-- all pieces were run
pub ran_all : (start : SessionState) (text before : List ℕ) (i : ℕ) (faults : FaultCounts) (r : Bool) (end : SessionState) (after : Option (List ℕ)) (held held_after : Option Holding) → i ≡ length (pieces_of text)
    → Ran start text before i faults held r end after held_after → WholeAndKept start text before faults held r after held_after
ran_all start text before i faults r end after held held_after h ran = (
  record {
    count = i;
    outcomes = ran.outcomes;
    end = end;
    runs = ran.runs;
    whole = inl (h ∙ sym (length-map (pieces_of text) (λ (p : Piece). p.bytes)));
    written = ran.written;
    refused = ran.refused;
    store = ran.store;
  },
  ran.kept,
)

-- SESSION CLOSE was answered
pub ran_closed : (start : SessionState) (text before : List ℕ) (i : ℕ) (faults : FaultCounts) (r : Bool) (end : SessionState) (after : Option (List ℕ)) (held held_after : Option Holding) → end.is_closed ≡ true
    → Ran start text before i faults held r end after held_after → WholeAndKept start text before faults held r after held_after
ran_closed start text before i faults r end after held held_after h ran = (
  record {
    count = i;
    outcomes = ran.outcomes;
    end = end;
    runs = ran.runs;
    whole = inr h;
    written = ran.written;
    refused = ran.refused;
    store = ran.store;
  },
  ran.kept,
)

-- the run of a piece ended early, and so that of the text
pub early_end : (start : SessionState) (text before : List ℕ) (i : ℕ) (p : Piece) (a b c : ℕ) (r : Bool) (middle end : SessionState) (written after : Option (List ℕ)) (held held_middle held_after : Option Holding) (e : RunFault)
    → i < length (pieces_of text) → p ≡ get_or (pieces_of text) i p → (ran : Ran start text before i (record { before = a; after = b }) held r middle written held_middle)
    → PieceFault middle p.bytes (before ++ outcome_texts ran.outcomes) (record { before = b; after = c }) held_middle e end after held_after
    → EarlyEnd start text before (record { before = a; after = c }) held e after held_after
early_end start text before i p a b c r middle end written after held held_middle held_after fault.Sink h e ran failed = (
  record {
    count = i + 1;
    outcomes = ran.outcomes;
    last = failed.last;
    end = end;
    runs = runs_on start text i p middle end ran.outcomes (failed.last ∷ []) h e ran.runs failed.step;
    part = failed.part;
    written = failed.written;
    store = rose_behind ran.outcomes (failed.last ∷ []) a b c ran.store failed.store;
  },
  λ k. failed.kept (ran.kept k),
)
early_end start text before i p a b c r middle end written after held held_middle held_after fault.OutOfMemory h e ran unrun = (
  record {
    count = i;
    outcomes = ran.outcomes;
    end = middle;
    runs = ran.runs;
    written = unrun.written;
    store = rose_no_more (store_refusals ran.outcomes) a b c ran.store unrun.unfailed;
  },
  λ k. unrun.kept (ran.kept k),
)

-- no memory for the pieces at all
pub ran_nothing : (start : SessionState) (text before : List ℕ) (n : ℕ) (held : Option Holding) (after : Option (List ℕ)) → after ≡ Some before → FirstAndKept start text before (record { before = n; after = n }) held after held
ran_nothing start text before n held after p =
    (record { count = 0; outcomes = []; end = start; runs = no_pieces; written = p ∙ ap Some (sym (append-nil before)); store = rose_none n }, λ k. k)
