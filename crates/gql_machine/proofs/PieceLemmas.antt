-- One piece: from what its statement came to, over its commit point, to one step of the session machine.
use Rattle.std.proofs.Common.{◌≡◌, ◌≢◌, ℕ, ◌-◌, Bool, true, false, List, [], ◌∷◌, Option, Some, None, Result, Ok, Err, refl, ap, sym, ◌∙◌, inl, inr, append-nil, arith, subst}
use Rattle.std.proofs.Math.Bool.{or-false}
use Rattle.std.specs.Prelude.{◌+◌, ◌^◌, min, not, ◌&&◌, is_some, unwrap_or, IfOk, if◌then◌else◌}
use Rattle.gql_ast.specs.declared.refusal.Outcome.{Outcome}
use Rattle.gql_ast.specs.declared.refusal.Outcome.TheVariants as outcome
use Rattle.gql_ast.specs.declared.refusal.Refusal.{Refusal}
use Rattle.gql_ast.specs.declared.refusal.Refusal.TheVariants as refusal
use Rattle.gql_ast.specs.declared.statement.AccessMode.{AccessMode}
use Rattle.gql_ast.specs.declared.statement.Statement.{Statement}
use Rattle.gql_text.specs.OutcomeText.{outcome_text}
use Rattle.gql_machine.specs.Causes.{RoseBy}
use Rattle.gql_machine.specs.Outcomes.{is_refusal, is_store_refusal, store_refusals, outcome_texts}
use Rattle.gql_machine.specs.PieceRun.{RanPiece}
use Rattle.gql_machine.specs.Reading.{Reading, ReadsAs, blank, bad, deep, unread, read}
use Rattle.gql_machine.specs.SessionState.{SessionState, with_open}
use Rattle.gql_machine.specs.StatementRun.{StatementEnd, StatementMayRun}
use Rattle.gql_machine.specs.SessionRun.{is_commit_point, Settles, MayAnswer, Step}
use Rattle.gql_machine.specs.Machinery.Meaning.{statement_end}
use Rattle.gql_machine.specs.Machinery.CommitPoints.{before_commit, Ends, MayLeave, LeavesRefused, Answers, CameTo}
use Rattle.gql_machine.specs.declared.ended.Ended.{Ended}
use Rattle.gql_machine.proofs.NotStoreLemmas.{not_by_store}

-- Ends

-- where no transaction is open, that it has ended changes nothing
open_none : (commits : Bool) (refused : Bool) (after : SessionState) → commits ≡ (not refused && not (is_some after.access)) → before_commit commits after ≡ after
open_none false refused after h = refl
open_none true true after h = absurd (let no : true ≡ false = h in cc)
open_none true false after h = go after.access refl h
  where
    go : (o : Option AccessMode) → after.access ≡ o → true ≡ not (is_some o) → with_open after None ≡ after
    go None e h = ap (λ o. with_open after o) (sym e)
    go (Some m) e h = absurd (let no : true ≡ false = h in cc)

pub ends_here : (May : StatementEnd → Type 0) (made : Ended) (o : Outcome) (after : SessionState) → May (statement_end o after) → made.outcome ≡ o
    → made.commits ≡ (not (is_refusal o) && not (is_some after.access)) → Ends May made after
ends_here May made o after may p q = record { end = statement_end o after; may = may; outcome = p; commits = q; behind = open_none made.commits (is_refusal o) after q }

-- how a piece reads, and what it came to
pub answered : {E : Type 0} (before after : SessionState) (piece : List ℕ) (x : Reading) (r : Result (Option Ended) E) → before.is_closed ≡ false → ReadsAs piece x
    → IfOk r (λ made. MayLeave before x made after) → IfOk r (λ made. Answers before piece made after)
answered before after piece x (Ok made) goes_on reads leaves = record { goes_on = goes_on; reading = x; reads = reads; leaves = leaves }
answered before after piece x (Err e) goes_on reads leaves = tt

-- The store as the cause

rose_none : (before now : ℕ) → now ≡ before → RoseBy 0 before now
rose_none before now h = (omega (arith, h), omega (arith, h))

rose_once : (before now : ℕ) → now ≡ min (before + 1) (2 ^ 64 - 1) → RoseBy 1 before now
rose_once before now h = (omega (arith, h), omega (arith, h))

not_counted : (o : Outcome) → is_store_refusal o ≡ false → store_refusals (o ∷ []) ≡ 0
not_counted o h = ap (λ b. if b then 1 else 0) h

not_store : (o : Outcome) (before now : ℕ) → is_store_refusal o ≡ false → now ≡ before → RoseBy (store_refusals (o ∷ [])) before now
not_store o before now h same = let P : ℕ → Type 0 = λ n. RoseBy n before now in subst P (sym (not_counted o h)) (rose_none before now same)

-- Pieces

one_text : (o : Outcome) → outcome_text o ≡ outcome_texts (o ∷ [])
one_text o = sym (append-nil (outcome_text o))

some_same : {A : Type 0} (x y : A) → Some x ≡ Some y → x ≡ y
some_same x y p = ap (λ o. unwrap_or o x) p

-- a piece with one outcome
one_outcome : (before after : SessionState) (piece : List ℕ) (o : Outcome) (text : List ℕ) (refused : Bool) (faults now : ℕ) → Step before piece (o ∷ []) after → text ≡ outcome_text o
    → is_refusal o ≡ refused → RoseBy (store_refusals (o ∷ [])) faults now → RanPiece before piece refused text faults now after
one_outcome before after piece o text refused faults now step written is_refused store = record {
  made = o ∷ [];
  step = step;
  written = written ∙ one_text o;
  is_refused = or-false (is_refusal o) ∙ is_refused;
  store = store;
}

-- a blank piece
-- what a piece came to without a commit point
pub record Plain (before : SessionState) (piece : List ℕ) (o : Outcome) (after : SessionState) : Type 0 where
  pub step : Step before piece (o ∷ []) after
  pub not_store : is_store_refusal o ≡ false

-- and with one
pub record AtPoint (before : SessionState) (piece : List ℕ) (o : Outcome) (after : SessionState) : Type 0 where
  pub goes_on : before.is_closed ≡ false
  pub statement : Statement
  pub reads : ReadsAs piece (read statement)
  pub end : StatementEnd
  pub runs : StatementMayRun before statement end
  pub point : is_commit_point end ≡ true
  pub outcome : o ≡ end.outcome
  pub behind : with_open after None ≡ end.after

module _ (before after : SessionState) (piece : List ℕ) (goes_on : before.is_closed ≡ false) where
  -- a piece that is no statement
  plain_refusal : (r : Reading) (x : Refusal) (e : Ended) → ReadsAs piece r → is_store_refusal (outcome.Refused x) ≡ false → LeavesRefused before x (Some e) after
      → ((made : List Outcome) → (made ≡ outcome.Refused x ∷ []) × (after ≡ before) → MayAnswer before r made after) → Plain before piece e.outcome after
  plain_refusal r x e reads other h answers =
      let o : e.outcome ≡ outcome.Refused x = ap (λ (y : Ended). y.outcome) (some_same e _ h.0) in
      record {
        step = record { goes_on = goes_on; reading = r; reads = reads; answers = answers (e.outcome ∷ []) (ap (λ o. o ∷ []) o, h.1) };
        not_store = ap is_store_refusal o ∙ other;
      }

  unsettled : (end : StatementEnd) (o : Outcome) → is_commit_point end ≡ false → o ≡ end.outcome → after ≡ end.after → Settles end o after
  unsettled end o h p q = rw h (p, q)

  plain_statement : (s : Statement) (e d : Ended) → ReadsAs piece (read s) → Some e ≡ Some d → e.commits ≡ false → Ends (StatementMayRun before s) d after → Plain before piece e.outcome after
  plain_statement s e d reads same stays h =
      let is : e ≡ d = some_same e d same in
      let o : e.outcome ≡ h.end.outcome = ap (λ (y : Ended). y.outcome) is ∙ h.outcome in
      let none : d.commits ≡ false = sym (ap (λ (y : Ended). y.commits) is) ∙ stays in
      let there : after ≡ h.end.after = ap (λ b. before_commit b after) (sym none) ∙ h.behind in
      record {
        step = record {
          goes_on = goes_on;
          reading = read s;
          reads = reads;
          answers = record { end = h.end; runs = h.may; answer = e.outcome; settles = unsettled h.end e.outcome (sym h.commits ∙ none) o there; made_is = refl };
        };
        not_store = ap is_store_refusal o ∙ not_by_store before s h.end h.may;
      }

  plain : (r : Reading) (e : Ended) → ReadsAs piece r → e.commits ≡ false → MayLeave before r (Some e) after → Plain before piece e.outcome after
  plain blank e reads stays h = absurd (let x = h.0 in cc)
  plain bad e reads stays h = plain_refusal bad refusal.Lex e reads refl h (λ made k. k)
  plain deep e reads stays h = plain_refusal deep refusal.Deep e reads refl h (λ made k. k)
  plain unread e reads stays h = plain_refusal unread refusal.Syntax e reads refl h (λ made k. k)
  plain (read s) e reads stays h = plain_statement s e h.0 reads h.1 stays h.2

  point_statement : (s : Statement) (e d : Ended) → ReadsAs piece (read s) → Some e ≡ Some d → e.commits ≡ true → Ends (StatementMayRun before s) d after → AtPoint before piece e.outcome after
  point_statement s e d reads same commits h =
      let is : e ≡ d = some_same e d same in
      let there : d.commits ≡ true = sym (ap (λ (y : Ended). y.commits) is) ∙ commits in
      record {
        goes_on = goes_on;
        statement = s;
        reads = reads;
        end = h.end;
        runs = h.may;
        point = sym h.commits ∙ there;
        outcome = ap (λ (y : Ended). y.outcome) is ∙ h.outcome;
        behind = ap (λ b. before_commit b after) (sym there) ∙ h.behind;
      }

  refused_commits_not : (x : Refusal) (e : Ended) → e.commits ≡ true → LeavesRefused before x (Some e) after → ⊥
  refused_commits_not x e commits h = let no : e.commits ≡ false = ap (λ (y : Ended). y.commits) (some_same e _ h.0) in cc

  at_point : (r : Reading) (e : Ended) → ReadsAs piece r → e.commits ≡ true → MayLeave before r (Some e) after → AtPoint before piece e.outcome after
  at_point blank e reads commits h = absurd (let x = h.0 in cc)
  at_point bad e reads commits h = absurd (refused_commits_not refusal.Lex e commits h)
  at_point deep e reads commits h = absurd (refused_commits_not refusal.Deep e commits h)
  at_point unread e reads commits h = absurd (refused_commits_not refusal.Syntax e commits h)
  at_point (read s) e reads commits h = point_statement s e h.0 reads h.1 commits h.2

-- no commit point is behind it
pub ran_plain : (before after : SessionState) (piece text : List ℕ) (e : Ended) (faults : ℕ) → Answers before piece (Some e) after → e.commits ≡ false → text ≡ outcome_text e.outcome
    → RanPiece before piece (is_refusal e.outcome) text faults faults after
ran_plain before after piece text e faults a stays written =
    let p = plain before after piece a.goes_on a.reading e a.reads stays a.leaves in
    one_outcome before after piece e.outcome text (is_refusal e.outcome) faults faults p.step written refl (not_store e.outcome faults faults p.not_store refl)

-- the outcome at a commit point is no refusal
answered_at : (o : Outcome) (opened : Bool) → (not (is_refusal o) && not opened) ≡ true → is_refusal o ≡ false
answered_at outcome.Done opened h = refl
answered_at (outcome.Table t) opened h = refl
answered_at (outcome.Refused r) opened h = absurd (let no : false ≡ true = h in cc)

no_refusal_no_store : (o : Outcome) → is_refusal o ≡ false → is_store_refusal o ≡ false
no_refusal_no_store outcome.Done h = refl
no_refusal_no_store (outcome.Table t) h = refl
no_refusal_no_store (outcome.Refused r) h = absurd (let no : true ≡ false = h in cc)

module _ (before mid after : SessionState) (piece text text_behind : List ℕ) (faults now : ℕ) (e : Ended) where
  settled_step : (o : Outcome) (p : AtPoint before piece e.outcome mid) → Settles p.end o after → Step before piece (o ∷ []) after
  settled_step o p settles = record {
    goes_on = p.goes_on;
    reading = read p.statement;
    reads = p.reads;
    answers = record { end = p.end; runs = p.runs; answer = o; settles = settles; made_is = refl };
  }

  -- it is kept
  kept_settles : (p : AtPoint before piece e.outcome mid) → after ≡ record mid { kept = mid.catalog; access = None } → Settles p.end e.outcome after
  kept_settles p is = rw p.point (inl (p.outcome, is ∙ ap (λ (s : SessionState). record s { kept = s.catalog }) p.behind))

  -- or refused
  refused_settles : (p : AtPoint before piece e.outcome mid) → mid.catalog ≢ mid.kept → after ≡ record mid { catalog = mid.kept; access = None }
      → Settles p.end (outcome.Refused refusal.Store) after
  refused_settles p changed is =
      rw p.point (inr (record {
        changed = λ same. changed (ap (λ (s : SessionState). s.catalog) p.behind ∙ same ∙ sym (ap (λ (s : SessionState). s.kept) p.behind));
        outcome = refl;
        undone = is ∙ ap (λ (s : SessionState). record s { catalog = s.kept }) p.behind;
      }))

  ran_point : (refused : Bool) → AtPoint before piece e.outcome mid → text ≡ outcome_text e.outcome → CameTo mid text refused text_behind faults now after
      → RanPiece before piece refused text_behind faults now after
  ran_point false p written c =
      let answered = answered_at p.end.outcome (is_some p.end.after.access) p.point in
      let none : is_refusal e.outcome ≡ false = ap is_refusal p.outcome ∙ answered in
      one_outcome before after piece e.outcome text_behind false faults now (settled_step e.outcome p (kept_settles p c.2)) (c.0 ∙ written) none
      (not_store e.outcome faults now (no_refusal_no_store e.outcome none) c.1)
  ran_point true p written c =
      one_outcome before after piece (outcome.Refused refusal.Store) text_behind true faults now (settled_step (outcome.Refused refusal.Store) p (refused_settles p c.0 c.3)) c.1 refl
      (rose_once faults now c.2)

  pub ran_commit : (refused : Bool) → Answers before piece (Some e) mid → e.commits ≡ true → text ≡ outcome_text e.outcome → CameTo mid text refused text_behind faults now after
      → RanPiece before piece refused text_behind faults now after
  ran_commit refused a commits written c = ran_point refused (at_point before mid piece a.goes_on a.reading e a.reads commits a.leaves) written c

-- where the call goes well
pub finished : {E : Type 0} (before mid after : SessionState) (piece text text_behind : List ℕ) (faults now : ℕ) (e : Ended) (r : Result Bool E) → Answers before piece (Some e) mid
    → e.commits ≡ true → text ≡ outcome_text e.outcome → IfOk r (λ refused. CameTo mid text refused text_behind faults now after)
    → IfOk r (λ refused. RanPiece before piece refused text_behind faults now after)
finished before mid after piece text text_behind faults now e (Ok refused) a commits written c = ran_commit before mid after piece text text_behind faults now e refused a commits written c
finished before mid after piece text text_behind faults now e (Err x) a commits written c = tt
