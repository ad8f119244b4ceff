use Rattle.std.proofs.Common.{◌≡◌, ◌<◌, ◌∙◌, ◌++◌, Bool, Err, length, get_or, refl, ap, arith}
use Rattle.gql_lexer.specs.Pieces.{pieces_of}
use Rattle.gql_machine.specs.Outcomes.{outcome_texts}
use Rattle.gql_machine.specs.SessionState.{starting}
use Rattle.gql_machine.specs.Machinery.Meaning.{session_state}
use Rattle.gql_session.specs.Machinery.TextEndings.{after_running}
use Rattle.gql_session.proofs.LengthLemmas.{piece-within}
use Rattle.gql_session.proofs.CommandLemmas.{same_again, same_then}
use Rattle.gql_session.proofs.RunLemmas.{ran_none, ran_nothing, ran_more, ran_all, ran_closed, early_end}
use Rattle.gql_session.proofs.run_pieces.run_pieces.Goals as goal

pub returns-in_default-clause-told : goal.returns-in_default-clause-told
returns-in_default-clause-told g c = λ before h. ran_nothing (starting c.args.txn.catalog) c.args.text.now before _ _ _ h

pub returns-in_default-new-clause-told : goal.returns-in_default-new-clause-told
returns-in_default-new-clause-told g c = λ before h. ran_nothing (starting c.args.txn.catalog) c.args.text.now before _ _ _ h

pub loop-piece-init : goal.loop-piece-init
loop-piece-init g c = record {
  later = omega arith;
  uncounted = refl;
  same = same_again _;
  told = λ before h. ran_none (starting c.args.txn.catalog) (session_state c.in-Ok-new.session) c.args.text.now before _ _ _ c.in-Ok-new.ensures h;
}

pub returns-then-session-clause-told : goal.returns-then-session-clause-told
returns-then-session-clause-told g c = λ before h.
    let at = c.loop-piece in
    ran_closed (starting c.args.txn.catalog) c.args.text.now before at.piece-index _ at.refused (session_state at.session) _ _ _ c.if-session.true (at.invariant.told before h)

pub write_piece-requires-clause-short : goal.write_piece-requires-clause-short
write_piece-requires-clause-short g c =
    let at = c.loop-piece in
    let items : c.as_slice-piece-items.result.now ≡ pieces_of c.args.text.now = c.as_slice-piece-items.ensures ∙ c.in-Ok.ensures in
    let here : at.piece-index < length (pieces_of c.args.text.now) = rw (← items) c.loop-piece-test.true in
    let is : c.piece-item.result ≡ get_or (pieces_of c.args.text.now) at.piece-index c.piece-item.result = rw (← items) c.piece-item.is in
    omega (arith, c.requires.within, ap length c.as_slice-bytes.ensures, piece-within c.args.text.now at.piece-index c.piece-item.result here is)

pub returns-in-Err-clause-told : goal.returns-in-Err-clause-told
returns-in-Err-clause-told g c = λ before h.
    let at = c.loop-piece in
    let items : c.as_slice-piece-items.result.now ≡ pieces_of c.args.text.now = c.as_slice-piece-items.ensures ∙ c.in-Ok.ensures in
    let here : at.piece-index < length (pieces_of c.args.text.now) = rw (← items) c.loop-piece-test.true in
    let is : c.piece-item.result ≡ get_or (pieces_of c.args.text.now) at.piece-index c.piece-item.result = rw (← items) c.piece-item.is in
    let ran = at.invariant.told before h in
    let failed = rw c.as_slice-bytes.ensures at (c.in-Err.ensures.told (before ++ outcome_texts ran.outcomes) ran.written) in
    early_end (starting c.args.txn.catalog) c.args.text.now before at.piece-index c.piece-item.result _ _ _ at.refused (session_state at.session) _ _ _ _ _ _ c.in-Err.fault here is ran failed

pub returns-in-Err-clause-same : goal.returns-in-Err-clause-same
returns-in-Err-clause-same g c = same_then _ _ _ c.loop-piece.invariant.same c.in-Err.ensures.same

pub returns-in-Err-clause-risen : goal.returns-in-Err-clause-risen
returns-in-Err-clause-risen g c = c.in-Err.ensures.risen ∙ ap (λ n. after_running {T = Bool} (Err c.in-Err.fault) n) c.loop-piece.invariant.uncounted

pub loop-piece-preserved : goal.loop-piece-preserved
loop-piece-preserved g c = record {
  later = omega (arith, c.in-Ok-write_piece.ensures.later, c.loop-piece.invariant.later);
  uncounted = c.in-Ok-write_piece.ensures.risen ∙ c.loop-piece.invariant.uncounted;
  same = same_then _ _ _ c.loop-piece.invariant.same c.in-Ok-write_piece.ensures.same;
  told = λ before h.
      let at = c.loop-piece in
      let items : c.as_slice-piece-items.result.now ≡ pieces_of c.args.text.now = c.as_slice-piece-items.ensures ∙ c.in-Ok.ensures in
      let here : at.piece-index < length (pieces_of c.args.text.now) = rw (← items) c.loop-piece-test.true in
      let is : c.piece-item.result ≡ get_or (pieces_of c.args.text.now) at.piece-index c.piece-item.result = rw (← items) c.piece-item.is in
      let ran = at.invariant.told before h in
      let step = rw c.as_slice-bytes.ensures at (c.in-Ok-write_piece.ensures.told (before ++ outcome_texts ran.outcomes) ran.written) in
      ran_more (starting c.args.txn.catalog) c.args.text.now before at.piece-index c.piece-item.result _ _ _ at.refused c.in-Ok-write_piece.piece_refused (session_state at.session)
      (session_state c.write_piece.new.session) _ _ _ _ _ here is ran step;
}

pub returns-clause-told : goal.returns-clause-told
returns-clause-told g c = λ before h.
    let at = c.loop-piece in
    let items : c.as_slice-piece-items.result.now ≡ pieces_of c.args.text.now = c.as_slice-piece-items.ensures ∙ c.in-Ok.ensures in
    let size = ap length items in
    let all : at.piece-index ≡ length (pieces_of c.args.text.now) = omega (arith, size, c.loop-piece-test.false, at.auto.piece-index-end) in
    ran_all (starting c.args.txn.catalog) c.args.text.now before at.piece-index _ at.refused (session_state at.session) _ _ _ all (at.invariant.told before h)
