use Rattle.std.proofs.Common.{◌∙◌, sym}
use Rattle.gql_machine.specs.Machinery.Meaning.{session_state}
use Rattle.gql_session.proofs.PieceLemmas.{wrote_nothing, wrote_all, wrote_part}
use Rattle.gql_session.proofs.run_pieces.write_piece.Goals as goal

pub returns-in-Err-clause-told : goal.returns-in-Err-clause-told
returns-in-Err-clause-told g c = λ before h. record { written = h; unfailed = c.in-Err.ensures.unfailed; kept = c.in-Err.ensures.kept }

pub returns-then-is_empty-clause-told : goal.returns-then-is_empty-clause-told
returns-then-is_empty-clause-told g c = λ before h.
    wrote_nothing (session_state c.args.session.now) (session_state c.run_piece.new.session) c.args.piece.now before c.run_piece.new.text _ _ _ _ c.in-Ok.refused _ h
    (sym c.is_empty.ensures ∙ c.if-is_empty.true) c.in-Ok.ensures.ran c.in-Ok.ensures.kept

pub returns-in-Ok-put-clause-told : goal.returns-in-Ok-put-clause-told
returns-in-Ok-put-clause-told g c = λ before h.
    wrote_all (session_state c.args.session.now) (session_state c.run_piece.new.session) c.args.piece.now before c.run_piece.new.text _ _ _ _ c.in-Ok.refused _ _ h
    (rw c.as_slice.ensures at c.in-Ok-put.ensures.all) c.in-Ok.ensures.ran c.in-Ok.ensures.kept

pub returns-in-Err-put-clause-told : goal.returns-in-Err-put-clause-told
returns-in-Err-put-clause-told g c = λ before h.
    wrote_part (session_state c.args.session.now) (session_state c.run_piece.new.session) c.args.piece.now before c.run_piece.new.text _ _ _ _ c.in-Ok.refused _ _ h
    (rw c.as_slice.ensures at c.in-Err-put.ensures.part) (sym c.is_empty.ensures ∙ c.if-is_empty.false) c.in-Ok.ensures.ran c.in-Ok.ensures.kept
