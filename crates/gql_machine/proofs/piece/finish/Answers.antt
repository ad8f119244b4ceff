use Rattle.gql_machine.specs.Machinery.Meaning.{session_state}
use Rattle.gql_machine.proofs.PieceLemmas.{finished, ran_plain}
use Rattle.gql_machine.proofs.piece.finish.Goals as goal

pub returns-then-end-clause-ran : goal.returns-then-end-clause-ran
returns-then-end-clause-ran g c = λ before piece a.
    finished before (session_state c.args.session.now) (session_state c.keep_changes.new.session) piece c.write_text.new.buffer c.keep_changes.new.text _ _ c.args.end.now c.keep_changes.result a
    c.if-end.true c.in_ok-write_text.ensures c.keep_changes.ensures.came_to

pub returns-else-end-clause-ran : goal.returns-else-end-clause-ran
returns-else-end-clause-ran g c = λ before piece a.
    rw c.is_refusal.ensures (ran_plain before (session_state c.args.session.now) piece c.write_text.new.buffer c.args.end.now _ a c.if-end.false c.in_ok-write_text.ensures)
