use Rattle.std.proofs.Common.{◌∙◌, sym, refl}
use Rattle.gql_machine.specs.StatementRun.{refused_with}
use Rattle.gql_machine.specs.Machinery.Meaning.{session_state}
use Rattle.gql_machine.proofs.AllowedLemmas.{allowed}
use Rattle.gql_machine.proofs.KeptLemmas.{kept_executed}
use Rattle.gql_machine.proofs.statement.run_statement.Goals as goal

-- what refuses the statement is its outcome, and the session is as it was
pub returns-in-Some-clause-ends : goal.returns-in-Some-clause-ends
returns-in-Some-clause-ends g c =
    let before = session_state c.args.session.now in
    let refused = sym c.in_ok-refusal.ensures ∙ c.in-Some.is in
    record { end = refused_with before c.in-Some.refusal; may = rw refused refl; outcome = refl; commits = refl; behind = refl }

-- nothing refuses the statement before it is executed
pub execute-requires-after_bounds : goal.execute-requires-after_bounds
execute-requires-after_bounds g c κs within = allowed (session_state c.args.session.now) c.args.statement.now (sym c.in_ok-refusal.ensures ∙ c.in-None.is)

pub returns-in-None-clause-kept : goal.returns-in-None-clause-kept
returns-in-None-clause-kept g c = kept_executed (session_state c.args.session.now) c.args.statement.now (session_state c.execute.new.session) c.execute.result c.execute.ensures
