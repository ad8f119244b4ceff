use Rattle.gql_scope.proofs.CodeLemmas.{on_ok, stays}
use Rattle.gql_scope.specs.Machinery.Codes.{apart_by}
use Rattle.std.proofs.Common.{sym, ◌∙◌}
use Rattle.gql_scope.proofs.clauses.note_code.Goals as goal

pub returns-then-is_some : goal.returns-then-is_some
returns-then-is_some c = stays c.args.slot.now (apart_by c.args.params.now c.args.code c.args.scope.now c.args.clause.now) (sym c.is_some.ensures ∙ c.if-is_some.true)

pub returns : goal.returns
returns c = on_ok c.note.result (λ notes. notes (apart_by c.args.params.now c.args.code c.args.scope.now c.args.clause.now) c.ask.ensures) c.note.ensures
