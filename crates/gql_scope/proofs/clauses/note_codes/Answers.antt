use Rattle.gql_scope.proofs.CodeLemmas.{by_codes, on_all}
use Rattle.gql_scope.proofs.clauses.note_codes.Goals as goal

pub returns : goal.returns
returns c =
    on_all c.note_three-3.result
    (λ misuses columns parameters. by_codes _ c.in_ok-note_three.ensures.first c.in_ok-note_three.ensures.second c.in_ok-note_three.ensures.third
    c.in_ok-note_three-2.ensures.first c.in_ok-note_three-2.ensures.second c.in_ok-note_three-2.ensures.third misuses columns parameters)
    c.note_three-3.ensures.first c.note_three-3.ensures.second c.note_three-3.ensures.third
