use Rattle.std.proofs.Common.{refl, sym, ◌∙◌, ◌≡◌, true, false}
use Rattle.gql_session.proofs.WordLemmas.{run_matched, run_unmatched}
use Rattle.gql_session.proofs.words.read_run.Goals as goal

pub returns-in-Ok : goal.returns-in-Ok
returns-in-Ok c =
    c.run_of.ensures ∙ run_matched _ _ c.in-Ok.matches _ _ _ c.in_ok-app.ensures c.in-Ok.ensures.kinds c.in-Ok.ensures.matches c.get_str-session.ensures c.get_str-store.ensures c.get_str-workers.ensures

pub returns : goal.returns
returns c =
    sym (run_unmatched _ _ c.in-Err.error c.in_ok-app.ensures c.in-Err.ensures.kinds (λ memory.
    let is_memory : c.eq.result ≡ true = rw (c.eq.ensures, c.kind.ensures, memory) refl in
    let no_memory : true ≡ false = sym is_memory ∙ c.if-eq.false in
    cc))
