use Rattle.std.proofs.Common.{refl, sym, ◌∙◌, ◌≡◌, true, false}
use Rattle.gql_session.proofs.WordLemmas.{selftest_matched, selftest_unmatched}
use Rattle.gql_session.proofs.words.read_selftest.Goals as goal

pub returns-in-Ok : goal.returns-in-Ok
returns-in-Ok c =
    c.selftest_of.ensures ∙ selftest_matched _ _ c.in-Ok.matches _ c.in_ok-app.ensures c.in-Ok.ensures.kinds c.in-Ok.ensures.matches c.get_str.ensures

pub returns : goal.returns
returns c =
    sym (selftest_unmatched _ _ c.in-Err.error c.in_ok-app.ensures c.in-Err.ensures.kinds (λ memory.
    let is_memory : c.eq.result ≡ true = rw (c.eq.ensures, c.kind.ensures, memory) refl in
    let no_memory : true ≡ false = sym is_memory ∙ c.if-eq.false in
    cc))
