use Rattle.std.proofs.Common.{◌≡◌, Some, None, refl, sym, ap}
use Rattle.std.specs.Prelude.{unwrap_or}
use Rattle.gql_session.specs.RunEnds.{HoldsText}
use Rattle.gql_session.proofs.CommandLemmas.{content_of}
use Rattle.gql_session.proofs.ReadingLemmas.{uncounted}
use Rattle.gql_session.proofs.command_text.text_of.Goals as goal

pub returns-in-Run-clause-all : goal.returns-in-Run-clause-all
returns-in-Run-clause-all g c = λ text t.
    let told : HoldsText c.in-Run.words.session.now (g.S.Source.told c.args.source.now) text = rw c.in-Run.is at t in
    c.read_named.ensures.all (content_of told) told.source_is refl

pub returns-in-Run-clause-too_long : goal.returns-in-Run-clause-too_long
returns-in-Run-clause-too_long g c = λ text t e.
    let told : HoldsText c.in-Run.words.session.now (g.S.Source.told c.args.source.now) text = rw c.in-Run.is at t in
    c.read_named.ensures.too_long (content_of told) told.source_is refl e

pub returns-in-Run-clause-leaves : goal.returns-in-Run-clause-leaves
returns-in-Run-clause-leaves g c = λ d n h.
    let named : Some c.in-Run.words.session.now ≡ Some d.name = rw c.in-Run.is at n in
    c.read_named.ensures.leaves d h (ap (λ o. unwrap_or o d.name) (sym named))

pub returns-in-Selftest-clause-leaves : goal.returns-in-Selftest-clause-leaves
returns-in-Selftest-clause-leaves g c = λ d n h. absurd (let no : None ≡ Some d.name = rw c.in-Selftest.is at n in cc)

pub returns-in-Selftest-clause-risen : goal.returns-in-Selftest-clause-risen
returns-in-Selftest-clause-risen g c = sym (uncounted _ _ c.generate_within.ensures.made)
