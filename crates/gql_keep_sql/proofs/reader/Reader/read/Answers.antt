-- The run is kept in reverse.
use Rattle.gql_keep_sql.proofs.HeldLemmas.{run_held}
use Rattle.gql_keep_sql.proofs.RunLemmas.{run_selected, run_in_reverse}
use Rattle.gql_keep_sql.proofs.reader.Reader.read.Goals as goal

pub invariant_of-self-2 : goal.invariant_of-self-2
invariant_of-self-2 g c =
    let selected = run_selected g.S.Store _ _ _ _ c.in_ok-run.ensures.read in
    record { held = ∣ run_held g.S.Store c.in_ok-run.run'.items c.reverse.new.self.items c.args.self.now.place c.select.new.self selected c.reverse.ensures.permutation ∣₁ }

pub returns-clause-read : goal.returns-clause-read
returns-clause-read g c = run_in_reverse g.S.Store _ _ c.reverse.new.self.items _ _ c.reverse.ensures.items c.in_ok-run.ensures.read
