use Rattle.std.proofs.Common.{◌∙◌, ◌∷◌, [], ◌++◌, sym, arith}
use Rattle.std.proofs.lemmas.List.{take_all}
use Rattle.gql_txn.proofs.LoadLemmas.{take-next}
use Rattle.gql_txn.proofs.load.fetch_all.Goals as goal

pub loop-index-preserved : goal.loop-index-preserved
loop-index-preserved g c = record {
  held = c.in_ok-found.ensures.kept ∙ c.loop-index.invariant.held;
  count = c.in_ok-found.ensures.same ∙ c.loop-index.invariant.count;
  faults = c.in_ok-found.ensures.risen ∙ c.loop-index.invariant.faults;
  all = λ h e.
      let here = c.loop-index.invariant.held ∙ e in
      let got = rw here at c.in_ok-found.ensures.found in
      c.in_ok-push_record.ensures.ok ∙ (λ i. c.loop-index.invariant.all h e i ++ c.in_ok-found.found ∷ []) ∙ sym (take-next h.records c.loop-index.index c.in_ok-found.found got);
}

pub returns-clause-all : goal.returns-clause-all
returns-clause-all g c = λ h e.
    let told = rw e at c.len-index-end.ensures.told in
    c.loop-index.invariant.all h e ∙ take_all c.loop-index.index h.records (omega (arith, told))
