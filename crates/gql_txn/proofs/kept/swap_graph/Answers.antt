use Rattle.std.proofs.Common.{sym, ◌∙◌}
use Rattle.gql_graph.specs.Catalog.{replaced}
use Rattle.gql_txn.proofs.KeptLemmas.{replaced_missed, replaced_back}
use Rattle.gql_txn.proofs.kept.swap_graph.Goals as goal

pub returns-in-None-clause-kept : goal.returns-in-None-clause-kept
returns-in-None-clause-kept c = c.in-None.ensures.put ∙ replaced_missed c.args.name.now c.args.catalog.now c.args.graph.graph (sym c.in-None.ensures.old)

pub returns-in-Some-clause-kept : goal.returns-in-Some-clause-kept
returns-in-Some-clause-kept c =
    let name = c.args.name.now in
    let was = c.args.catalog.now in
    (λ i. replaced (c.in_ok-own.ensures i) c.in-Some.graph.graph (c.in-Some.ensures.put i)) ∙ replaced_back name was c.in-Some.graph.graph c.args.graph.graph c.graphs-graphs.ensures.catalog (sym c.in-Some.ensures.old)
