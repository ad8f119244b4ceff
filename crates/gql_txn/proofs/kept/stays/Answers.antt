use Rattle.std.proofs.Common.{sym, ◌∙◌}
use Rattle.gql_values3.proofs.WordLemmas.{same_is}
use Rattle.gql_txn.proofs.KeptLemmas.{stays_kept}
use Rattle.gql_txn.proofs.kept.stays.Goals as goal

pub returns-in-OneGraph : goal.returns-in-OneGraph
returns-in-OneGraph c = λ yes.
    let same = sym c.as_str.ensures ∙ same_is c.as_str.result.now c.args.name.now (sym c.eq.ensures ∙ yes) in
    stays_kept c.args.name.now c.in-OneGraph.own c.in-OneGraph.graph c.args.kept.now c.in-OneGraph.is same
