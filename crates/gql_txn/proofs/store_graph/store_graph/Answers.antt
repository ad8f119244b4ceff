use Rattle.std.proofs.Common.{sym, subst, ◌∙◌}
use mathlib.Core.Bool.{true≢false}
use Rattle.gql_graph.specs.Bare.{bare_held}
use Rattle.gql_rowcode.proofs.CatalogLemmas.{sound_catalog}
use Rattle.gql_txn.specs.Keeps.{Keeps}
use Rattle.gql_txn.proofs.KeptLemmas.{replaced_nowhere, held_same, same_held}
use Rattle.gql_txn.proofs.SameGraph.{graph_decides}
use Rattle.gql_txn.proofs.store_graph.store_graph.Goals as goal

pub returns-then-same_graph-clause-stored : goal.returns-then-same_graph-clause-stored
returns-then-same_graph-clause-stored g c =
    let catalog = c.args.catalog.now in
    let name = c.args.name.now in
    let before = c.args.before.now.graph in
    let after = bare_held c.in-Some.after.now in
    let same = (graph_decides before after.graph).0 (sym c.same_graph.ensures ∙ c.if-same_graph.true) in
    λ keeps. subst (Keeps (g.K.Keeper.held c.args.keeper.now)) (held_same name catalog before after (sound_catalog catalog c.requires.sound) (sym c.in-Some.ensures.value) same) keeps

pub returns-in-None-clause-stored : goal.returns-in-None-clause-stored
returns-in-None-clause-stored g c = λ keeps. subst (Keeps (g.K.Keeper.held c.args.keeper.now)) (replaced_nowhere c.args.name.now c.args.catalog.now c.args.before.now.graph (sym c.in-None.ensures.value)) keeps

pub returns-else-same_graph-clause-idle : goal.returns-else-same_graph-clause-idle
returns-else-same_graph-clause-idle g c =
    let before = c.args.before.now.graph in
    let after = bare_held c.in-Some.after.now in
    λ same. absurd (true≢false (sym ((graph_decides before after.graph).1 (same_held c.args.name.now c.args.catalog.now before after (sym c.in-Some.ensures.value) same)) ∙ sym c.same_graph.ensures ∙ c.if-same_graph.false))
