use Rattle.std.proofs.Common.{◌≡◌, ap, rules, ◌∙◌}
use Rattle.std.specs.Prelude.{None}
use Rattle.gql_graph.specs.Catalog.{replaced}
use Rattle.gql_type.specs.SoundCatalog.{is_sound}
use Rattle.gql_txn.specs.TxnData.{misfit_in}
use Rattle.gql_txn.proofs.SoundLemmas.{sound_after, sound_replaced}
use Rattle.gql_txn.proofs.txn.Txn.replace_graph.Goals as goal

pub invariant_of-self-2 : goal.invariant_of-self-2
invariant_of-self-2 c =
    let old = c.self.inside.catalog in
    let name = c.args.name.now in
    let none : misfit_in old name c.args.graph.graph ≡ None = search rules in
    let sound = sound_after c.put_graph.new.catalog (replaced name c.args.graph.graph old) c.in_ok-put_graph.ensures.put c.graphs-graphs.ensures.catalog (sound_replaced old name c.args.graph.graph c.self.invariant.0 none) in
    (sound, ap is_sound c.in_ok-put_graph.ensures.kept ∙ c.self.invariant.1)
