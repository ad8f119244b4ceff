use Rattle.gql_graph.specs.Catalog.{without_graph}
use Rattle.gql_txn.proofs.SoundLemmas.{both_sound, sound_after, sound_without_graph}
use Rattle.gql_txn.proofs.txn.Txn.drop_graph.Goals as goal

pub invariant_of-self-2 : goal.invariant_of-self-2
invariant_of-self-2 c =
    let old = c.self.inside.catalog in
    let name = c.as_str.result.now in
    let sound = sound_after c.remove_graph.new.self (without_graph name old) c.remove_graph.ensures c.graphs-graphs.ensures.catalog (sound_without_graph name old c.self.invariant.0) in
    both_sound old c.remove_graph.new.self c.self.inside.kept c.keep.new.kept sound c.self.invariant.1 c.in_ok-keep.ensures.ok
