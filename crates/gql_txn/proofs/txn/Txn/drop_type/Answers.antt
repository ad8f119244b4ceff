use Rattle.std.proofs.Common.{◌≡◌, true, ap, ◌∙◌}
use Rattle.gql_graph.specs.Catalog.{without_type}
use Rattle.gql_txn.specs.TxnData.{TxnData}
use Rattle.gql_txn.specs.Edits.{is_unused}
use Rattle.gql_txn.proofs.SoundLemmas.{both_sound, sound_after, sound_without_type}
use Rattle.gql_txn.proofs.txn.Txn.drop_type.Goals as goal

pub invariant_of-self-2 : goal.invariant_of-self-2
invariant_of-self-2 c =
    let old = c.self.inside.catalog in
    let name = c.as_str.result.now in
    let seen : old ≡ c.args.self.now.catalog = ap (λ (t : TxnData). t.catalog) c.self.view_is in
    let unused : is_unused name old ≡ true = (λ i. is_unused (c.as_str.ensures i) (seen i)) ∙ c.requires in
    let sound = sound_after c.remove_type.new.self (without_type name old) c.remove_type.ensures c.graphs-graphs.ensures.catalog (sound_without_type name old c.self.invariant.0 unused) in
    both_sound old c.remove_type.new.self c.self.inside.kept c.keep.new.kept sound c.self.invariant.1 c.in_ok-keep.ensures.ok
