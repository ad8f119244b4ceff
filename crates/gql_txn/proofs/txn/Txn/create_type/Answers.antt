use Rattle.std.proofs.Common.{◌≡◌, ap, ◌∙◌}
use Rattle.std.specs.Prelude.{None}
use Rattle.gql_graph.specs.Catalog.{type_in, with_type}
use Rattle.gql_txn.specs.TxnData.{TxnData}
use Rattle.gql_txn.proofs.SoundLemmas.{both_sound, sound_after, sound_with_type}
use Rattle.gql_txn.proofs.txn.Txn.create_type.Goals as goal

pub invariant_of-self-2 : goal.invariant_of-self-2
invariant_of-self-2 c =
    let old = c.self.inside.catalog in
    let name = c.in_ok-name.name in
    let seen : old ≡ c.args.self.now.catalog = ap (λ (t : TxnData). t.catalog) c.self.view_is in
    let free : type_in old name ≡ None = (λ i. type_in (seen i) (c.in_ok-name.ensures i)) ∙ c.requires.free in
    let sound = sound_after c.insert_type.new.self (with_type name c.args.kind old) c.in_ok-insert_type.ensures.ok c.graphs-graphs.ensures.catalog (sound_with_type name c.args.kind old c.self.invariant.0 free c.requires.in_order) in
    both_sound old c.insert_type.new.self c.self.inside.kept c.keep.new.kept sound c.self.invariant.1 c.in_ok-keep.ensures.ok
