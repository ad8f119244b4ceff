use Rattle.std.proofs.Common.{◌≡◌, ℕ, List, ap, ◌∙◌}
use Rattle.std.specs.Prelude.{is_some, Some}
use Rattle.std.specs.Option.{option_copied}
use Rattle.gql_graph.specs.Catalog.{CatalogGraph, CatalogData, type_in, with_graph}
use Rattle.gql_txn.specs.TxnData.{TxnData, new_graph}
use Rattle.gql_txn.proofs.SoundLemmas.{both_sound, sound_after, sound_with_graph}
use Rattle.gql_txn.proofs.txn.Txn.create_graph.Goals as goal

pub invariant_of-self-2 : goal.invariant_of-self-2
invariant_of-self-2 c =
    let old = c.self.inside.catalog in
    let name = c.in_ok-name.name in
    let kind = option_copied c.args.kind in
    let seen : old ≡ c.args.self.now.catalog = ap (λ (t : TxnData). t.catalog) c.self.view_is in
    let there = λ (t : List ℕ) (e : kind ≡ Some t). ap (λ (d : CatalogData). is_some (type_in d t)) seen ∙ c.requires.typed t e in
    let made = c.in_ok-insert_graph.ensures.ok ∙ ap (λ (h : CatalogGraph). with_graph name h old) c.in_ok-held.ensures in
    let sound = sound_after c.insert_graph.new.self (with_graph name (new_graph kind) old) made c.graphs-graphs.ensures.catalog (sound_with_graph name kind old c.self.invariant.0 there) in
    both_sound old c.insert_graph.new.self c.self.inside.kept c.keep.new.kept sound c.self.invariant.1 c.in_ok-keep.ensures.ok
