use Rattle.std.proofs.Common.{◌≡◌, true, ◌&&◌, map}
use Rattle.std.proofs.lemmas.Bool.{and_parts}
use Rattle.std.specs.List.{list_all}
use Rattle.gql_values3.specs.Texts.{texts_ascend}
use Rattle.gql_graph.specs.Bare.{bare}
use Rattle.gql_graph.proofs.CatalogLemmas.{names, names-bare, is_one, catalog-put}
use Rattle.gql_graph.proofs.catalog.Catalog.replace.Goals as goal

pub put_graph-requires : goal.put_graph-requires
put_graph-requires c =
    let gs = map bare c.self.inside.graphs.items in
    let ts = c.self.inside.types.items in
    let in_order : (texts_ascend (names gs) && texts_ascend (names ts)) ≡ true = (and_parts _ (list_all is_one gs) c.self.invariant).0 in
    let ascend : texts_ascend (names gs) ≡ true = (and_parts _ (texts_ascend (names ts)) in_order).0 in
    rw (names-bare c.self.inside.graphs.items) at ascend

pub invariant_of-self : goal.invariant_of-self
invariant_of-self c = rw c.put_graph.ensures.put (catalog-put c.args.name.now c.args.graph.graph _ c.self.inside.types.items c.count_nodes-count.ensures.graph c.self.invariant)
