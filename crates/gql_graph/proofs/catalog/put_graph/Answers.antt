use Rattle.std.proofs.Common.{◌∙◌, refl, ap, Some}
use Rattle.gql_graph.specs.Room.{GraphInMemory}
use Rattle.gql_graph.proofs.CatalogLemmas.{put_there, put_nowhere, found_there, found_nowhere}
use Rattle.gql_graph.proofs.catalog.put_graph.Goals as goal

pub returns-in-None-clause-put : goal.returns-in-None-clause-put
returns-in-None-clause-put c = put_nowhere c.args.name.now c.args.graph.graph c.args.graphs.now.items (rw c.as_slice.ensures.value at c.in-None.ensures)

pub returns-in-None-clause-old : goal.returns-in-None-clause-old
returns-in-None-clause-old c = found_nowhere c.args.name.now c.args.graph.graph c.args.graphs.now.items (rw c.as_slice.ensures.value at c.in-None.ensures)

pub returns-in-Some-clause-put : goal.returns-in-Some-clause-put
returns-in-Some-clause-put c = rw c.replace.ensures.after (put_there c.args.name.now c.args.graph.graph c.args.graphs.now.items c.in-Some.at c.args.graph c.index_mut.result.now refl c.requires (rw c.as_slice.ensures.value at c.in-Some.ensures) c.index_mut.ensures.value)

pub returns-in-Some-clause-old : goal.returns-in-Some-clause-old
returns-in-Some-clause-old c = ap (λ (g : GraphInMemory). Some g.graph) c.replace.ensures.value ∙ found_there c.args.name.now c.args.graph.graph c.args.graphs.now.items c.in-Some.at c.index_mut.result.now (rw c.as_slice.ensures.value at c.in-Some.ensures) c.index_mut.ensures.value
