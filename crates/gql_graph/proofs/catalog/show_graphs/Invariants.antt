use Rattle.std.proofs.Common.{◌≡◌, true, map, take}
use Rattle.std.specs.List.{list_all}
use Rattle.gql_graph.specs.Bare.{bare}
use Rattle.gql_graph.proofs.CatalogLemmas.{is_one}
use Rattle.gql_graph.proofs.catalog.show_graphs.Given as goal

abbrev pub invariant-loop-held : goal.invariant-loop-held
invariant-loop-held l = list_all is_one (map bare (take l.held-index l.graphs)) ≡ true
