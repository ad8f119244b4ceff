-- The kept catalog in memory.
use Rattle.gql_graph.specs.Catalog.{CatalogData, replaced}
use Rattle.gql_txn.specs.declared.kept.Kept.{Kept}
use Rattle.gql_txn.specs.declared.kept.Kept.TheVariants as form

-- it is told by what it differs in from the catalog that statements see
abbrev pub kept_of : CatalogData → Kept → CatalogData
kept_of c form.Same = c
kept_of c (form.OneGraph name g) = replaced name g.graph c
kept_of c (form.Whole k) = k
