use Rattle.std.proofs.Common.{ap, sym, ◌∙◌, Some, List, ℕ}
use Rattle.gql_graph.specs.declared.graph_type.GraphType.{GraphType}
use Rattle.gql_rowcode.proofs.PlaceLemmas.{named_at, named_nowhere}
use Rattle.gql_rowcode.proofs.places.type_named.Goals as goal

pub returns-in-Some : goal.returns-in-Some
returns-in-Some c =
    ap (λ (y : List ℕ × GraphType). Some y.1) (sym c.index-types-place.is)
    ∙ sym (named_at c.args.name.now c.args.types.now c.in-Some.place c.index-types-place.result (sym c.in-Some.ensures) c.index-types-place.is)

pub returns-in-None : goal.returns-in-None
returns-in-None c = sym (named_nowhere c.args.name.now c.args.types.now (sym c.in-None.ensures))
