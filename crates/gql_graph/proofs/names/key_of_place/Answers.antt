use Rattle.std.proofs.Common.{◌∙◌, sym, ap, slice_get}
use Rattle.gql_graph.proofs.PropertyLemmas.{names-shown}
use Rattle.gql_graph.proofs.names.key_of_place.Goals as goal

-- the names of the pairs are those of their meaning
pub returns : goal.returns
returns c = rw (← c.as_slice.ensures) (c.key_at.ensures ∙ sym (ap (λ names. slice_get names c.args.index) (names-shown c.as_slice.result.now)))
