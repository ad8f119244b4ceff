use Rattle.std.proofs.Common.{◌∙◌, sym, ap, ◌&&◌}
use Rattle.std.specs.List.{list_all}
use Rattle.gql_values3.specs.Meaning.{datum_of}
use Rattle.gql_values3.specs.PropertyGraph.{is_property}
use Rattle.gql_graph.proofs.PropertyLemmas.{are_properties-shown}
use Rattle.gql_graph.proofs.storable.properties_fit.Goals as goal

pub returns-then-keys_ascend : goal.returns-then-keys_ascend
returns-then-keys_ascend c = rw (← c.as_slice-items.ensures) (c.values_fit.ensures ∙ ap (λ b. b && list_all (λ p. is_property (datum_of p.1)) c.as_slice-items.result.now) c.if-keys_ascend.ensures ∙ sym (are_properties-shown c.as_slice-items.result.now))

pub returns-else-keys_ascend : goal.returns-else-keys_ascend
returns-else-keys_ascend c = rw (← c.as_slice-items.ensures) (c.if-keys_ascend.false ∙ ap (λ b. b && list_all (λ p. is_property (datum_of p.1)) c.as_slice-items.result.now) c.if-keys_ascend.ensures ∙ sym (are_properties-shown c.as_slice-items.result.now))
