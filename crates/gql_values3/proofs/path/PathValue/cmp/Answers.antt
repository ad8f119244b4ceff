use Rattle.std.proofs.Common.{◌∙◌}
use Rattle.std.specs.Ordering.{ordering_then}
use Rattle.gql_values3.specs.ValueOrder.{step_cmp}
use Rattle.gql_values3.specs.declared.element.NodeId.{NodeId}
use Rattle.gql_values3.specs.declared.element.EdgeId.{EdgeId}
use Rattle.gql_values3.proofs.ItemLemmas.{slice_cmp-map}
use Rattle.gql_values3.proofs.path.PathValue.cmp.Goals as goal

pub returns : goal.returns
returns c =
    let steps = rw (c.as_slice.ensures.value, c.as_slice-2.ensures.value) at c.cmp-2.ensures
    ∙ slice_cmp-map step_cmp (λ (s : EdgeId × NodeId). (s.0.0, s.1.0)) c.self.inside.steps.items c.other.inside.steps.items in
    rw (← c.self.view_is, ← c.other.view_is) (c.then.ensures ∙ (λ i. ordering_then (c.cmp.ensures i) (steps i)))
