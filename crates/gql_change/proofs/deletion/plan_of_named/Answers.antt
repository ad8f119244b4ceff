use Rattle.std.proofs.Common.{◌≡◌, ◌∙◌, None, sym}
use Rattle.gql_change.specs.Deletion.{first_left}
use Rattle.gql_change.proofs.DeletionLemmas.{refusal_found, lead_out}
use Rattle.gql_change.proofs.deletion.plan_of_named.Goals as goal

pub returns-in-Some : goal.returns-in-Some
returns-in-Some g c =
    sym (refusal_found c.args.detachment c.args.named.now (g.V.View.graph c.args.view.now) c.deref-3.result.now c.deref-2.result.now
    (c.deref-2.ensures.value ∙ c.in_ok-nodes.ensures) (c.deref-3.ensures.value ∙ c.in_ok-edges.ensures.edges)) ∙ sym c.refusal_of.ensures ∙ c.in-Some.is

pub returns : goal.returns
returns g c =
    let graph = g.V.View.graph c.args.view.now in
    let none : first_left c.args.detachment c.args.named.now graph graph.nodes ≡ None =
    sym (refusal_found c.args.detachment c.args.named.now graph c.deref-3.result.now c.deref-2.result.now
    (c.deref-2.ensures.value ∙ c.in_ok-nodes.ensures) (c.deref-3.ensures.value ∙ c.in_ok-edges.ensures.edges)) ∙ sym c.refusal_of.ensures ∙ c.in-None.is in (
      none,
      lead_out c.args.detachment c.args.named.now graph c.node_count-count.ensures.graph none c.in_ok-outs-in-None.field-0 c.deref-in-None.result.now c.deref-in-None-2.result.now c.in_ok-outs-in-None.ensures
          (c.deref-in-None.ensures.value ∙ c.in_ok-nodes.ensures) (c.deref-in-None-2.ensures.value ∙ c.in_ok-edges.ensures.edges),
    )
