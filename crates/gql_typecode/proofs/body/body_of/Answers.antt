use Rattle.std.proofs.Common.{List, ap, sym, ◌∙◌}
use Rattle.gql_values3.specs.Texts.{texts_ascend}
use Rattle.gql_graph.specs.declared.graph_type.PropType.{PropType}
use Rattle.gql_typecode.proofs.BodyLemmas.{names, body_at-in_order, body_at-disorder}
use Rattle.gql_typecode.proofs.body.body_of.Goals as goal

pub returns-then-not-keys_ascend : goal.returns-then-not-keys_ascend
returns-then-not-keys_ascend c =
    body_at-disorder c.args.bytes.now c.in_ok-body.body c.in_ok-body.rest.now c.in_ok-body.ensures (ap (λ (ts : List PropType). texts_ascend (names ts)) (sym c.as_slice.ensures) ∙ sym c.keys_ascend.ensures ∙ c.if-not-keys_ascend.true)

pub returns : goal.returns
returns c =
    body_at-in_order c.args.bytes.now c.in_ok-body.body c.in_ok-body.rest.now c.in_ok-body.ensures (ap (λ (ts : List PropType). texts_ascend (names ts)) (sym c.as_slice.ensures) ∙ sym c.keys_ascend.ensures ∙ c.if-not-keys_ascend.false)
