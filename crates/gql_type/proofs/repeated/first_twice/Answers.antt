use Rattle.std.proofs.Common.{◌≡◌, ◌+◌, List, map, drop, sym, ap, ◌∙◌, arith}
use Rattle.gql_ast.specs.declared.graph_type.TypeProperty.{TypeProperty}
use Rattle.gql_eval.proofs.EachSteps.{drop_here}
use Rattle.gql_type.specs.BodyFaults.{repeated, first_name}
use Rattle.gql_type.proofs.FaultLemmas.{not_repeated}
use Rattle.gql_type.proofs.repeated.first_twice.Goals as goal

-- the name does not stand before, and is now among those before
pub loop-property-preserved : goal.loop-property-preserved
loop-property-preserved c =
    let before = c.loop-property.before in
    let p = c.property-item.result in
    let rest = drop (c.loop-property.property-index + 1) c.args.properties.now in
    let here = drop_here c.args.properties.now c.loop-property.property-index p (omega arith) c.property-item.is in
    not_repeated before c.add.new.self p.name (map (λ (q : TypeProperty). q.name) rest) (sym c.contains.ensures ∙ c.if-contains.false) c.in_ok-add.ensures.among
    ∙ sym (ap (λ (ps : List TypeProperty). first_name (repeated before (map (λ (q : TypeProperty). q.name) ps))) here) ∙ c.loop-property.invariant
