use Rattle.std.proofs.Common.{◌≡◌, ◌+◌, ◌++◌, None, drop, refl, sym, ap, ◌∙◌, arith}
use Rattle.std.specs.Option.{option_copied}
use Rattle.gql_eval.proofs.EachSteps.{drop_here}
use Rattle.gql_type.specs.BodyFaults.{repeated, alias_in, used_in, unknown, aliases_at_fault, first_name}
use Rattle.gql_type.proofs.FaultLemmas.{same_faults, goes_on}
use Rattle.gql_type.proofs.aliases.first_at_fault.Goals as goal

-- the element has no fault, and its alias is now among those before
pub loop-element-preserved : goal.loop-element-preserved
loop-element-preserved c =
    let known = c.args.known.now in
    let before = c.loop-element.before in
    let e = c.element-item.result in
    let rest = drop (c.loop-element.element-index + 1) c.args.elements.now in
    let none : None ≡ first_name (repeated before (alias_in e) ++ unknown known (used_in e)) = sym (ap option_copied c.in_default.is) ∙ c.fault_in.ensures in
    let same = same_faults known known c.declare.new.known (alias_in e ++ before) (λ x. refl) c.in_ok-declare.ensures rest in
    let here = drop_here c.args.elements.now c.loop-element.element-index e (omega arith) c.element-item.is in
    ap first_name same ∙ sym (goes_on (repeated before (alias_in e) ++ unknown known (used_in e)) (aliases_at_fault known (alias_in e ++ before) rest) none)
    ∙ sym (ap (λ es. first_name (aliases_at_fault known before es)) here) ∙ c.loop-element.invariant
