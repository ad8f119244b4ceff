use Rattle.std.proofs.Common.{◌≡◌, Option, Some, None, sym, ap, ◌∙◌}
use Rattle.std.specs.Prelude.{is_some}
use Rattle.gql_values3.specs.declared.element.Elem.{Elem}
use Rattle.gql_type.specs.Conformance.{first_misfit}
use Rattle.gql_type.proofs.ConformanceLemmas.{first_is_found, found_conforms, found_is_least}
use Rattle.gql_type.proofs.misfit.fits.Goals as goal

pub returns-in-None : goal.returns-in-None
returns-in-None c =
    let g = c.args.graph.now.graph in
    let t = c.args.kind.now in
    let nothing : None ≡ first_misfit g t = sym c.in-None.is ∙ c.first_unmatched.ensures ∙ first_is_found g t c.count_nodes-count.ensures.graph c.requires in
    record {
      first = nothing;
      conforms = ap (λ (o : Option Elem). is_some o) nothing ∙ found_conforms g t;
      least = tt;
    }

pub returns-in-Some : goal.returns-in-Some
returns-in-Some c =
    let g = c.args.graph.now.graph in
    let t = c.args.kind.now in
    let one : Some c.in-Some.elem ≡ first_misfit g t = sym c.in-Some.is ∙ c.first_unmatched.ensures ∙ first_is_found g t c.count_nodes-count.ensures.graph c.requires in
    record {
      first = one;
      conforms = ap (λ (o : Option Elem). is_some o) one ∙ found_conforms g t;
      least = found_is_least g t c.count_nodes-count.ensures.graph c.in-Some.elem (sym one);
    }
