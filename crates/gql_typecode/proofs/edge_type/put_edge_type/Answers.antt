use Rattle.std.proofs.Common.{◌≡◌, ℕ, not, List, ◌∷◌, ◌++◌, OnOk, ap, subst, ◌∙◌}
use Rattle.std.specs.Int.{w64, to_be_bytes}
use Rattle.gql_fields.specs.Spelling.{flag_spelled, labels_spelled}
use Rattle.gql_typecode.specs.TypeSpelling.{body_spelled}
use Rattle.gql_typecode.proofs.WritingLemmas.{three_parts}
use Rattle.gql_typecode.proofs.edge_type.put_edge_type.Goals as goal

pub returns-clause-written : goal.returns-clause-written
returns-clause-written c =
    let one = c.args.one.now in
    let ends : List ℕ = flag_spelled (not one.directed) ∷ (to_be_bytes w64 one.first ++ to_be_bytes w64 one.second) in
    let labels = c.in_ok-put_labels.ensures.written ∙ ap (λ (labels : List (List ℕ)). c.put_ends.new.out ++ labels_spelled labels) c.as_slice.ensures in
    let whole = three_parts c.args.out.now c.put_ends.new.out c.put_labels.new.out ends (labels_spelled one.labels) (body_spelled one.body) c.in_ok-put_ends.ensures.written labels in
    subst (λ (after : List ℕ). OnOk c.put_body.result (c.put_body.new.out ≡ after)) whole c.put_body.ensures.written
