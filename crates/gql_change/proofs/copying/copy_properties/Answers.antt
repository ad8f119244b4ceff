use Rattle.std.proofs.Common.{◌≡◌, ◌∙◌, ◌++◌, ◌∷◌, [], map, take, vec_len, slice_get, sym, ap, Some, None}
use Rattle.std.proofs.lemmas.List.{map_push}
use Rattle.gql_values3.specs.Meaning.{datum_of}
use Rattle.gql_values3.specs.Lookup.{properties_of}
use Rattle.gql_graph.proofs.CatalogLemmas.{names}
use Rattle.gql_change.proofs.PlaceLemmas.{shown}
use Rattle.gql_change.proofs.CopyLemmas.{property_taken, found_value, all_taken, names_over, copied_none, names_fit}
use Rattle.gql_change.proofs.copying.copy_properties.Goals as goal

pub loop-name-preserved : goal.loop-name-preserved
loop-name-preserved g c =
    let graph = g.V.View.graph c.args.view.now in
    let ps = properties_of graph c.args.elem in
    let n = vec_len c.loop-name.properties in
    let x = c.in-Some.name.now in
    let got : Some x ≡ slice_get (names ps) n = c.in-Some.ensures ∙ ap (slice_get (names ps)) c.len.ensures in
    let copy : c.in_ok-try_copy.field-0 ≡ x = c.in_ok-try_copy.ensures in
    let value : datum_of c.in_ok-value.value ≡ found_value x ps = c.in_ok-value.ensures in
    record {
      copied = ap (map shown) c.in_ok-push.ensures.items ∙ map_push shown c.loop-name.properties.items (c.in_ok-try_copy.field-0, c.in_ok-value.value)
          ∙ (λ i. c.loop-name.invariant.copied i ++ (copy i, value i) ∷ [])
          ∙ sym (property_taken ps n x (names_fit graph c.requires c.args.elem) got)
          ∙ ap (λ k. take k ps) (sym c.in_ok-push.ensures.len);
    }

pub returns : goal.returns
returns g c =
    let graph = g.V.View.graph c.args.view.now in
    let ps = properties_of graph c.args.elem in
    let n = vec_len c.loop-name.properties in
    let none : None ≡ slice_get (names ps) n =
    copied_none c.name_at.result (slice_get (names ps) n) (λ x p. c.in_default.not-Some x p) (c.name_at.ensures ∙ ap (slice_get (names ps)) c.len.ensures) in
    c.loop-name.invariant.copied ∙ all_taken ps n (names_over ps n none)
