use Rattle.std.proofs.Common.{◌∙◌, sym, ap, List, ℕ}
use Rattle.std.specs.Prelude.{find, option_map}
use Rattle.gql_values3.specs.Datum.{Datum}
use Rattle.gql_values3.specs.Meaning.{datum_of}
use Rattle.gql_values3.specs.Texts.{same_text}
use Rattle.gql_values3.specs.declared.value.Value.{Value}
use Rattle.gql_values3.proofs.FindLemmas.{find-map, option_map-twice}
use Rattle.gql_values3.proofs.properties.Properties.get.Goals as goal

pub returns : goal.returns
returns c =
    let shown : List ℕ × Value → List ℕ × Datum = λ q. (q.0, datum_of q.1) in
    let items = c.self.inside.items.items in
    let found = find (λ (q : List ℕ × Value). same_text c.args.name.now q.0) items in
    let mine = ap (option_map datum_of) (rw c.as_slice.ensures.value at c.value_of.ensures) in
    rw (← c.self.view_is) (mine ∙ option_map-twice (λ (q : List ℕ × Value). q.1) datum_of found
    ∙ sym (ap (option_map (λ (q : List ℕ × Datum). q.1)) (find-map (λ (q : List ℕ × Datum). same_text c.args.name.now q.0) shown items)
    ∙ option_map-twice shown (λ (q : List ℕ × Datum). q.1) found))
