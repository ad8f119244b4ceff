use Rattle.std.proofs.Common.{◌≡◌, ◌∙◌, ap, sym, map, cond, true, false, Bool, None, ℕ, List}
use Rattle.gql_values3.specs.Datum.{Datum}
use Rattle.gql_values3.specs.Texts.{texts_ascend}
use Rattle.gql_values3.specs.declared.value.Value.{Value}
use Rattle.gql_fields.specs.Machinery.Reading.{pair_of}
use Rattle.gql_fields.proofs.ValueLemmas.{some}
use Rattle.gql_fields.proofs.PropertyLemmas.{names_of, properties_read}
use Rattle.gql_fields.proofs.properties.properties_of.Goals as goal

pub returns-then-names_ascend : goal.returns-then-names_ascend
returns-then-names_ascend c =
    let ps = map pair_of c.in_ok-pairs.pairs in
    let ascend : texts_ascend (names_of ps) ≡ true = ap (λ (pairs : List (List ℕ × Value)). texts_ascend (names_of (map pair_of pairs))) (sym c.as_slice.ensures) ∙ sym c.names_ascend.ensures ∙ c.if-names_ascend.true in
    properties_read c.args.bytes.now c.in_ok-count.count c.in_ok-count.rest.now ps c.in_ok-pairs.rest.now c.in_ok-count.ensures c.in_ok-pairs.ensures
    ∙ ap (λ (b : Bool). cond b (some (ps, c.in_ok-pairs.rest.now)) None) ascend
    ∙ ap (λ (qs : List (List ℕ × Datum)). some (qs, c.in_ok-pairs.rest.now)) (sym (c.from_vec.ensures ∙ ap (map pair_of) c.into_vec.ensures))

pub returns : goal.returns
returns c =
    let ps = map pair_of c.in_ok-pairs.pairs in
    let ascend : texts_ascend (names_of ps) ≡ false = ap (λ (pairs : List (List ℕ × Value)). texts_ascend (names_of (map pair_of pairs))) (sym c.as_slice.ensures) ∙ sym c.names_ascend.ensures ∙ c.if-names_ascend.false in
    properties_read c.args.bytes.now c.in_ok-count.count c.in_ok-count.rest.now ps c.in_ok-pairs.rest.now c.in_ok-count.ensures c.in_ok-pairs.ensures
    ∙ ap (λ (b : Bool). cond b (some (ps, c.in_ok-pairs.rest.now)) None) ascend
