use Rattle.std.proofs.Common.{◌≡◌, ◌∙◌, ap, sym, true, false, is_some}
use Rattle.std.specs.HashMap.{get_by_text}
use Rattle.std.specs.String.{string_bytes}
use Rattle.std.proofs.lemmas.Map.Text.{hash_map_updates_text}
use Rattle.gql_eval.proofs.NotingLemmas.{known, learnt}
use Rattle.gql_eval.proofs.heading.noted.Goals as goal

pub returns-then-contains_key : goal.returns-then-contains_key
returns-then-contains_key c =
    let there : is_some (get_by_text c.args.places c.args.name.now) ≡ true = ap (λ z. is_some (get_by_text c.args.places z)) (sym c.as_str.ensures) ∙ sym c.contains_key.ensures ∙ c.if-contains_key.true in
    known (get_by_text c.args.places) c.args.name.now c.args.place there

pub returns : goal.returns
returns c =
    let absent : is_some (get_by_text c.args.places c.args.name.now) ≡ false = ap (λ z. is_some (get_by_text c.args.places z)) (sym c.as_str.ensures) ∙ sym c.contains_key.ensures ∙ c.if-contains_key.false in
    let named : string_bytes c.in_ok-from_str.field-0 ≡ c.args.name.now = c.in_ok-from_str.ensures.ok ∙ c.as_str-2.ensures in
    learnt (get_by_text c.args.places) (get_by_text c.insert.new.self) c.args.name.now (string_bytes c.in_ok-from_str.field-0) c.args.place named absent
    (hash_map_updates_text (string_bytes c.in_ok-from_str.field-0) c.args.places c.insert.new.self _ c.in_ok-insert.ensures.updates)
