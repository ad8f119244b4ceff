use Rattle.std.proofs.Common.{◌≡◌, ◌∙◌, ap, sym, false, refl, rules, is_some, List, ℕ}
use Rattle.std.specs.HashMap.{get_by_text}
use Rattle.std.specs.Map.{lookup}
use Rattle.std.specs.Str.{bytes_eq}
use Rattle.std.specs.String.{string_bytes}
use Rattle.std.proofs.lemmas.Map.Text.{hash_map_updates_text}
use Rattle.gql_expr_checks.proofs.KnowingLemmas.{knows_inserted, knows_repeated}
use Rattle.gql_expr_checks.proofs.columns.note_kind.Goals as goal

pub returns-then-not-contains_key-clause-ok : goal.returns-then-not-contains_key-clause-ok
returns-then-not-contains_key-clause-ok c = λ columns known.
    let same = c.in_ok-key.ensures.ok ∙ c.as_str.ensures in
    let knows = λ (x : List ℕ). ap (λ es. lookup (λ k. bytes_eq x (string_bytes k)) es) c.reserve.ensures.entries ∙ known x in
    let failed : c.contains_key.result ≡ false = search rules in
    let absent = ap (λ z. is_some (get_by_text c.reserve.new.self z)) (sym c.as_str-2.ensures.value) ∙ sym c.contains_key.ensures ∙ failed in
    knows_inserted (get_by_text c.reserve.new.self) (get_by_text c.insert.new.self) columns _ c.args.name.now (string_bytes c.in_ok-key.key) c.args.kind
    same knows absent (hash_map_updates_text _ c.reserve.new.self c.insert.new.self _ (search rules)) refl

pub returns-else-not-contains_key-clause-ok : goal.returns-else-not-contains_key-clause-ok
returns-else-not-contains_key-clause-ok c = λ columns known.
    let same = c.in_ok-key.ensures.ok ∙ c.as_str.ensures in
    let knows = λ (x : List ℕ). ap (λ es. lookup (λ k. bytes_eq x (string_bytes k)) es) c.reserve.ensures.entries ∙ known x in
    let there = ap (λ z. is_some (get_by_text c.reserve.new.self z)) (sym c.as_str-2.ensures.value) ∙ sym c.contains_key.ensures ∙ c.if-not-contains_key.false in
    knows_repeated (get_by_text c.reserve.new.self) columns _ c.args.name.now (string_bytes c.in_ok-key.key) c.args.kind
    same knows there refl
