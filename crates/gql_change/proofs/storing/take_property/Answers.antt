use Rattle.std.proofs.Common.{◌≡◌, ℕ, List, map, not, ap, ◌∙◌, rules}
use Rattle.std.specs.Prelude.{filter}
use Rattle.std.proofs.lemmas.Fn.{filter_same}
use Rattle.gql_values3.specs.Texts.{same_text}
use Rattle.gql_values3.specs.declared.value.Value.{Value}
use Rattle.gql_change.proofs.PlaceLemmas.{shown, without_shown}
use Rattle.gql_change.proofs.storing.take_property.Goals as goal

pub returns : goal.returns
returns c =
    let ps = c.args.properties.now.items in
    let kept : c.retain.new.self.items ≡ filter (λ (p : List ℕ × Value). not (same_text c.args.name.now p.0)) ps =
    filter_same _ (λ (p : List ℕ × Value). not (same_text c.args.name.now p.0)) _ (λ x b f' k. search rules) _ _ c.retain.ensures.filtered in
    ap (map shown) kept ∙ without_shown c.args.name.now ps
