use Rattle.std.proofs.Common.{refl, ◌≡◌, ◌∷◌, ◌∙◌, sym}
use Rattle.std.specs.Str.{chars}
use Rattle.std.proofs.lemmas.Str.{chars_past_char}
use Rattle.gql_values3.proofs.names.spells_name.Goals as goal

pub returns-then-starts : goal.returns-then-starts
returns-then-starts c =
    let first : c.args.text.now ≡ _ = sym c.chars-rest.ensures.rest ∙ c.in-Some.ensures.steps.0 in
    let text : chars c.args.text.now ≡ c.in-Some.first ∷ chars c.next.new.self.rest.now = chars_past_char _ _ _ c.utf8.text first in
    rw (c.all_continue.ensures, c.as_str.ensures, text, ← c.starts.ensures, c.if-starts.true) refl
