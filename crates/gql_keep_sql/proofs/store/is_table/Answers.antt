use Rattle.std.proofs.Common.{◌≡◌, ◌∙◌, ap, rules}
use Rattle.sqlite.specs.declared.types.Value.TheVariants.{Text}
use Rattle.sqlite.specs.Order.{column}
use Rattle.gql_values3.specs.Texts.{same_text}
use Rattle.gql_keep_sql.proofs.store.is_table.Goals as goal

pub returns-in-Ok-Text : goal.returns-in-Ok-Text
returns-in-Ok-Text c =
    let own : column c.args.object.now 0 ≡ Text c.in-Ok-Text.text.now = search rules in
    let same : c.eq.result ≡ same_text c.in-Ok-Text.text.now c.as_bytes.result.now = search rules in
    rw own (same ∙ ap (same_text c.in-Ok-Text.text.now) c.as_bytes.ensures.value)
