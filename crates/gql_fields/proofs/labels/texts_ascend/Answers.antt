use Rattle.std.proofs.Common.{◌∙◌, ap}
use Rattle.std.proofs.lemmas.List.{map-id}
use Rattle.gql_values3.specs.Texts.{texts_ascend}
use Rattle.gql_fields.proofs.labels.texts_ascend.Goals as goal

-- a label is its own key
pub returns : goal.returns
returns c = c.keys_ascend.ensures ∙ ap texts_ascend (map-id c.args.texts.now)
