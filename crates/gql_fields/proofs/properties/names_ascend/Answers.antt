use Rattle.std.proofs.Common.{◌∙◌, ap, sym}
use Rattle.gql_values3.specs.Texts.{texts_ascend}
use Rattle.gql_fields.proofs.PropertyLemmas.{names_of-pairs}
use Rattle.gql_fields.proofs.properties.names_ascend.Goals as goal

-- the name of a pair is its key
pub returns : goal.returns
returns c = c.keys_ascend.ensures ∙ ap texts_ascend (sym (names_of-pairs c.args.pairs.now))
