use Rattle.std.proofs.Common.{◌≡◌, ◌∙◌, sym}
use Rattle.gql_eval.proofs.NameLemmas.{name_position}
use Rattle.gql_eval.proofs.places.name_in.Goals as goal

pub returns : goal.returns
returns c = (rw c.as_str.ensures at c.position_of.ensures) ∙ sym (name_position c.args.names.now c.args.name.now)
