use Rattle.gql_exprs.proofs.LabelLevels.{label_longest}
use Rattle.gql_exprs.proofs.laws.the_longest_label_is_read.Goals as goal

pub returns : goal.returns
returns c = label_longest
