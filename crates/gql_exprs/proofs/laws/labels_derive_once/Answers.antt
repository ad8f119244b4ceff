use Rattle.gql_exprs.proofs.LabelLaws.{label_is_one}
use Rattle.gql_exprs.proofs.laws.labels_derive_once.Goals as goal

pub returns : goal.returns
returns c = label_is_one
