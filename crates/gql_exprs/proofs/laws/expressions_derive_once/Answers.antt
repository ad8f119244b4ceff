use Rattle.gql_exprs.proofs.ExprRead.{one_tree}
use Rattle.gql_exprs.proofs.laws.expressions_derive_once.Goals as goal

pub returns : goal.returns
returns c = one_tree
