use Rattle.gql_statements.proofs.StatementLaws.{one_statement}
use Rattle.gql_statements.proofs.laws.statements_derive_once.Goals as goal

pub returns : goal.returns
returns c = one_statement
