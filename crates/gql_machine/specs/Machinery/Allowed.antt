-- What is known of a statement that nothing refuses before it runs.
use Rattle.std.specs.Prelude.{◌≡◌, [], None}
use Rattle.gql_ast.specs.declared.graph_type.TypeBody.{TypeBody}
use Rattle.gql_ast.specs.declared.statement.CatalogStatement.{CatalogStatement}
use Rattle.gql_ast.specs.declared.statement.CatalogStatement.TheVariants as catalog
use Rattle.gql_ast.specs.declared.statement.Statement.{Statement}
use Rattle.gql_ast.specs.declared.statement.Statement.TheVariants as statement
use Rattle.gql_linear.specs.SoundQuery.{MatchesAreSound}
use Rattle.gql_type.specs.BodyFaults.{wrong_aliases, repeated_names}
use Rattle.gql_machine.specs.SessionState.{SessionState, ParameterList}
use Rattle.gql_machine.specs.StateRefusals.{missing_refusal, taken_refusal}

-- nothing is refused of the text of a graph type
pub record IsSoundBody (body : TypeBody) : Type 0 where
  pub aliases : wrong_aliases body ≡ []
  pub names : repeated_names body.elements ≡ []

abbrev pub IsSoundType : CatalogStatement → Type 0
IsSoundType (catalog.CreateType lenient name body) = IsSoundBody body
IsSoundType _ = Unit {0}

-- the patterns of a query's MATCH clauses are sound, and the text of a graph type; of other statements nothing is asked
abbrev pub IsSoundStatement : ParameterList → Statement → Type 0
IsSoundStatement params (statement.Query q) = MatchesAreSound params [] q.clauses
IsSoundStatement params (statement.Catalog s) = IsSoundType s
IsSoundStatement params _ = Unit {0}

-- what it names is there, and what it makes isn't
pub record IsAllowed (before : SessionState) (s : Statement) : Type 0 where
  pub missing : missing_refusal before s ≡ None
  pub taken : taken_refusal before s ≡ None
  pub sound : IsSoundStatement before.parameters s
