-- Pieces in which no selector leaves a choice: they have none (ANY k and SHORTEST k leave one), or it is SHORTEST k GROUP. Over such
-- pieces the session machine has one run.
use Rattle.std.specs.Prelude.{ℕ, List}
use Rattle.gql_ast.specs.declared.statement.Statement.{Statement}
use Rattle.gql_ast.specs.declared.statement.Statement.TheVariants as statement
use Rattle.gql_linear.specs.OneWay.{QueryHasNoChoice}
use Rattle.gql_machine.specs.Reading.{ReadsAs, read}

-- no selector of a MATCH leaves a choice
abbrev pub StatementHasNoChoice : Statement → Type 0
StatementHasNoChoice (statement.Query q) = QueryHasNoChoice q
StatementHasNoChoice _ = Unit {0}

-- what the piece reads as, where it reads as a statement
abbrev pub PieceHasNoChoice : List ℕ → Type 0
PieceHasNoChoice piece = (s : Statement) → ReadsAs piece (read s) → StatementHasNoChoice s
