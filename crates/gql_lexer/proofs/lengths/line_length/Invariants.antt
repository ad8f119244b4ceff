use Rattle.std.proofs.Common.{◌≡◌, ◌+◌, drop}
use Rattle.gql_lexer.specs.Lengths.{line_length}
use Rattle.gql_lexer.proofs.lengths.line_length.Given as goal

abbrev pub invariant-loop-at : goal.invariant-loop-at
invariant-loop-at l = l.at + line_length (drop l.at l.rest) ≡ line_length l.rest
