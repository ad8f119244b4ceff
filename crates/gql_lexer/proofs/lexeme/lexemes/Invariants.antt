use Rattle.std.proofs.Common.{◌≡◌, ◌≤◌, ◌-◌, drop, length}
use Rattle.gql_lexer.specs.Lexemes.{lexemes_of}
use Rattle.gql_lexer.proofs.LexemeLemmas.{behind}
use Rattle.gql_lexer.proofs.lexeme.lexemes.Given as goal

abbrev pub invariant-loop-at : goal.invariant-loop-at
invariant-loop-at l = record {
  here : l.at ≤ length l.piece;
  told : behind l.all.items (lexemes_of (drop l.at l.piece)) ≡ lexemes_of l.piece;
}

abbrev pub decreases-loop-at : goal.decreases-loop-at
decreases-loop-at l = length l.piece - l.at
