use Rattle.std.proofs.Common.{◌≡◌}
use Rattle.gql_ast.specs.NumberLiterals.{numbers_in_path}
use Rattle.gql_text.proofs.FindLemmas.{found}
use Rattle.gql_text.proofs.wide.patterns.in_paths.Given as goal

abbrev pub invariant-loop-path : goal.invariant-loop-path
invariant-loop-path l = found numbers_in_path l.paths l.path-index ≡ found numbers_in_path l.paths 0
