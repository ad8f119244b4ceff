-- The loops over the parts of a row and over the sides of a chain.
use Rattle.std.proofs.Common.{◌≡◌, suc, List, [], ◌∷◌, ◌++◌, length, Some, None, refl, sym, ◌∙◌}
use Rattle.gql_lexer.specs.declared.lexeme.Lexeme.{Lexeme}
use Rattle.gql_ast.specs.Pattern.{Pattern}
use Rattle.gql_front.specs.Reading as reading
use Rattle.gql_front.specs.Reading.{◌>>=◌, Reader, many, one_or}
use Rattle.gql_front.proofs.Found.{Shrinks}
use Rattle.gql_front.proofs.Loops.{with_front, loop_stops, loop_goes_on}
use Rattle.gql_exprs.proofs.ChainLoops.{further}
use Rattle.gql_parts.specs.Machinery.PartReaders.{taken}
use Rattle.gql_patterns.specs.PathGrammar.{at_factor, at_term}
use Rattle.gql_patterns.specs.declared.path_chain.PathChain.{PathChain}
use Rattle.gql_patterns.specs.Machinery.PathReaders.{symbol_of, chain_node, chain_at, row_node, factor_of, factors_of, term_of, sides_of, path_of, read_path}
use Rattle.gql_patterns.proofs.PathLevels.{at_consumes, factor_reads}
use Rattle.gql_patterns.proofs.PathChains.{term_reads, read_path_reads, read_path_is}

-- a row is its first part, and the others
pub term_is : (f : Reader Pattern) (ts : List Lexeme) → term_of f ts ≡ (factor_of f ts >>= λ x. Some (one_or row_node x.0 (factors_of f x.1).0, (factors_of f x.1).1))
unfolding term_of factors_of reading.sequence
term_is f ts = refl

-- a chain is its first side, and the others
pub path_is : (ts : List Lexeme) → read_path ts ≡ (term_of read_path ts >>= λ x.
    Some (one_or (chain_node (chain_at x.1)) x.0 (sides_of read_path (chain_at x.1) x.1).0, (sides_of read_path (chain_at x.1) x.1).1))
unfolding path_of
path_is ts = read_path_is ts

factor_shrinks : Shrinks (factor_of read_path)
factor_shrinks ts x r e = let n = suc (length ts) in at_consumes at_factor x ts r ((factor_reads n read_path (read_path_reads n)).sound ts x r e)

-- each side of a chain reads a lexeme at least
pub term_shrinks : Shrinks (term_of read_path)
term_shrinks ts x r e = let n = suc (length ts) in at_consumes at_term x ts r ((term_reads n read_path (read_path_reads n)).sound ts x r e)

-- the further parts of a row that are still to be read
abbrev pub factors_from : List Lexeme → List Pattern × List Lexeme
factors_from ts = many (factor_of read_path) (length ts) ts

-- the loop has read the parts `front`, and stands before ts
module _ (front : List Pattern) (ts : List Lexeme) (total : List Pattern × List Lexeme) (so_far : with_front front (factors_from ts) ≡ total) where
  pub factors_stop : factor_of read_path ts ≡ None → ◌≡◌ {A = List Pattern × List Lexeme} (front, ts) total
  factors_stop e = sym (loop_stops (factor_of read_path) factor_shrinks front ts e) ∙ so_far

  pub factors_go_on : (x : Pattern) (r : List Lexeme) → factor_of read_path ts ≡ Some (x, r) → with_front (front ++ x ∷ []) (factors_from r) ≡ total
  factors_go_on x r e = sym (loop_goes_on (factor_of read_path) factor_shrinks front ts x r e) ∙ so_far

-- the further sides of a chain that are still to be read
abbrev pub sides_from : PathChain → List Lexeme → List Pattern × List Lexeme
sides_from c = further (symbol_of c) (term_of read_path) taken
