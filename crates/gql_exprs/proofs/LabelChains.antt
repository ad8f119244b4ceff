-- The loop over the further sides of a chain.
use Rattle.std.proofs.Common.{◌≡◌, ℕ, suc, List, length, Some, refl}
use Rattle.gql_lexer.specs.declared.lexeme.Lexeme.{Lexeme}
use Rattle.gql_front.specs.Reading.{◌>>=◌, Reader, sequence, one_or}
use Rattle.gql_front.proofs.Found.{Shrinks}
use Rattle.gql_ast.specs.Label.{Label}
use Rattle.gql_exprs.specs.declared.labels.LabelChain.{LabelChain}
use Rattle.gql_exprs.specs.declared.labels.LabelChain.TheVariants.{Or, And}
use Rattle.gql_exprs.specs.LabelGrammar.{at_factor, at_term}
use Rattle.gql_exprs.specs.Machinery.LabelReaders.{operand, symbol_of, chain_label, side_of, sides_of, chain_of, term_of, expression_of, read_label}
use Rattle.gql_exprs.proofs.ChainLoops.{further}
use Rattle.gql_exprs.proofs.LabelLevels.{at_consumes, read_label_reads, factor_reads, term_reads}

-- how far a chain is above a base, for measures
abbrev pub above : LabelChain → ℕ
above Or = 5
above And = 3

-- the further sides that are still to be read
abbrev pub sides_from : LabelChain → List Lexeme → List Label × List Lexeme
sides_from c = further (symbol_of c) (side_of c read_label) operand

-- a chain is its first side, and the others
pub chain_is : (c : LabelChain) (f : Reader Label) (ts : List Lexeme) → chain_of c f ts ≡ (side_of c f ts >>= λ x. Some (one_or (chain_label c) x.0 (sides_of c f x.1).0, (sides_of c f x.1).1))
unfolding sides_of expression_of term_of sequence
chain_is Or f ts = refl
chain_is And f ts = refl

-- each side of a chain reads a lexeme at least
pub side_shrinks : (c : LabelChain) → Shrinks (side_of c read_label)
side_shrinks Or ts x r e = let n = suc (length ts) in at_consumes at_term x ts r ((term_reads n read_label (read_label_reads n)).sound ts x r e)
side_shrinks And ts x r e = let n = suc (length ts) in at_consumes at_factor x ts r ((factor_reads n read_label (read_label_reads n)).sound ts x r e)
