-- PathReaders: reading path pattern expressions. f reads one inside parentheses.
use Rattle.std.specs.Prelude.{ℕ, zero, suc, nat_eq, cond, List, ◌∷◌, length, Option, Some, None, option_map}
use Rattle.gql_lexer.specs.declared.lexeme.Lexeme.{Lexeme}
use Rattle.gql_lexer.specs.declared.lexeme.Lexeme.TheVariants as lex
use Rattle.gql_lexer.specs.SymbolPlaces.{opening, closing, bar, multiset_bar}
use Rattle.gql_ast.specs.Meaning.{tree_of}
use Rattle.gql_ast.specs.PatternMeaning as meaning
use Rattle.gql_ast.specs.Pattern.{Pattern, patterns_of, node, paren, sequence, alternation, multiset_alternation}
use Rattle.gql_ast.specs.declared.mode.Mode.{Mode}
use Rattle.gql_front.specs.Reading as reading
use Rattle.gql_front.specs.Reading.{◌>>=◌, Reader, is_sign, after, step, many, either, suffix, one_or}
use Rattle.gql_exprs.specs.Machinery.LabelReaders.{symbol_op}
use Rattle.gql_parts.specs.Machinery.PartReaders.{taken}
use Rattle.gql_parts.specs.Machinery.FillerReaders.{where_of, filler_of}
use Rattle.gql_patterns.specs.Machinery.EdgeReaders.{edge_of}
use Rattle.gql_patterns.specs.Machinery.QuantifierReaders.{repetition_of, repeat_by}
use Rattle.gql_patterns.specs.Machinery.PrefixReaders.{part_mode_of}
use Rattle.gql_patterns.specs.declared.path_chain.PathChain.{PathChain}
use Rattle.gql_patterns.specs.declared.path_chain.PathChain.TheVariants as chain

-- a node, behind its opening parenthesis
unfoldable pub node_pattern_of : Reader Pattern
node_pattern_of ts = do
  f ← filler_of ts
  r ← after (is_sign closing) f.1
  Some (node (meaning.filler_of f.0), r)

-- the two chains: their symbol, and what they make
abbrev pub symbol_of : PathChain → ℕ
symbol_of chain.Union = bar
symbol_of chain.MultisetUnion = multiset_bar

abbrev pub chain_node : PathChain → Pattern → List Pattern → Pattern
chain_node chain.Union x xs = alternation x (patterns_of xs)
chain_node chain.MultisetUnion x xs = multiset_alternation x (patterns_of xs)

-- the chain that stands behind the first side
unfoldable pub chain_at : List Lexeme → PathChain
chain_at (lex.Sign place ∷ r) = cond (nat_eq place multiset_bar) chain.MultisetUnion chain.Union
chain_at _ = chain.Union

-- parts in a row
abbrev pub row_node : Pattern → List Pattern → Pattern
row_node x xs = sequence x (patterns_of xs)

module _ (f : Reader Pattern) where
  -- a part, behind its mode
  unfoldable pub closed_part_of : Option Mode → Reader Pattern
  closed_part_of m ts = do
    x ← f ts
    w ← where_of x.1
    r ← after (is_sign closing) w.1
    Some (paren m x.0 (option_map tree_of w.0), r)

  -- a part, behind its opening parenthesis
  unfoldable pub part_of : Reader Pattern
  part_of ts = closed_part_of (part_mode_of ts).0 (part_mode_of ts).1

  unfoldable pub in_parentheses_of : Reader Pattern
  in_parentheses_of = either node_pattern_of part_of

  -- in parentheses, or an edge
  abbrev pub parenthesis_or_edge : List Lexeme → Option (List Lexeme) → Option (Pattern × List Lexeme)
  parenthesis_or_edge ts (Some a) = in_parentheses_of a
  parenthesis_or_edge ts None = edge_of ts

  unfoldable pub primary_of : Reader Pattern
  primary_of ts = parenthesis_or_edge ts (after (is_sign opening) ts)

  unfoldable pub factor_of : Reader Pattern
  factor_of = suffix repetition_of repeat_by primary_of

  -- the further factors of a row
  unfoldable pub factors_of : List Lexeme → List Pattern × List Lexeme
  factors_of ts = many factor_of (length ts) ts

  unfoldable pub term_of : Reader Pattern
  term_of = reading.sequence factor_of factor_of (one_or row_node)

  -- a side of a chain, behind its symbol
  abbrev pub side_of : PathChain → Reader Pattern
  side_of c = step (symbol_op (symbol_of c)) term_of taken

  -- the further sides of a chain
  unfoldable pub sides_of : PathChain → List Lexeme → List Pattern × List Lexeme
  sides_of c ts = many (side_of c) (length ts) ts

  -- a chain, whose first side is read already
  abbrev pub chained : PathChain → Pattern → List Lexeme → Option (Pattern × List Lexeme)
  chained c x ts = Some (one_or (chain_node c) x (sides_of c ts).0, (sides_of c ts).1)

  unfoldable pub path_of : Reader Pattern
  path_of ts = do
    x ← term_of ts
    chained (chain_at x.1) x.0 x.1

-- as deep as a number says
unfoldable pub read_to : ℕ → Reader Pattern
read_to zero ts = None
read_to (suc n) ts = path_of (read_to n) ts

-- a path pattern expression: no parentheses are nested deeper than there are lexemes
unfoldable pub read_path : Reader Pattern
read_path ts = read_to (suc (length ts)) ts
