-- Examples of path patterns that are read, each computed.
use Rattle.std.proofs.Common.{◌≡◌, ℕ, List, [], ◌∷◌, Some, None, refl}
use Rattle.gql_lexer.specs.declared.lexeme.Lexeme.{Lexeme}
use Rattle.gql_lexer.specs.declared.lexeme.Lexeme.TheVariants as lex
use Rattle.gql_lexer.specs.SymbolPlaces as symbol
use Rattle.gql_lexer.specs.WordPlaces as word
use Rattle.gql_ast.specs.Filler.{FillerTree}
use Rattle.gql_ast.specs.Pattern.{node, edge, paren, repeated, sequence, alternation, no_patterns, more_patterns}
use Rattle.gql_ast.specs.declared.mode.Mode.TheVariants as mode
use Rattle.gql_ast.specs.declared.pattern.Direction.TheVariants as direction
use Rattle.gql_ast.specs.declared.pattern.Quantifier.TheVariants as quantifier
use Rattle.gql_front.specs.Reading as reading
use Rattle.gql_front.specs.Reading.{maybe, either, suffix, many}
use Rattle.gql_parts.specs.Machinery.FillerReaders.{where_of, condition_of, variable_of, filler_labels_of, filler_of}
use Rattle.gql_patterns.specs.EdgeGrammar.{empty_filler}
use Rattle.gql_patterns.specs.Machinery.EdgeReaders.{direction_between, full_edge_of, short_edge_of, edge_of}
use Rattle.gql_patterns.specs.Machinery.QuantifierReaders.{number_of, upper_of, bounds_of, quantifier_of, repetition_of}
use Rattle.gql_patterns.specs.Machinery.PrefixReaders.{mode_of, part_mode_of}
use Rattle.gql_patterns.specs.Machinery.PathReaders.{node_pattern_of, chain_at, closed_part_of, part_of, in_parentheses_of, primary_of, factor_of, term_of, sides_of, path_of, read_to, read_path}

abbrev sign : ℕ → Lexeme
sign place = lex.Sign place

-- a name of one letter
abbrev name : ℕ → Lexeme
name letter = lex.Name (letter ∷ [])

abbrev named : ℕ → FillerTree
named letter = record { variable = Some (letter ∷ []); labels = None; condition = None }

-- (x)
abbrev node_x : List Lexeme → List Lexeme
node_x rest = sign symbol.opening ∷ name 120 ∷ sign symbol.closing ∷ rest

-- `(x)` is a node
a_node : read_path (node_x []) ≡ Some (node (named 120), [])
unfolding read_path read_to path_of chain_at sides_of term_of factor_of primary_of in_parentheses_of part_of closed_part_of node_pattern_of edge_of full_edge_of short_edge_of repetition_of quantifier_of part_mode_of mode_of where_of filler_of variable_of filler_labels_of condition_of maybe either suffix many reading.sequence
a_node = refl

-- `(TRAIL (x))` is a part
a_part : read_path (sign symbol.opening ∷ lex.Word word.TRAIL [] ∷ node_x (sign symbol.closing ∷ [])) ≡ Some (paren (Some mode.Trail) (node (named 120)) None, [])
unfolding read_path read_to path_of chain_at sides_of term_of factor_of primary_of in_parentheses_of part_of closed_part_of node_pattern_of edge_of full_edge_of short_edge_of repetition_of quantifier_of part_mode_of mode_of where_of filler_of variable_of filler_labels_of condition_of maybe either suffix many reading.sequence
a_part = refl

-- of `(x)-[e]->{2,}|(x)|+|(x)` all up to `|+|` is read
a_chain :
    read_path (
    node_x (
    sign symbol.minus ∷ sign symbol.opening_bracket ∷ name 101 ∷ sign symbol.closing_bracket ∷ sign symbol.right_arrow ∷ sign symbol.opening_brace
    ∷ lex.Number (50 ∷ []) ∷ sign symbol.comma ∷ sign symbol.closing_brace ∷ sign symbol.bar ∷ node_x (sign symbol.multiset_bar ∷ node_x [])
    )
    )
    ≡ Some (
      alternation (sequence (node (named 120)) (more_patterns (repeated (edge direction.Right (named 101)) (quantifier.Between (Some (50 ∷ [])) None)) no_patterns))
          (more_patterns (node (named 120)) no_patterns),
      sign symbol.multiset_bar ∷ node_x [],
    )
unfolding read_path read_to path_of chain_at sides_of term_of factor_of primary_of in_parentheses_of part_of closed_part_of node_pattern_of edge_of full_edge_of short_edge_of direction_between repetition_of quantifier_of bounds_of upper_of number_of part_mode_of mode_of where_of filler_of variable_of filler_labels_of condition_of maybe either suffix many reading.sequence
a_chain = refl

-- of `<-[e]~` the short form is read
a_short_form :
    read_path (sign symbol.left_arrow ∷ sign symbol.opening_bracket ∷ name 101 ∷ sign symbol.closing_bracket ∷ sign symbol.tilde ∷ [])
    ≡ Some (edge direction.Left empty_filler, sign symbol.opening_bracket ∷ name 101 ∷ sign symbol.closing_bracket ∷ sign symbol.tilde ∷ [])
unfolding read_path read_to path_of chain_at sides_of term_of factor_of primary_of in_parentheses_of part_of closed_part_of node_pattern_of edge_of full_edge_of short_edge_of direction_between repetition_of quantifier_of part_mode_of mode_of where_of filler_of variable_of filler_labels_of condition_of maybe either suffix many reading.sequence
a_short_form = refl
