-- Examples of what is read of the body of a graph type. They compute.
use Rattle.std.proofs.Common.{◌≡◌, ℕ, true, false, List, [], ◌∷◌, codes, Some, None, refl}
use Rattle.gql_lexer.specs.declared.lexeme.Lexeme.{Lexeme}
use Rattle.gql_lexer.specs.declared.lexeme.Lexeme.TheVariants as lex
use Rattle.gql_lexer.specs.SymbolPlaces.{opening, closing, opening_bracket, closing_bracket, opening_brace, closing_brace, minus, right_arrow, less, greater, colon}
use Rattle.gql_lexer.specs.WordPlaces as word
use Rattle.gql_values3.specs.declared.prop_kind.Scalar.TheVariants as scalar
use Rattle.gql_values3.specs.declared.prop_kind.PropKind.TheVariants as kind
use Rattle.gql_ast.specs.declared.change.Arrow.TheVariants as arrow
use Rattle.gql_ast.specs.declared.graph_type.TypeElement.TheVariants as element
use Rattle.gql_front.specs.Reading.{many, sequence}
use Rattle.gql_parts.specs.Machinery.FillerReaders.{variable_of}
use Rattle.gql_front.specs.Reading.{maybe}
use Rattle.gql_type.specs.Machinery.LabelListReaders.{other_label_of, label_names_of, optional_labels_of}
use Rattle.gql_type.specs.Machinery.TypeReaders.{required_of, list_kind_of, kind_of, property_of, properties_of, braced_properties_of, content_of, type_node_of, end_of, bracketed_of, edge_of, segment_of, element_of, type_body_of}

abbrev sign : ℕ → Lexeme
sign n = lex.Sign n

abbrev name : List ℕ → Lexeme
name x = lex.Name x

abbrev says : ℕ → Lexeme
says place = lex.Word place []

-- k INT NOT NULL
an_integer_that_is_there : property_of (name (codes "k") ∷ says word.INT ∷ says word.NOT ∷ says word.NULL ∷ []) ≡ Some (record { name = codes "k"; kind = kind.One scalar.Int; required = true }, [])
unfolding property_of kind_of required_of
an_integer_that_is_there = refl

-- k LIST<BOOL NOT NULL> NOT: a NOT that no NULL follows is left
a_list : property_of (name (codes "k") ∷ says word.LIST ∷ sign less ∷ says word.BOOL ∷ says word.NOT ∷ says word.NULL ∷ sign greater ∷ says word.NOT ∷ [])
    ≡ Some (record { name = codes "k"; kind = kind.Many scalar.Bool true; required = false }, says word.NOT ∷ [])
unfolding property_of kind_of list_kind_of required_of
a_list = refl

-- (p :P {k INT NOT NULL})
a_node_type : element_of (sign opening ∷ name (codes "p") ∷ sign colon ∷ name (codes "P") ∷ sign opening_brace ∷ name (codes "k") ∷ says word.INT ∷ says word.NOT ∷ says word.NULL ∷ sign closing_brace ∷ sign closing ∷ [])
    ≡ Some (element.Node (Some (codes "p")) (record { labels = Some (codes "P" ∷ []); properties = Some (record { name = codes "k"; kind = kind.One scalar.Int; required = true } ∷ []) }), [])
unfolding element_of type_node_of variable_of maybe content_of optional_labels_of label_names_of other_label_of many braced_properties_of properties_of sequence property_of kind_of required_of segment_of
a_node_type = refl

-- (p)-[]->(q)
an_edge_type : element_of (sign opening ∷ name (codes "p") ∷ sign closing ∷ sign minus ∷ sign opening_bracket ∷ sign closing_bracket ∷ sign right_arrow ∷ sign opening ∷ name (codes "q") ∷ sign closing ∷ [])
    ≡ Some (element.Edge (codes "p") arrow.Right (record { labels = None; properties = None }) (codes "q"), [])
unfolding element_of type_node_of variable_of maybe content_of optional_labels_of label_names_of other_label_of many braced_properties_of properties_of sequence property_of kind_of required_of segment_of edge_of bracketed_of end_of
an_edge_type = refl

-- (p)-: an arrow that no edge follows is left
an_arrow_is_left : element_of (sign opening ∷ name (codes "p") ∷ sign closing ∷ sign minus ∷ []) ≡ Some (element.Node (Some (codes "p")) (record { labels = None; properties = None }), sign minus ∷ [])
unfolding element_of type_node_of variable_of maybe content_of optional_labels_of label_names_of other_label_of many braced_properties_of properties_of sequence property_of kind_of required_of segment_of edge_of bracketed_of end_of
an_arrow_is_left = refl

-- {} is no body, since there is at least one element
no_empty_body : type_body_of (sign opening_brace ∷ sign closing_brace ∷ []) ≡ None
unfolding type_body_of sequence element_of type_node_of
no_empty_body = refl
