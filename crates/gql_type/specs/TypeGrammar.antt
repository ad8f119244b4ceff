-- The body of a graph type.
--
--   TypeBody = "{" list(Element) "}"
--   Element  = "(" [Name] Content ")"; End Segment
--   Segment  = "-" "[" Content "]" "->" End; "<-" "[" Content "]" "-" End; "~" "[" Content "]" "~" End
--   End      = "(" Name ")"
--   Content  = [(":" or IS) Labels] ["{" [list(Property)] "}"], where Labels is Any {"&" Any}* and Any a name or a reserved word
--   Property = Any [TYPED or "::"] Kind [NOT NULL]
--   Kind     = Scalar; LIST "<" Scalar [NOT NULL] ">"
--   Scalar   = BOOL; BOOLEAN; INT; INTEGER; INT64; STRING
use Rattle.std.specs.Prelude.{◌≡◌, ℕ, Bool, true, false, List}
use Rattle.gql_lexer.specs.declared.lexeme.Lexeme.{Lexeme}
use Rattle.gql_lexer.specs.SymbolPlaces.{opening, closing, opening_bracket, closing_bracket, opening_brace, closing_brace, less, greater}
use Rattle.gql_lexer.specs.WordPlaces as word
use Rattle.gql_values3.specs.declared.prop_kind.PropKind.{PropKind}
use Rattle.gql_values3.specs.declared.prop_kind.PropKind.TheVariants as kind
use Rattle.gql_ast.specs.declared.change.Arrow.{Arrow}
use Rattle.gql_ast.specs.declared.graph_type.TypeProperty.{TypeProperty}
use Rattle.gql_ast.specs.declared.graph_type.ElementBody.{ElementBody}
use Rattle.gql_ast.specs.declared.graph_type.TypeElement.{TypeElement}
use Rattle.gql_ast.specs.declared.graph_type.TypeElement.TheVariants as element
use Rattle.gql_ast.specs.declared.graph_type.TypeBody.{TypeBody}
use Rattle.gql_front.specs.Tables.{Begins}
use Rattle.gql_front.specs.Reading.{is_sign, is_word, name_in, any_name_in}
use Rattle.gql_parts.specs.Parts.{Passes, MayPass, IsOptional, IsListOf, MayList}
use Rattle.gql_type.specs.LabelList.{BearsLabels}
use Rattle.gql_type.specs.TypeWords.{scalar_word, is_typed, arrow_sign, closing_of}

-- [NOT NULL]
abbrev pub IsRequired : Bool → List Lexeme → List Lexeme → Type 0
IsRequired false ts r = ts ≡ r
IsRequired true ts r = (a : List Lexeme) × Passes (is_word word.NOT) ts a × Passes (is_word word.NULL) a r

-- Kind
abbrev pub IsKind : PropKind → List Lexeme → List Lexeme → Type 0
IsKind (kind.One s) ts r = Begins scalar_word s ts r
IsKind (kind.Many s required) ts r =
    (a : List Lexeme) × Passes (is_word word.LIST) ts a × (b : List Lexeme) × Passes (is_sign less) a b × (c : List Lexeme) × Begins scalar_word s b c
    × (d : List Lexeme) × IsRequired required c d × Passes (is_sign greater) d r

-- Property
abbrev pub IsProperty : TypeProperty → List Lexeme → List Lexeme → Type 0
IsProperty p ts r =
    (a : List Lexeme) × Begins any_name_in p.name ts a × (b : List Lexeme) × MayPass is_typed a b × (c : List Lexeme) × IsKind p.kind b c
    × IsRequired p.required c r

-- [list(Property)]
abbrev pub AreProperties : List TypeProperty → List Lexeme → List Lexeme → Type 0
AreProperties = MayList IsProperty

-- "{" [list(Property)] "}"
abbrev pub BearsProperties : List TypeProperty → List Lexeme → List Lexeme → Type 0
BearsProperties ps ts r =
    (a : List Lexeme) × Passes (is_sign opening_brace) ts a × (b : List Lexeme) × AreProperties ps a b × Passes (is_sign closing_brace) b r

-- Content
abbrev pub IsContent : ElementBody → List Lexeme → List Lexeme → Type 0
IsContent b ts r = (a : List Lexeme) × IsOptional BearsLabels b.labels ts a × IsOptional BearsProperties b.properties a r

-- End
abbrev pub IsEnd : List ℕ → List Lexeme → List Lexeme → Type 0
IsEnd x ts r = (a : List Lexeme) × Passes (is_sign opening) ts a × (b : List Lexeme) × Begins name_in x a b × Passes (is_sign closing) b r

-- Segment: the edge, and the node type to which it leads
abbrev pub IsSegment : Arrow → ElementBody → List ℕ → List Lexeme → List Lexeme → Type 0
IsSegment w b y ts r =
    (a : List Lexeme) × Begins arrow_sign w ts a × (c : List Lexeme) × Passes (is_sign opening_bracket) a c × (d : List Lexeme) × IsContent b c d
    × (e : List Lexeme) × Passes (is_sign closing_bracket) d e × (f : List Lexeme) × Passes (is_sign (closing_of w)) e f × IsEnd y f r

-- Element: a node type with its alias where it has one, or an edge type between two aliases
abbrev pub IsElement : TypeElement → List Lexeme → List Lexeme → Type 0
IsElement (element.Node x b) ts r =
    (a : List Lexeme) × Passes (is_sign opening) ts a × (c : List Lexeme) × IsOptional (Begins name_in) x a c × (d : List Lexeme) × IsContent b c d
    × Passes (is_sign closing) d r
IsElement (element.Edge x w b y) ts r = (a : List Lexeme) × IsEnd x ts a × IsSegment w b y a r

-- TypeBody
abbrev pub IsTypeBody : TypeBody → List Lexeme → List Lexeme → Type 0
IsTypeBody b ts r =
    (a : List Lexeme) × Passes (is_sign opening_brace) ts a × (c : List Lexeme) × IsListOf IsElement b.elements a c × Passes (is_sign closing_brace) c r
