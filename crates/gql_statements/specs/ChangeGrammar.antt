-- INSERT, SET, REMOVE and DELETE.
--
--   Change     = INSERT list(InsertPath); SET list(SetItem); REMOVE list(RemoveItem); [DETACH or NODETACH] DELETE list(Name)
--   InsertPath = InsertNode {InsertEdge InsertNode}*
--   InsertNode = "(" Fill ")"
--   InsertEdge = "-" "[" Fill "]" "->"; "<-" "[" Fill "]" "-"; "~" "[" Fill "]" "~"
--   Fill       = [Name] [(":" or IS) Labels] [Map], where Labels is Any {"&" Any}* and Any a name or a reserved word
--   SetItem    = Name "." Any "=" Expr; Name (":" or IS) Any
--   RemoveItem = Name "." Any; Name (":" or IS) Any
use Rattle.std.specs.Prelude.{◌≡◌, ℕ, List, [], ◌∷◌}
use Rattle.gql_lexer.specs.declared.lexeme.Lexeme.{Lexeme}
use Rattle.gql_ast.specs.declared.change.Arrow.{Arrow}
use Rattle.gql_ast.specs.declared.change.Arrow.TheVariants as arrow
use Rattle.gql_ast.specs.declared.change.ChangeClause.{ChangeClause}
use Rattle.gql_ast.specs.declared.change.ChangeClause.TheVariants as change
use Rattle.gql_ast.specs.declared.change.Detachment.{Detachment}
use Rattle.gql_ast.specs.declared.change.Detachment.TheVariants as detachment
use Rattle.gql_ast.specs.declared.change.Fill.{Fill}
use Rattle.gql_ast.specs.declared.change.InsertPath.{InsertPath}
use Rattle.gql_ast.specs.declared.change.InsertStep.{InsertStep}
use Rattle.gql_ast.specs.declared.change.RemoveItem.{RemoveItem}
use Rattle.gql_ast.specs.declared.change.RemoveItem.TheVariants as remove_item
use Rattle.gql_ast.specs.declared.change.SetItem.{SetItem}
use Rattle.gql_ast.specs.declared.change.SetItem.TheVariants as set_item
use Rattle.gql_lexer.specs.SymbolPlaces.{opening, closing, opening_bracket, closing_bracket, minus, tilde, left_arrow, dot, equal}
use Rattle.gql_lexer.specs.WordPlaces as word
use Rattle.gql_front.specs.Tables.{Begins}
use Rattle.gql_front.specs.Reading.{is_sign, is_word, name_in, any_name_in}
use Rattle.gql_parts.specs.Parts.{Passes, MayPass, IsOptional, IsListOf}
use Rattle.gql_parts.specs.Values.{IsValue}
use Rattle.gql_parts.specs.PartWords.{is_colon}
use Rattle.gql_parts.specs.FillerGrammar.{IsMap}
use Rattle.gql_type.specs.LabelList.{BearsLabels}
use Rattle.gql_type.specs.TypeWords.{closing_of}

-- what stands between the brackets of an element to be inserted: a variable, labels, and a map, in this order, each of which may be missing
abbrev pub IsFill : Fill → List Lexeme → List Lexeme → Type 0
IsFill f ts r =
    (a : List Lexeme) × IsOptional (Begins name_in) f.variable ts a × (b : List Lexeme) × IsOptional BearsLabels f.labels a b
    × IsOptional IsMap f.map b r

-- a node of a path to be inserted: its fill in parentheses
abbrev pub IsInsertNode : Fill → List Lexeme → List Lexeme → Type 0
IsInsertNode f ts r = (a : List Lexeme) × Passes (is_sign opening) ts a × (b : List Lexeme) × IsFill f a b × Passes (is_sign closing) b r

-- the symbol before an edge's brackets
abbrev pub opening_of : Arrow → ℕ
opening_of arrow.Right = minus
opening_of arrow.Left = left_arrow
opening_of arrow.Undirected = tilde

-- an edge, which is its fill in brackets between the two symbols of its arrow, and the node behind it
abbrev pub IsInsertStep : InsertStep → List Lexeme → List Lexeme → Type 0
IsInsertStep s ts r =
    (a : List Lexeme) × Passes (is_sign (opening_of s.arrow)) ts a × (b : List Lexeme) × Passes (is_sign opening_bracket) a b
    × (c : List Lexeme) × IsFill s.edge b c × (d : List Lexeme) × Passes (is_sign closing_bracket) c d
    × (e : List Lexeme) × Passes (is_sign (closing_of s.arrow)) d e × IsInsertNode s.node e r

-- {InsertEdge InsertNode}*
abbrev pub AreInsertSteps : List InsertStep → List Lexeme → List Lexeme → Type 0
AreInsertSteps [] ts r = ts ≡ r
AreInsertSteps (s ∷ ss) ts r = (a : List Lexeme) × IsInsertStep s ts a × AreInsertSteps ss a r

-- a node, and then any number of edges, each with the node behind it
abbrev pub IsInsertPath : InsertPath → List Lexeme → List Lexeme → Type 0
IsInsertPath p ts r = (a : List Lexeme) × IsInsertNode p.start ts a × AreInsertSteps p.steps a r

-- Name "." Any
abbrev pub NamesProperty : List ℕ → List ℕ → List Lexeme → List Lexeme → Type 0
NamesProperty x p ts r =
    (a : List Lexeme) × Begins name_in x ts a × (b : List Lexeme) × Passes (is_sign dot) a b × Begins any_name_in p b r

-- Name (":" or IS) Any
abbrev pub NamesLabel : List ℕ → List ℕ → List Lexeme → List Lexeme → Type 0
NamesLabel x l ts r =
    (a : List Lexeme) × Begins name_in x ts a × (b : List Lexeme) × Passes is_colon a b × Begins any_name_in l b r

-- a property of a variable, "=", and the expression of its new value; or a variable and the label that it gets
abbrev pub IsSetItem : SetItem → List Lexeme → List Lexeme → Type 0
IsSetItem (set_item.Property x p e) ts r =
    (a : List Lexeme) × NamesProperty x p ts a × (b : List Lexeme) × Passes (is_sign equal) a b × IsValue e b r
IsSetItem (set_item.Label x l) ts r = NamesLabel x l ts r

-- a property of a variable, or a variable and a label: what is taken away
abbrev pub IsRemoveItem : RemoveItem → List Lexeme → List Lexeme → Type 0
IsRemoveItem (remove_item.Property x p) ts r = NamesProperty x p ts r
IsRemoveItem (remove_item.Label x l) ts r = NamesLabel x l ts r

-- DETACH; NODETACH or no word
abbrev pub Detaches : Detachment → List Lexeme → List Lexeme → Type 0
Detaches detachment.Detach ts r = Passes (is_word word.DETACH) ts r
Detaches detachment.NoDetach ts r = MayPass (is_word word.NODETACH) ts r

-- INSERT and paths, SET and items, REMOVE and items, or DELETE and names, each list with commas between; DETACH or NODETACH may stand before DELETE
abbrev pub IsChange : ChangeClause → List Lexeme → List Lexeme → Type 0
IsChange (change.Insert ps) ts r = (a : List Lexeme) × Passes (is_word word.INSERT) ts a × IsListOf IsInsertPath ps a r
IsChange (change.Set is) ts r = (a : List Lexeme) × Passes (is_word word.SET) ts a × IsListOf IsSetItem is a r
IsChange (change.Remove is) ts r = (a : List Lexeme) × Passes (is_word word.REMOVE) ts a × IsListOf IsRemoveItem is a r
IsChange (change.Delete d xs) ts r =
    (a : List Lexeme) × Detaches d ts a × (b : List Lexeme) × Passes (is_word word.DELETE) a b × IsListOf (Begins name_in) xs b r
