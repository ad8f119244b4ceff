-- What is printed for the outcome of a statement.
use Rattle.std.specs.Prelude.{ℕ, List, [], ◌∷◌, ◌++◌, codes, map, length}
use Rattle.std.specs.List.{flat_map}
use Rattle.std.specs.Fmt.{decimal}
use Rattle.gql_values3.specs.Datum.{Datum}
use Rattle.gql_values3.specs.Meaning.{datum_of}
use Rattle.gql_values3.specs.declared.element.Elem.{Elem}
use Rattle.gql_values3.specs.declared.element.Elem.TheVariants as elem
use Rattle.gql_values3.specs.declared.table.Table.{Table}
use Rattle.gql_ast.specs.ValueText.{value_text, name_text, any_name_text, header_text, node_text, edge_text}
use Rattle.gql_ast.specs.ExprText.{number_text}
use Rattle.gql_ast.specs.declared.fault.DataFault.{DataFault}
use Rattle.gql_ast.specs.declared.fault.DataFault.TheVariants as fault
use Rattle.gql_ast.specs.declared.refusal.ColumnRef.{ColumnRef}
use Rattle.gql_ast.specs.declared.refusal.ColumnRef.TheVariants as column
use Rattle.gql_ast.specs.declared.refusal.ElemKind.{ElemKind}
use Rattle.gql_ast.specs.declared.refusal.ElemKind.TheVariants as elem_kind
use Rattle.gql_ast.specs.declared.refusal.Outcome.{Outcome}
use Rattle.gql_ast.specs.declared.refusal.Outcome.TheVariants as outcome
use Rattle.gql_ast.specs.declared.refusal.Refusal.{Refusal}
use Rattle.gql_ast.specs.declared.refusal.Refusal.TheVariants as refusal

-- a line ends in one line feed
abbrev pub line : List ℕ → List ℕ
line t = t ++ 10 ∷ []

-- a cell that is not the first of its line: a tab, which is 9, stands before it
abbrev pub behind_tab : List ℕ → List ℕ
behind_tab t = 9 ∷ t

-- the cells of a line, a tab between two
abbrev pub cells : List (List ℕ) → List ℕ
cells [] = []
cells (t ∷ ts) = t ++ flat_map behind_tab ts

-- a row is a line of its values
abbrev pub row_text : List Datum → List ℕ
row_text ds = line (cells (map value_text ds))

-- the names of the columns, a line a row, and the number of rows
abbrev pub table_text : Table → List ℕ
table_text t = line (cells (map header_text t.columns)) ++ flat_map row_text t.rows ++ line (codes "rows " ++ decimal (length t.rows))

-- an element prints as the value that it is
abbrev pub elem_text : Elem → List ℕ
elem_text (elem.Node n) = node_text n.0
elem_text (elem.Edge e) = edge_text e.0

-- the word of a data fault
abbrev pub fault_text : DataFault → List ℕ
fault_text fault.DivideByZero = codes "DIVIDE_BY_ZERO"
fault_text fault.Overflow = codes "OVERFLOW"
fault_text fault.WrongKind = codes "WRONG_KIND"
fault_text fault.NotComparable = codes "NOT_COMPARABLE"
fault_text fault.Deleted = codes "DELETED"
fault_text fault.TooDeep = codes "TOO_DEEP"
fault_text fault.TooLarge = codes "TOO_LARGE"

-- a column's name prints as names do, a property's as property names do
abbrev pub column_text : ColumnRef → List ℕ
column_text (column.Name x) = name_text x
column_text (column.Property p) = any_name_text p
column_text column.All = codes "*"

-- the word of a kind of element
abbrev pub elem_kind_text : ElemKind → List ℕ
elem_kind_text elem_kind.Node = codes "NODE"
elem_kind_text elem_kind.Edge = codes "EDGE"

-- the code, the word and the arguments of a refusal
abbrev pub refusal_text : Refusal → List ℕ
refusal_text refusal.Lex = codes "E01 LEX"
refusal_text refusal.Deep = codes "E02 DEEP"
refusal_text refusal.Syntax = codes "E03 SYNTAX"
refusal_text (refusal.Number digits) = codes "E04 NUMBER " ++ digits
refusal_text (refusal.Bounds digits) = codes "E05 BOUNDS " ++ number_text digits
refusal_text (refusal.NoSuch x) = codes "E06 NO_SUCH " ++ name_text x
refusal_text (refusal.Exists x) = codes "E07 EXISTS " ++ name_text x
refusal_text (refusal.Variable x) = codes "E08 VARIABLE " ++ name_text x
refusal_text (refusal.Kind x) = codes "E09 KIND " ++ name_text x
refusal_text (refusal.GroupJoin x) = codes "E10 GROUP_JOIN " ++ name_text x
refusal_text (refusal.CondJoin x) = codes "E11 COND_JOIN " ++ name_text x
refusal_text refusal.EmptyLoop = codes "E12 EMPTY_LOOP"
refusal_text refusal.Unbounded = codes "E13 UNBOUNDED"
refusal_text (refusal.GroupRef x) = codes "E14 GROUP_REF " ++ name_text x
refusal_text refusal.Misuse = codes "E15 MISUSE"
refusal_text (refusal.Column c) = codes "E16 COLUMN " ++ column_text c
refusal_text refusal.Transaction = codes "E17 TRANSACTION"
refusal_text (refusal.Fault f) = codes "E18 DATA " ++ fault_text f
refusal_text (refusal.Misfit e) = codes "E19 TYPE " ++ elem_text e
refusal_text (refusal.Edges n e) = codes "E20 EDGES " ++ node_text n.0 ++ codes " " ++ edge_text e.0
refusal_text (refusal.Conflict e p v w) =
    codes "E21 CONFLICT " ++ elem_text e ++ codes " " ++ any_name_text p ++ codes " " ++ value_text (datum_of v) ++ codes " " ++ value_text (datum_of w)
refusal_text refusal.Store = codes "E22 STORE"
refusal_text (refusal.Parameter p) = codes "E23 PARAM $" ++ name_text p
refusal_text (refusal.Full k) = codes "E24 FULL " ++ elem_kind_text k

-- what is printed for the outcome of a statement: the line `ok`, a table, or the line of a refusal
abbrev pub outcome_text : Outcome → List ℕ
outcome_text outcome.Done = line (codes "ok")
outcome_text (outcome.Table t) = table_text t
outcome_text (outcome.Refused r) = line (codes "refused " ++ refusal_text r)
