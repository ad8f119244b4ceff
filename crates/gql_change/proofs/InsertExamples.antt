-- Examples of INSERT, computed: each was worked out by hand from the rules.
use Rattle.std.proofs.Common.{◌≡◌, ℕ, pos, false, List, [], ◌∷◌, codes, Option, Some, None, Result, Ok, Err, refl}
use Rattle.gql_values3.specs.Datum.{Datum, null, integer, node, edge}
use Rattle.gql_values3.specs.PropertyGraph.{PropertyGraph, is_graph}
use Rattle.gql_values3.specs.declared.element.Ends.{Ends}
use Rattle.gql_values3.specs.declared.element.Ends.TheVariants.{Directed, Undirected}
use Rattle.gql_values3.specs.declared.records.NodeRecord.{NodeRecord}
use Rattle.gql_values3.specs.declared.records.EdgeRecord.{EdgeRecord}
use Rattle.gql_values3.specs.declared.table.ColumnKind.TheVariants as kind
use Rattle.gql_values3.specs.declared.value.Value.TheVariants as v
use Rattle.gql_ast.specs.ClauseColumns.{ColumnList}
use Rattle.gql_ast.specs.Evaluation.{value_of}
use Rattle.gql_ast.specs.declared.change.Arrow.{Arrow}
use Rattle.gql_ast.specs.declared.change.Arrow.TheVariants as arrow
use Rattle.gql_ast.specs.declared.change.Fill.{Fill}
use Rattle.gql_ast.specs.declared.change.InsertPath.{InsertPath}
use Rattle.gql_ast.specs.declared.change.InsertStep.{InsertStep}
use Rattle.gql_ast.specs.declared.expr.Expr.{Expr}
use Rattle.gql_ast.specs.declared.expr.Expr.TheVariants as expr
use Rattle.gql_ast.specs.declared.fault.DataFault.TheVariants as fault
use Rattle.gql_ast.specs.declared.filler.MapItem.{MapItem}
use Rattle.gql_ast.specs.declared.refusal.ElemKind.TheVariants as sort
use Rattle.gql_ast.specs.declared.refusal.Refusal.{Refusal}
use Rattle.gql_ast.specs.declared.refusal.Refusal.TheVariants as refusal
use Rattle.gql_change.specs.Storing.{PropertyList}
use Rattle.gql_change.specs.Changing.{Changed, changed_by_insert}

abbrev graph_of : List NodeRecord → List EdgeRecord → ℕ → ℕ → PropertyGraph
graph_of nodes edges next_node next_edge = record { nodes = nodes; edges = edges; next_node = next_node; next_edge = next_edge }

abbrev empty : PropertyGraph
empty = graph_of [] [] 1 1

abbrev node_record : ℕ → List (List ℕ) → PropertyList → NodeRecord
node_record n labels properties = record { number = record { 0 = n }; labels = labels; properties = properties }

abbrev edge_record : ℕ → Ends → EdgeRecord
edge_record n ends = record { number = record { 0 = n }; ends = ends; labels = codes "T" ∷ []; properties = [] }

abbrev directed : ℕ → ℕ → Ends
directed a b = Directed (record { 0 = a }) (record { 0 = b })

abbrev undirected : ℕ → ℕ → Ends
undirected a b = Undirected (record { 0 = a }) (record { 0 = b })

-- what stands between the brackets
abbrev bare : Option (List ℕ) → Fill
bare x = record { variable = x; labels = None; map = None }

abbrev named : List ℕ → Fill
named x = bare (Some x)

abbrev mapped : List ℕ → List MapItem → Fill
mapped x is = record { variable = Some x; labels = Some (codes "A" ∷ []); map = Some is }

abbrev item : List ℕ → Expr → MapItem
item p e = record { name = p; value = e }

abbrev digits_of : List ℕ → Expr
digits_of n = expr.Number n

abbrev step : Arrow → Option (List ℕ) → Fill → InsertStep
step arrow x f = record { arrow = arrow; edge = record { variable = x; labels = Some (codes "T" ∷ []); map = None }; node = f }

abbrev path : Fill → List InsertStep → InsertPath
path start steps = record { start = start; steps = steps }

abbrev inserted_into : PropertyGraph → ColumnList → List Datum → List InsertPath → Result Changed Refusal
inserted_into g columns row ps = changed_by_insert g [] columns (row ∷ []) ps

-- (a:A {n: 1})-[:T]->(b:A {n: 2})
pub two_nodes : inserted_into empty [] [] (path (mapped (codes "a") (item (codes "n") (digits_of (codes "1")) ∷ [])) (step arrow.Right None (mapped (codes "b") (item (codes "n") (digits_of (codes "2")) ∷ [])) ∷ []) ∷ [])
    ≡ Ok (
      graph_of (node_record 1 (codes "A" ∷ []) ((codes "n", integer (pos 1)) ∷ []) ∷ node_record 2 (codes "A" ∷ []) ((codes "n", integer (pos 2)) ∷ []) ∷ []) (edge_record 1 (directed 1 2) ∷ []) 3 2,
      (node 1 ∷ node 2 ∷ []) ∷ [],
    )
unfolding value_of
two_nodes = refl

-- (a)-[e:T]->(b): the cells stand in the order of the text
a_named_edge : inserted_into empty [] [] (path (named (codes "a")) (step arrow.Right (Some (codes "e")) (named (codes "b")) ∷ []) ∷ [])
    ≡ Ok (graph_of (node_record 1 [] [] ∷ node_record 2 [] [] ∷ []) (edge_record 1 (directed 1 2) ∷ []) 3 2, (node 1 ∷ edge 1 ∷ node 2 ∷ []) ∷ [])
a_named_edge = refl

-- ()<-[:T]-()
to_the_left : inserted_into empty [] [] (path (bare None) (step arrow.Left None (bare None) ∷ []) ∷ [])
    ≡ Ok (graph_of (node_record 1 [] [] ∷ node_record 2 [] [] ∷ []) (edge_record 1 (directed 2 1) ∷ []) 3 2, [] ∷ [])
to_the_left = refl

-- (a), (b), (b)~[:T]~(a): the lower number stands first, and the nodes stand already
lower_first : inserted_into empty [] [] (path (named (codes "a")) [] ∷ path (named (codes "b")) [] ∷ path (named (codes "b")) (step arrow.Undirected None (named (codes "a")) ∷ []) ∷ [])
    ≡ Ok (graph_of (node_record 1 [] [] ∷ node_record 2 [] [] ∷ []) (edge_record 1 (undirected 1 2) ∷ []) 3 2, (node 1 ∷ node 2 ∷ []) ∷ [])
lower_first = refl

-- (a)-[:T]->(a): a loop
a_loop : inserted_into empty [] [] (path (named (codes "a")) (step arrow.Right None (named (codes "a")) ∷ []) ∷ [])
    ≡ Ok (graph_of (node_record 1 [] [] ∷ []) (edge_record 1 (directed 1 1) ∷ []) 2 2, (node 1 ∷ []) ∷ [])
a_loop = refl

-- (:B&A&B): labels are put in order, each once
labels_in_order : inserted_into empty [] [] (path (record { variable = None; labels = Some (codes "B" ∷ codes "A" ∷ codes "B" ∷ []); map = None }) [] ∷ [])
    ≡ Ok (graph_of (node_record 1 (codes "A" ∷ codes "B" ∷ []) [] ∷ []) [] 2 1, [] ∷ [])
labels_in_order = refl

-- (a:A {n: 1, m: NULL, l: 2}): properties are put in order, and NULL makes none
null_makes_none : inserted_into empty [] [] (path (mapped (codes "a") (item (codes "n") (digits_of (codes "1")) ∷ item (codes "m") (expr.Constant v.Null) ∷ item (codes "l") (digits_of (codes "2")) ∷ [])) [] ∷ [])
    ≡ Ok (graph_of (node_record 1 (codes "A" ∷ []) ((codes "l", integer (pos 2)) ∷ (codes "n", integer (pos 1)) ∷ []) ∷ []) [] 2 1, (node 1 ∷ []) ∷ [])
unfolding value_of
null_makes_none = refl

-- two rows, each with its own node
abbrev some_column : ColumnList
some_column = (codes "x", kind.Plain) ∷ []

a_node_each : changed_by_insert empty [] some_column ((integer (pos 7) ∷ []) ∷ (null ∷ []) ∷ []) (path (mapped (codes "a") (item (codes "n") (expr.Name (codes "x")) ∷ [])) [] ∷ [])
    ≡ Ok (graph_of (node_record 1 (codes "A" ∷ []) ((codes "n", integer (pos 7)) ∷ []) ∷ node_record 2 (codes "A" ∷ []) [] ∷ []) [] 3 1, (integer (pos 7) ∷ node 1 ∷ []) ∷ (null ∷ node 2 ∷ []) ∷ [])
unfolding value_of
a_node_each = refl

-- numbers that are used up: an edge asks before the node behind it
abbrev one_node : ℕ → ℕ → PropertyGraph
one_node next_node next_edge = graph_of (node_record 1 [] [] ∷ []) [] next_node next_edge

abbrev a_column : ColumnList
a_column = (codes "a", kind.Node) ∷ []

last_node : inserted_into (one_node 4294967294 1) [] [] (path (bare None) [] ∷ [])
    ≡ Ok (graph_of (node_record 1 [] [] ∷ node_record 4294967294 [] [] ∷ []) [] 4294967295 1, [] ∷ [])
last_node = refl

full_of_nodes : inserted_into (one_node 4294967295 1) [] [] (path (bare None) [] ∷ []) ≡ Err (refusal.Full sort.Node)
full_of_nodes = refl

full_of_both : inserted_into (one_node 4294967295 4294967295) a_column (node 1 ∷ []) (path (named (codes "a")) (step arrow.Right None (bare None) ∷ []) ∷ []) ≡ Err (refusal.Full sort.Edge)
full_of_both = refl

-- data faults: an element as a value, an endpoint that was deleted, and NULL as one
element_as_value : inserted_into (one_node 2 1) a_column (node 1 ∷ []) (path (mapped (codes "b") (item (codes "n") (expr.Name (codes "a")) ∷ [])) [] ∷ []) ≡ Err (refusal.Fault fault.WrongKind)
unfolding value_of
element_as_value = refl

deleted_endpoint : inserted_into (one_node 3 1) a_column (node 2 ∷ []) (path (named (codes "a")) (step arrow.Right None (bare None) ∷ []) ∷ []) ≡ Err (refusal.Fault fault.Deleted)
deleted_endpoint = refl

null_endpoint : inserted_into (one_node 3 1) a_column (null ∷ []) (path (named (codes "a")) (step arrow.Right None (bare None) ∷ []) ∷ []) ≡ Err (refusal.Fault fault.WrongKind)
null_endpoint = refl

-- a fault comes before numbers that are used up, also where it stands later in the text
fault_first : inserted_into (one_node 4294967295 1) a_column (node 1 ∷ []) (path (bare None) [] ∷ path (mapped (codes "b") (item (codes "n") (expr.Name (codes "a")) ∷ [])) [] ∷ []) ≡ Err (refusal.Fault fault.WrongKind)
unfolding value_of
fault_first = refl

-- Why a plan asks for rows as wide as their columns, and for endpoints of the right kind: without these the definition
-- gives an edge without nodes. (n), (n)-[:T]->(n) over a row that lacks a value:
abbrev graph_given : Result Changed Refusal → PropertyGraph
graph_given (Ok c) = c.0
graph_given (Err r) = empty

narrow_row : is_graph (graph_given (inserted_into empty a_column [] (path (named (codes "n")) [] ∷ path (named (codes "n")) (step arrow.Right None (named (codes "n")) ∷ []) ∷ []))) ≡ false
narrow_row = refl

-- ()-[e:T]->(), (e)-[:T]->(e)
edge_as_endpoint : is_graph (graph_given (inserted_into empty [] [] (path (bare None) (step arrow.Right (Some (codes "e")) (bare None) ∷ []) ∷ path (named (codes "e")) (step arrow.Right None (named (codes "e")) ∷ []) ∷ []))) ≡ false
edge_as_endpoint = refl
