-- The steps of a program, and what they do to a stack of values.
use Rattle.std.specs.Prelude.{ℕ, zero, suc, Bool, true, false, cond, List, [], ◌∷◌, ◌++◌, Option, Some, None, Result, Ok, Err}
use Rattle.gql_values3.specs.Datum.{Datum, boolean, list, no_data, is_null, data_of, items_of}
use Rattle.gql_values3.specs.PropertyGraph.{PropertyGraph}
use Rattle.gql_values3.specs.Truth.{both}
use Rattle.gql_values3.specs.declared.truth.Truth.{Truth}
use Rattle.gql_ast.specs.Tree.{Tree, aggregate}
use Rattle.gql_ast.specs.Faults.{◌>>=◌}
use Rattle.gql_ast.specs.Operators.{made_list, operated}
use Rattle.gql_ast.specs.TruthValues.{truth_in, datum_of_truth}
use Rattle.gql_ast.specs.ElementTests.{property_value}
use Rattle.gql_ast.specs.Evaluation.{value_of}
use Rattle.gql_ast.specs.declared.fault.DataFault.{DataFault}
use Rattle.gql_ast.specs.declared.fault.DataFault.TheVariants as fault
use Rattle.gql_ast.specs.declared.words.Aggregate.{Aggregate}
use Rattle.gql_ast.specs.declared.words.Operator.{Operator}
use Rattle.gql_ast.specs.declared.words.SetQuantifier.{SetQuantifier}
use Rattle.gql_eval.specs.Machinery.AtPlaces.{held_at}
use Rattle.gql_eval.specs.Machinery.JoinedTruth.{joined_truth}
use Rattle.gql_eval.specs.Machinery.Operations.{of_operand, of_operands}
use Rattle.gql_eval.specs.Machinery.ScopeMeaning.{scope_of}
use Rattle.gql_eval.specs.declared.places.Places.{Places}
use Rattle.gql_eval.specs.declared.scope.Scope.{Scope}

-- a step; the top of the stack is its first datum
pub data Op : Type 0 where
  -- puts a datum on top
  fixed : Datum → Op
  -- puts what a name stands for, and a property of it; with the name's places
  held_name : Places → List ℕ → Op
  held_property : Places → List ℕ → List ℕ → Op
  -- puts what an expression makes of its operand, or of its two, which stand on top
  of_one : Tree → Op
  of_two : Tree → Op
  -- a sum or a product of the two on top
  join_side : Operator → Op
  -- the truth of what stands on top
  as_truth : Op
  -- AND of the two on top, and OR or XOR of them
  join_all : Op
  join_any : Operator → Op
  -- changes nothing; where this boolean stands on top, so many of the steps behind it are skipped
  skip_if : Bool → ℕ → Op
  -- puts a list without items; puts the datum on top behind the items of the list below it; makes a value of the list on
  -- top, where it is within the limits
  start_list : Op
  add_item : Op
  end_list : Op
  -- takes the datum on top away where it is NULL; where it is not, so many of the steps behind it are skipped
  or_else : ℕ → Op
  -- puts an aggregate over a group; so many steps behind it are those of its argument, and are skipped
  over_group : Aggregate → SetQuantifier → Tree → ℕ → Op

-- a datum that is given, put on top
abbrev pub pushed : List Datum → Result Datum DataFault → Result (List Datum) DataFault
pushed st r = r >>= λ d. Ok (d ∷ st)

abbrev pub on_one : List Datum → (Datum → Result Datum DataFault) → Result (List Datum) DataFault
on_one [] f = Err fault.WrongKind
on_one (d ∷ st) f = pushed st (f d)

abbrev pub on_two : List Datum → (Datum → Datum → Result Datum DataFault) → Result (List Datum) DataFault
on_two [] f = Err fault.WrongKind
on_two (y ∷ []) f = Err fault.WrongKind
on_two (y ∷ x ∷ st) f = pushed st (f x y)

-- a datum read as a truth
abbrev pub read_truth : Datum → Result Datum DataFault
read_truth d = truth_in d >>= λ t. Ok (datum_of_truth t)

-- what becomes of two truths
abbrev pub join_by : (Truth → Truth → Truth) → Datum → Datum → Result Datum DataFault
join_by join x y = truth_in x >>= λ t. truth_in y >>= λ u. Ok (datum_of_truth (join t u))

-- whether a datum is this boolean
abbrev pub is_boolean : Bool → Datum → Bool
is_boolean true (boolean b) = b
is_boolean false (boolean false) = true
is_boolean b d = false

-- whether it stands on top
abbrev pub has_on_top : Bool → List Datum → Bool
has_on_top b [] = false
has_on_top b (d ∷ st) = is_boolean b d

-- an item more in a list
abbrev pub with_item_behind : Datum → Datum → Result Datum DataFault
with_item_behind (list ds) d = Ok (list (data_of (items_of ds ++ d ∷ [])))
with_item_behind _ d = Err fault.WrongKind

-- a list as a value that is made
abbrev pub list_ended : Datum → Result Datum DataFault
list_ended (list ds) = made_list (items_of ds)
list_ended _ = Err fault.WrongKind

-- whether NULL stands on top, and the stack without it
abbrev pub has_null_on_top : List Datum → Bool
has_null_on_top [] = false
has_null_on_top (d ∷ st) = is_null d

abbrev pub without_null : List Datum → List Datum
without_null [] = []
without_null (d ∷ st) = cond (is_null d) st (d ∷ st)

-- how many steps behind this one are skipped over the stack
abbrev pub skipped : Op → List Datum → ℕ
skipped (skip_if b n) st = cond (has_on_top b st) n 0
skipped (or_else n) st = cond (has_null_on_top st) 0 n
skipped (over_group a q e n) st = n
skipped _ st = 0

-- the name of a step that puts what one stands for, with its places
abbrev pub name_held : Op → Option (Places × List ℕ)
name_held (held_name p x) = Some (p, x)
name_held (held_property p x k) = Some (p, x)
name_held _ = None

abbrev pub with_name : Option (Places × List ℕ) → List (Places × List ℕ) → List (Places × List ℕ)
with_name None hs = hs
with_name (Some h) hs = h ∷ hs

-- the names of all steps, in their order
abbrev pub names_held : List Op → List (Places × List ℕ)
names_held [] = []
names_held (o ∷ os) = with_name (name_held o) (names_held os)

module _ (g : PropertyGraph) (params : List (List ℕ × Datum)) (s : Scope) where
  -- the stack behind a step
  abbrev pub acted : Op → List Datum → Result (List Datum) DataFault
  acted (fixed d) st = pushed st (Ok d)
  acted (held_name o x) st = pushed st (Ok (held_at s o x))
  acted (held_property o x p) st = pushed st (property_value g (held_at s o x) p)
  acted (of_one e) st = on_one st (of_operand g e)
  acted (of_two e) st = on_two st (of_operands g e)
  acted (join_side op) st = on_two st (operated op)
  acted as_truth st = on_one st read_truth
  acted join_all st = on_two st (join_by both)
  acted (join_any op) st = on_two st (join_by (joined_truth op))
  acted (skip_if b n) st = Ok st
  acted start_list st = pushed st (Ok (list no_data))
  acted add_item st = on_two st with_item_behind
  acted end_list st = on_one st list_ended
  acted (or_else n) st = Ok (without_null st)
  acted (over_group a q e n) st = pushed st (value_of g params (scope_of s) (aggregate a q e))

  -- the stack behind the steps, where so many of them are skipped
  abbrev pub ran_past : List Op → ℕ → List Datum → Result (List Datum) DataFault
  ran_past [] n st = Ok st
  ran_past (o ∷ os) (suc n) st = ran_past os n st
  ran_past (o ∷ os) zero st = acted o st >>= λ after. ran_past os (skipped o st) after

  -- the stack behind all steps
  abbrev pub ran : List Op → List Datum → Result (List Datum) DataFault
  ran os st = ran_past os 0 st

-- what stands on top in the end
abbrev pub top_of : List Datum → Result Datum DataFault
top_of [] = Err fault.WrongKind
top_of (d ∷ st) = Ok d
