-- Grouping as it runs over rows: what each aggregate of a group has come to, in place of the arguments of its rows. It
-- comes to the rows of `GroupPlan`.
use Rattle.std.specs.Prelude.{◌≡◌, ℕ, suc, ℤ, ◌+ℤ◌, Bool, true, List, [], ◌∷◌, ◌++◌, length, map, Option, Some, None, Result, Ok, Err, if◌then◌else◌}
use Rattle.std.specs.Ordering.{is_lt, is_gt}
use Rattle.gql_values3.specs.Datum.{Datum, null, integer}
use Rattle.gql_values3.specs.Datum.{is_null}
use Rattle.gql_values3.specs.ValueOrder.{datum_cmp}
use Rattle.gql_values3.specs.PropertyGraph.{PropertyGraph}
use Rattle.gql_ast.specs.Aggregates.{considered, aggregated, lesser, greater}
use Rattle.gql_ast.specs.Faults.{◌>>=◌, each}
use Rattle.gql_ast.specs.Operators.{fitted, counted}
use Rattle.gql_ast.specs.RowAggregates.{RowAggregate}
use Rattle.gql_ast.specs.declared.words.Aggregate.{Aggregate}
use Rattle.gql_ast.specs.declared.words.Aggregate.TheVariants as aggregate
use Rattle.gql_ast.specs.declared.words.SetQuantifier.{SetQuantifier}
use Rattle.gql_ast.specs.declared.words.SetQuantifier.TheVariants as quantifier
use Rattle.gql_ast.specs.declared.fault.DataFault.{DataFault}
use Rattle.gql_ast.specs.declared.fault.DataFault.TheVariants as fault
use Rattle.gql_eval.specs.RowLists.{RowList}
use Rattle.gql_table.specs.Distinct.{same_row}
use Rattle.gql_table.specs.Sorting.{first_key, later_keys}
use Rattle.gql_table.specs.Machinery.Places.{among}
use Rattle.gql_table.specs.Machinery.GroupPlan.{PreparedPlan, has_key, kept_behind, result_count, values_in_group}
use Rattle.gql_table.specs.declared.sums.SumSoFar.{SumSoFar}
use Rattle.gql_table.specs.declared.sums.SumSoFar.TheVariants as sum

-- what an aggregate has come to: how many values, a sum, the least or the greatest value, or all values, where the whole
-- list is needed
pub data Standing : Type 0 where
  counting : ℕ → Standing
  summing : SumSoFar → Standing
  lowest : Option Datum → Standing
  highest : Option Datum → Standing
  listing : Aggregate → SetQuantifier → List Datum → Standing

-- of no values
abbrev pub at_start_by : SetQuantifier → Aggregate → Standing
at_start_by quantifier.All aggregate.Count = counting 0
at_start_by quantifier.All aggregate.Sum = summing sum.Nothing
at_start_by quantifier.All aggregate.Min = lowest None
at_start_by quantifier.All aggregate.Max = highest None
at_start_by quantifier.All aggregate.CollectList = listing aggregate.CollectList quantifier.All []
at_start_by quantifier.Distinct makes = listing makes quantifier.Distinct []

abbrev pub at_start : RowAggregate → Standing
at_start a = at_start_by a.quantifier a.makes

-- a sum goes on by an integer; a value of another kind spoils it
abbrev pub sum_with : SumSoFar → ℤ → SumSoFar
sum_with sum.Nothing z = sum.Whole z
sum_with (sum.Whole y) z = sum.Whole (y +ℤ z)
sum_with sum.WrongKind z = sum.WrongKind

abbrev pub sum_past : SumSoFar → Datum → SumSoFar
sum_past s (integer z) = sum_with s z
sum_past s _ = sum.WrongKind

-- whether a value takes the place of the least, or of the greatest, so far
abbrev pub is_lower : Option Datum → Datum → Bool
is_lower None d = true
is_lower (Some b) d = is_lt (datum_cmp d b)

abbrev pub is_higher : Option Datum → Datum → Bool
is_higher None d = true
is_higher (Some b) d = is_gt (datum_cmp d b)

abbrev pub lower_of : Option Datum → Datum → Datum
lower_of None d = d
lower_of (Some b) d = lesser b d

abbrev pub higher_of : Option Datum → Datum → Datum
higher_of None d = d
higher_of (Some b) d = greater b d

-- one value more that is not NULL
abbrev pub onward : Standing → Datum → Standing
onward (counting n) d = counting (suc n)
onward (summing s) d = summing (sum_past s d)
onward (lowest best) d = lowest (Some (lower_of best d))
onward (highest best) d = highest (Some (higher_of best d))
onward (listing makes over ds) d = listing makes over (ds ++ d ∷ [])

-- one value more; NULL is skipped
abbrev pub past : Standing → Datum → Standing
past s d = if is_null d then s else onward s d

-- what comes of a sum, and of the least or the greatest; NULL of nothing
abbrev pub summed_up : SumSoFar → Result Datum DataFault
summed_up sum.Nothing = Ok null
summed_up (sum.Whole z) = fitted z
summed_up sum.WrongKind = Err fault.WrongKind

abbrev pub best_of : Option Datum → Datum
best_of None = null
best_of (Some d) = d

-- what comes of an aggregate
abbrev pub finished : Standing → Result Datum DataFault
finished (counting n) = counted n
finished (summing s) = summed_up s
finished (lowest best) = Ok (best_of best)
finished (highest best) = Ok (best_of best)
finished (listing makes over ds) = aggregated makes (considered over ds)

-- the aggregates of a group go on by the arguments of a row
abbrev pub row_past : List Standing → List Datum → List Standing
row_past [] row = []
row_past (s ∷ ss) row = past s (first_key row) ∷ row_past ss (later_keys row)

-- the aggregates of all items, over no rows
abbrev pub all_at_start : List PreparedPlan → List Standing
all_at_start [] = []
all_at_start (p ∷ ps) = map at_start p.aggregates ++ all_at_start ps

-- a group: its key, and what its aggregates have come to
abbrev pub Stood : Type 0
Stood = List Datum × List Standing

abbrev pub stood_keys : List Stood → RowList
stood_keys gs = map (λ (g : Stood). g.0) gs

-- with a group of the key, which has no row yet where it is new
abbrev pub with_stood : List Standing → List Stood → List Datum → List Stood
with_stood fresh gs key = if among (stood_keys gs) key then gs else gs ++ (key, fresh) ∷ []

-- a row joins the group of its key; where there is none, it begins one at the end
abbrev pub joined_stood : List Standing → List Stood → List Datum → List Datum → List Stood
joined_stood fresh [] key row = (key, row_past fresh row) ∷ []
joined_stood fresh (g ∷ gs) key row = if same_row g.0 key then (g.0, row_past g.1 row) ∷ gs else g ∷ joined_stood fresh gs key row

-- without a key there is one group, also over no rows
abbrev pub opened_stood : List PreparedPlan → List Stood → List Stood
opened_stood plan gs = if has_key plan then gs else with_stood (all_at_start plan) gs []

abbrev pub first_stood : List PreparedPlan → List Stood
first_stood plan = opened_stood plan []

-- the group has as many aggregates as all items
abbrev pub Wide : List PreparedPlan → Stood → Type 0
Wide plan s = length s.1 ≡ result_count plan

module _ (g : PropertyGraph) where
  -- the groups of rows, behind those of the rows before
  abbrev pub stood_behind : List Stood → List PreparedPlan → RowList → Result (List Stood) DataFault
  stood_behind gs plan [] = Ok gs
  stood_behind gs plan (row ∷ rows) = kept_behind g ([], []) plan row >>= λ kept. stood_behind (joined_stood (all_at_start plan) gs kept.0 kept.1) plan rows

  -- the row of a group
  abbrev pub row_of_stood : List PreparedPlan → Stood → Result (List Datum) DataFault
  row_of_stood plan s = each finished s.1 >>= λ done. values_in_group g plan s.0 done
