-- Aggregates over the values that an argument had.
use Rattle.std.specs.Prelude.{ℤ, pos, ◌+ℤ◌, not, List, [], ◌∷◌, filter, length, if◌then◌else◌, Result, Ok, Err}
use Rattle.std.specs.Ordering.{is_eq, is_lt, is_gt}
use Rattle.gql_values3.specs.Datum.{Datum, null, integer}
use Rattle.gql_values3.specs.Datum.{is_null}
use Rattle.gql_values3.specs.ValueOrder.{datum_cmp}
use Rattle.gql_ast.specs.declared.words.Aggregate.{Aggregate}
use Rattle.gql_ast.specs.declared.words.Aggregate.TheVariants as aggregate
use Rattle.gql_ast.specs.declared.words.SetQuantifier.{SetQuantifier}
use Rattle.gql_ast.specs.declared.words.SetQuantifier.TheVariants as quantifier
use Rattle.gql_ast.specs.declared.fault.DataFault.{DataFault}
use Rattle.gql_ast.specs.declared.fault.DataFault.TheVariants as fault
use Rattle.gql_ast.specs.Faults.{◌>>=◌, each}
use Rattle.gql_ast.specs.Operators.{fitted, counted, made_list}

-- the first of equal values
abbrev pub distinct : List Datum → List Datum
distinct [] = []
distinct (d ∷ ds) = d ∷ filter (λ e. not (is_eq (datum_cmp d e))) (distinct ds)

-- NULL is skipped, and DISTINCT drops equal values first
abbrev pub considered : SetQuantifier → List Datum → List Datum
considered quantifier.All ds = filter (λ d. not (is_null d)) ds
considered quantifier.Distinct ds = distinct (filter (λ d. not (is_null d)) ds)

-- an integer, for SUM
abbrev pub addend : Datum → Result ℤ DataFault
addend (integer z) = Ok z
addend _ = Err fault.WrongKind

-- the sum of integers, without a limit
abbrev pub total : List ℤ → ℤ
total [] = pos 0
total (z ∷ zs) = z +ℤ total zs

-- SUM of one value at least: every kind is looked at before the whole sum is
abbrev pub summed : List Datum → Result Datum DataFault
summed [] = Ok null
summed (d ∷ ds) = each addend (d ∷ ds) >>= λ zs. fitted (total zs)

-- the lesser of two by the total order; the first where they are equal
abbrev pub lesser : Datum → Datum → Datum
lesser d e = if is_lt (datum_cmp e d) then e else d

-- the greater of two by the total order; the first where they are equal
abbrev pub greater : Datum → Datum → Datum
greater d e = if is_gt (datum_cmp e d) then e else d

-- the least of a datum and those behind it
abbrev pub least_of : Datum → List Datum → Datum
least_of d [] = d
least_of d (e ∷ es) = least_of (lesser d e) es

-- the greatest of a datum and those behind it
abbrev pub greatest_of : Datum → List Datum → Datum
greatest_of d [] = d
greatest_of d (e ∷ es) = greatest_of (greater d e) es

-- the least, for MIN; NULL of nothing
abbrev pub least : List Datum → Datum
least [] = null
least (d ∷ ds) = least_of d ds

-- the greatest, for MAX; NULL of nothing
abbrev pub greatest : List Datum → Datum
greatest [] = null
greatest (d ∷ ds) = greatest_of d ds

-- the aggregate of the values that are left
abbrev pub aggregated : Aggregate → List Datum → Result Datum DataFault
aggregated aggregate.Count ds = counted (length ds)
aggregated aggregate.Sum ds = summed ds
aggregated aggregate.Min ds = Ok (least ds)
aggregated aggregate.Max ds = Ok (greatest ds)
aggregated aggregate.CollectList ds = made_list ds
