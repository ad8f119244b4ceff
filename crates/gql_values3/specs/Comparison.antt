-- Comparison of two values: a truth, or None where they are not comparable.
use Rattle.std.specs.Prelude.{Bool, Option, Some, None, length, ◌==◌, if◌then◌else◌, ◌&&◌, nat_lt, option_map}
use Rattle.std.specs.declared.cmp.Ordering.{Ordering}
use Rattle.std.specs.Ordering.{is_eq, is_lt, is_gt, is_le, is_ge}
use Rattle.gql_values3.specs.declared.truth.Truth.{Truth}
use Rattle.gql_values3.specs.declared.truth.Truth.TheVariants as truth
use Rattle.gql_values3.specs.declared.comparison.Comparison.{Comparison}
use Rattle.gql_values3.specs.declared.comparison.Comparison.TheVariants as op
use Rattle.gql_values3.specs.Datum.{Datum, Data, null, list, no_data, more_data, items_of}
use Rattle.gql_values3.specs.ValueOrder.{rank, datum_cmp}
use Rattle.gql_values3.specs.Truth.{negated, both, truth_of}

-- AND of two equalities; none where one is none
abbrev pub both_equalities : Option Truth → Option Truth → Option Truth
both_equalities (Some a) (Some b) = Some (both a b)
both_equalities _ _ = None

-- `=`: NULL gives Unknown, different kinds are not comparable, and lists of different lengths are unequal
abbrev mutual
  pub equality : Datum → Datum → Option Truth
  equality null b = Some truth.Unknown
  equality a null = Some truth.Unknown
  equality (list a) (list b) = if (length (items_of a) == length (items_of b)) then items_equality a b else Some truth.False
  equality a b = if (rank a == rank b) then Some (truth_of (is_eq (datum_cmp a b))) else None

  -- of lists of one length: not comparable where a pair of items is, else the AND of the items' equalities. `equality` asks
  -- of no lists of two lengths; there the items that one list has more count as equal, so that the definition is total.
  pub items_equality : Data → Data → Option Truth
  items_equality no_data bs = Some truth.True
  items_equality (more_data a more) no_data = Some truth.True
  items_equality (more_data a more) (more_data b rest) = both_equalities (equality a b) (items_equality more rest)

-- an order sign: NULL gives Unknown; both sides are booleans, or integers, or texts, else they are not comparable
abbrev pub ordered : (Ordering → Bool) → Datum → Datum → Option Truth
ordered test null b = Some truth.Unknown
ordered test a null = Some truth.Unknown
ordered test a b = if ((rank a == rank b) && nat_lt (rank a) 3) then Some (truth_of (test (datum_cmp a b))) else None

-- what a comparison gives
abbrev pub compared : Comparison → Datum → Datum → Option Truth
compared op.Eq a b = equality a b
compared op.Ne a b = option_map negated (equality a b)
compared op.Lt a b = ordered is_lt a b
compared op.Gt a b = ordered is_gt a b
compared op.Le a b = ordered is_le a b
compared op.Ge a b = ordered is_ge a b
