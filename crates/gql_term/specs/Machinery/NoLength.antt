-- What one walk over a part tells of its lengths.
use Rattle.std.specs.Prelude.{ℕ, Bool, true, ◌&&◌, ◌||◌, ◌==◌, List}
use Rattle.std.specs.List.{list_any, list_all}
use Rattle.gql_norm.specs.NormalPattern.{Part, NormalPath}
use Rattle.gql_norm.specs.Termination.{least_length, has_empty_loop}
use Rattle.gql_term.specs.declared.lengths.Lengths.{Lengths}
use Rattle.gql_term.specs.declared.lengths.ListLengths.{ListLengths}

abbrev pub has_no_length : Part → Bool
has_no_length p = least_length p == 0

abbrev pub lengths_of : Part → Lengths
lengths_of p = record { may_be_none = has_no_length p; has_empty_loop = has_empty_loop p }

abbrev pub list_lengths_of : List Part → ListLengths
list_lengths_of ps = record { all_may_be_none = list_all has_no_length ps; some_may_be_none = list_any has_no_length ps; some_has_empty_loop = list_any has_empty_loop ps }

-- two parts and more: in a row, and beside each other
abbrev pub row_lengths : Lengths → Lengths → ListLengths → Lengths
row_lengths a b rest = record {
  may_be_none = (a.may_be_none && b.may_be_none) && rest.all_may_be_none;
  has_empty_loop = (a.has_empty_loop || b.has_empty_loop) || rest.some_has_empty_loop;
}

abbrev pub side_lengths : Lengths → Lengths → ListLengths → Lengths
side_lengths a b rest = record {
  may_be_none = (a.may_be_none || b.may_be_none) || rest.some_may_be_none;
  has_empty_loop = (a.has_empty_loop || b.has_empty_loop) || rest.some_has_empty_loop;
}

-- sides whose number is told, of which there may be none
abbrev pub told_lengths : Bool → ListLengths → Lengths
told_lengths is_empty rest = record { may_be_none = is_empty || rest.some_may_be_none; has_empty_loop = rest.some_has_empty_loop }

-- a part so many times at least, and a part or nothing
abbrev pub repeated_lengths : Lengths → ℕ → Lengths
repeated_lengths a least = record { may_be_none = (least == 0) || a.may_be_none; has_empty_loop = a.may_be_none || a.has_empty_loop }

abbrev pub optional_lengths : Lengths → Lengths
optional_lengths a = record { may_be_none = true; has_empty_loop = a.has_empty_loop }

abbrev pub path_has_empty_loop : NormalPath → Bool
path_has_empty_loop p = has_empty_loop p.body
