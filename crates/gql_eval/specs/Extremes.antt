-- The least and the greatest of data in the total order, said without a way to find them.
use Rattle.std.specs.Prelude.{◌≡◌, false, List}
use Rattle.std.specs.List.{Contains, All}
use Rattle.std.specs.Ordering.{is_lt, is_gt}
use Rattle.gql_values3.specs.Datum.{Datum}
use Rattle.gql_values3.specs.ValueOrder.{datum_cmp}

-- one of them, and none is less
abbrev pub IsLeast : Datum → List Datum → Type 0
IsLeast d ds = Contains ds d × All (λ e. is_lt (datum_cmp e d) ≡ false) ds

-- one of them, and none is greater
abbrev pub IsGreatest : Datum → List Datum → Type 0
IsGreatest d ds = Contains ds d × All (λ e. is_gt (datum_cmp e d) ≡ false) ds
