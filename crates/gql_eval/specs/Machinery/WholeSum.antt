-- A sum before its size is looked at.
use Rattle.std.specs.Prelude.{ℤ, List, Result, Ok}
use Rattle.gql_values3.specs.Datum.{Datum}
use Rattle.gql_ast.specs.declared.fault.DataFault.{DataFault}
use Rattle.gql_ast.specs.Faults.{◌>>=◌, each}
use Rattle.gql_ast.specs.Aggregates.{addend, total}

-- the sum of integers, or that a value is none
abbrev pub total_of : List Datum → Result ℤ DataFault
total_of ds = each addend ds >>= λ zs. Ok (total zs)
