-- Truths and values: which values are read as a truth, and the value that a truth is.
use Rattle.std.specs.Prelude.{true, false, Result, Ok, Err}
use Rattle.gql_values3.specs.Datum.{Datum, null, boolean}
use Rattle.gql_values3.specs.Truth.{truth_of}
use Rattle.gql_values3.specs.declared.truth.Truth.{Truth}
use Rattle.gql_values3.specs.declared.truth.Truth.TheVariants as truth
use Rattle.gql_ast.specs.declared.fault.DataFault.{DataFault}
use Rattle.gql_ast.specs.declared.fault.DataFault.TheVariants as fault

-- a condition: a boolean or NULL
abbrev pub truth_in : Datum → Result Truth DataFault
truth_in null = Ok truth.Unknown
truth_in (boolean b) = Ok (truth_of b)
truth_in _ = Err fault.WrongKind

-- a truth as a value: Unknown is NULL
abbrev pub datum_of_truth : Truth → Datum
datum_of_truth truth.False = boolean false
datum_of_truth truth.Unknown = null
datum_of_truth truth.True = boolean true
