-- One step after another, for clauses, which cannot import the operator.
use Rattle.std.specs.Prelude.{Result}
use Rattle.gql_ast.specs.declared.fault.DataFault.{DataFault}
use Rattle.gql_ast.specs.Faults.{◌>>=◌}

-- the second step takes what the first gives; the first fault ends both
abbrev pub next : {A B : Type 0} → Result A DataFault → (A → Result B DataFault) → Result B DataFault
next r f = r >>= f
