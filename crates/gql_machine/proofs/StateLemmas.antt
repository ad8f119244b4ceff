-- The state of a session by that of its transaction.
use Rattle.std.proofs.Common.{ℕ, Bool, List}
use Rattle.gql_txn.specs.TxnData.{TxnData}
use Rattle.gql_machine.specs.SessionState.{SessionState, ParameterList}

-- the state with this transaction
abbrev pub over : TxnData → List ℕ → ParameterList → Bool → SessionState
over t graph params is_closed = record { catalog = t.catalog; kept = t.kept; access = t.access; graph = graph; parameters = params; is_closed = is_closed }
