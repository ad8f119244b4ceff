use Rattle.std.proofs.Common.{◌≡◌, ◌≤◌, ℕ, List, Some}
use Rattle.gql_txn.specs.Keeps.{IsSameStore}
use Rattle.gql_machine.specs.SessionState.{starting}
use Rattle.gql_machine.specs.Machinery.Meaning.{session_state}
use Rattle.gql_session.proofs.RunLemmas.{Ran}
use Rattle.gql_session.proofs.run_pieces.run_pieces.Given as goal

abbrev pub invariant-loop-piece : goal.invariant-loop-piece
invariant-loop-piece g l = record {
  later : g.W.Sink.faults l.fn.sink ≤ g.W.Sink.faults l.sink;
  uncounted : g.W.Sink.faults l.sink ≡ g.W.Sink.faults l.fn.sink;
  same : IsSameStore (g.K.Keeper.held l.fn.keeper) (g.K.Keeper.held l.keeper);
  told : (before : List ℕ) → g.W.Sink.written l.fn.sink ≡ Some before
      → Ran (starting l.fn.txn.catalog) l.text before l.piece-index (record { before = g.K.Keeper.faults l.fn.keeper; after = g.K.Keeper.faults l.keeper }) (g.K.Keeper.held l.fn.keeper) l.refused (session_state l.session) (g.W.Sink.written l.sink) (g.K.Keeper.held l.keeper);
}
