use Rattle.std.proofs.Common.{◌≡◌, Some, take}
use Rattle.gql_ports.specs.Held.{Holding}
use Rattle.gql_txn.proofs.load.fetch_all.Given as goal

abbrev pub invariant-loop-index : goal.invariant-loop-index
invariant-loop-index g l = record {
  held : g.K.Keeper.held l.keeper ≡ g.K.Keeper.held l.fn.keeper;
  count : g.K.Keeper.count l.keeper ≡ g.K.Keeper.count l.fn.keeper;
  faults : g.K.Keeper.faults l.keeper ≡ g.K.Keeper.faults l.fn.keeper;
  all : (h : Holding) → g.K.Keeper.held l.fn.keeper ≡ Some h → l.records.items ≡ take l.index h.records;
}
