-- Nothing was asked of the place.
use Rattle.std.proofs.Common.{is_ok, rules}
use Rattle.gql_keep_sql.proofs.WrittenLemmas.{unwritten, unwritten_if}
use Rattle.gql_keep_sql.proofs.keeper.KeeperOver.write.Goals as goal

pub returns-in_err-changes-clause-writes : goal.returns-in_err-changes-clause-writes
returns-in_err-changes-clause-writes g c = unwritten_if g.S.Store c.args.puts.now c.args.drops.now (is_ok c.from_residual.result) c.args.self.now.reader.place (search rules)

pub returns-in_default-clause-writes : goal.returns-in_default-clause-writes
returns-in_default-clause-writes g c = unwritten g.S.Store c.args.puts.now c.args.drops.now c.args.self.now.reader.place

pub returns-in_err-room-clause-writes : goal.returns-in_err-room-clause-writes
returns-in_err-room-clause-writes g c = unwritten_if g.S.Store c.args.puts.now c.args.drops.now (is_ok c.from_residual-in_err-room.result) c.args.self.now.reader.place (search rules)
