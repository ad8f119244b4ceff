-- A record in memory is given out as it is.
use Rattle.gql_keep_sql.proofs.MemoryLemmas.{held_fetches}
use Rattle.gql_keep_sql.proofs.ReadLemmas.{same_place}
use Rattle.gql_keep_sql.proofs.reader.Reader.fetch.Goals as goal

pub returns-in-Some-clause-value : goal.returns-in-Some-clause-value
returns-in-Some-clause-value g c = held_fetches g.S.Store c.args.self.now.place c.args.index _ _ c.in-Some.ensures c.copy_of.ensures.same

pub returns-in-Some-clause-place : goal.returns-in-Some-clause-place
returns-in-Some-clause-place g c = same_place g.S.Store c.args.self.now.place
