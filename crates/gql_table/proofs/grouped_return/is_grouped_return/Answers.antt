use Rattle.std.proofs.Common.{sym}
use Rattle.gql_table.proofs.AggregationLemmas.{no_name_has_one}
use Rattle.gql_table.proofs.grouped_return.is_grouped_return.Goals as goal

pub returns-in-None-All : goal.returns-in-None-All
returns-in-None-All c =
    rw (c.in-None-All.is-0, c.in-None-All.is-1) (sym (no_name_has_one c.args.columns.now c.args.columns.now))
