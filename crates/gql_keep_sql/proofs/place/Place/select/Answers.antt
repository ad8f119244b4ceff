use Rattle.std.proofs.Common.{rules}
use Rattle.gql_keep_sql.proofs.RefusalLemmas.{fails_as}
use Rattle.gql_keep_sql.proofs.place.Place.select.Goals as goal

pub returns-in_err-select-in-File-clause-refused : goal.returns-in_err-select-in-File-clause-refused
returns-in_err-select-in-File-clause-refused g c = rw c.in-File.is (fails_as _ c.in_err-select-in-File.field-0.0 _ (search rules) c.in_err-select-in-File.ensures.refused)
