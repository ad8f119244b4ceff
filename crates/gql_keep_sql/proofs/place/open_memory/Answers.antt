-- What was just opened in memory holds nothing.
use Rattle.gql_keep_sql.specs.declared.place.Place.TheVariants.{Nowhere}
use Rattle.std.proofs.Common.{[], rules}
use Rattle.gql_keep_sql.proofs.place.open_memory.Goals as goal

pub returns-clause-all : goal.returns-clause-all
returns-clause-all g c = record { rows = []; before = Nowhere; store = tt; selected = search rules; rests = tt; are = search rules }
