-- What a keeper over SQLite tells of what it holds: nothing, since a file can change behind it.
use Rattle.std.specs.Prelude.{Option, None}
use Rattle.gql_ports.specs.Held.{Holding}
use Rattle.sqlite.specs.Store.{Ghosts}
use Rattle.gql_keep_sql.specs.declared.keeper.KeeperOver.{KeeperOver}

-- nothing is told, whatever the keeper holds
abbrev pub told_by : {S : Type 0} {g : Ghosts S} → KeeperOver S g → Option Holding
told_by k = None
