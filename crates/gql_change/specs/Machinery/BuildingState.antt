-- What the code has built so far.
use Rattle.gql_change.specs.Machinery.Building.{Built}
use Rattle.gql_change.specs.declared.assigned.Building.{Building}

abbrev pub built_so_far : Building → Built
built_so_far b = record { changes = b.changes; target = b.target; acts = b.acts.items }
