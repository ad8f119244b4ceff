-- What stands in front of a reference, seen as the names that it bars.
use Rattle.std.specs.Prelude.{map}
use Rattle.gql_norm.specs.NormalData.{part_data}
use Rattle.gql_term.specs.declared.before.Before.{Before, fold-Before}
use Rattle.gql_term.specs.declared.before.Before.TheOpen.{Before-F}
use Rattle.gql_term.specs.Machinery.OpenReferences.{Barred, none_barred, barred_behind, barred_behind_all}

abbrev pub barred_step : Before-F Barred → Barred
barred_step Before-F.Nothing = none_barred
barred_step (Before-F.Part outer p safe) = barred_behind outer.now safe (part_data p.now)
barred_step (Before-F.Parts outer ps safe) = barred_behind_all outer.now safe (map part_data ps.now)

abbrev pub barred_by : Before → Barred
barred_by = fold-Before Barred barred_step
