use Rattle.std.proofs.Common.{◌≡◌, [], map, drop}
use Rattle.gql_values3.specs.Meaning.{datum_of}
use Rattle.gql_table.specs.Machinery.GroupPlan.{kept_behind}
use Rattle.gql_table.proofs.notes.noted_row.Given as goal

abbrev pub invariant-loop-i : goal.invariant-loop-i
invariant-loop-i g l =
    kept_behind (g.V.View.graph l.grouping.view.now) (l.keys, l.arguments) (drop l.i l.items) (map datum_of l.row)
    ≡ kept_behind (g.V.View.graph l.grouping.view.now) ([], []) l.grouping.items.now (map datum_of l.row)
