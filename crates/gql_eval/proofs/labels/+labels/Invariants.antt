use Rattle.std.proofs.Common.{◌≡◌, map, ◌+◌, ◌*◌}
use Rattle.gql_values3.specs.Lookup.{labels_of}
use Rattle.gql_ast.specs.LabelMeaning.{label_of}
use Rattle.gql_ast.specs.Machinery.LabelHeight.{label_height_of, highest_label}
use Rattle.gql_eval.proofs.LabelLemmas.{all_from, some_from}
use Rattle.gql_eval.proofs.labels.+labels.Given as goal

abbrev pub decreases-satisfies : goal.decreases-satisfies
decreases-satisfies g l = 2 * label_height_of (label_of l.labels.now)

abbrev pub decreases-satisfies_all : goal.decreases-satisfies_all
decreases-satisfies_all g l = 2 * highest_label (map label_of l.parts.now) + 1

abbrev pub decreases-satisfies_some : goal.decreases-satisfies_some
decreases-satisfies_some g l = 2 * highest_label (map label_of l.parts.now) + 1

abbrev pub invariant-satisfies_all-loop-i : goal.invariant-satisfies_all-loop-i
invariant-satisfies_all-loop-i g l =
    let ls = labels_of (g.V.View.graph l.view) l.elem in
    all_from ls l.parts l.i ≡ all_from ls l.parts 0

abbrev pub invariant-satisfies_some-loop-i : goal.invariant-satisfies_some-loop-i
invariant-satisfies_some-loop-i g l =
    let ls = labels_of (g.V.View.graph l.view) l.elem in
    some_from ls l.parts l.i ≡ some_from ls l.parts 0
