-- E21: two values for one property of one element differ. The assignments are put in order by element, nodes before
-- edges, and then by the property's name; of the first two neighbours of one property that differ, the former is the
-- property's first value and the latter the first that differs from it.
use Rattle.std.specs.Prelude.{Bool, true, false, not, ◌&&◌, ◌==◌, List, [], ◌∷◌, Option, Some, None, if◌then◌else◌}
use Rattle.std.specs.Option.{option_or}
use Rattle.std.specs.declared.cmp.Ordering.{Ordering}
use Rattle.std.specs.declared.cmp.Ordering.TheVariants.{Less, Equal, Greater}
use Rattle.std.specs.Ordering.{is_lt, nat_cmp, ordering_then}
use Rattle.std.specs.Cmp.Lexicographic.{slice_cmp}
use Rattle.gql_values3.specs.Meaning.{datum_of}
use Rattle.gql_values3.specs.Texts.{same_text}
use Rattle.gql_values3.specs.ValueOrder.{datum_cmp}
use Rattle.gql_values3.specs.declared.element.Elem.{Elem}
use Rattle.gql_values3.specs.declared.element.Elem.TheVariants as elem
use Rattle.gql_ast.specs.declared.refusal.Refusal.{Refusal}
use Rattle.gql_ast.specs.declared.refusal.Refusal.TheVariants as refusal
use Rattle.gql_eval.specs.StableSort.{stably_sorted}
use Rattle.gql_change.specs.declared.assignment.Act.{Act}
use Rattle.gql_change.specs.declared.assignment.Act.TheVariants as act
use Rattle.gql_change.specs.declared.assignment.Assignment.{Assignment}

-- nodes before edges, each by number
abbrev pub elem_cmp : Elem → Elem → Ordering
elem_cmp (elem.Node m) (elem.Node n) = nat_cmp m.0 n.0
elem_cmp (elem.Node m) (elem.Edge n) = Less
elem_cmp (elem.Edge m) (elem.Node n) = Greater
elem_cmp (elem.Edge m) (elem.Edge n) = nat_cmp m.0 n.0

-- properties by their names, before labels, which keep their order
abbrev pub act_cmp : Act → Act → Ordering
act_cmp (act.Property x a) (act.Property y b) = slice_cmp nat_cmp x y
act_cmp (act.Property x a) b = Less
act_cmp a (act.Property y b) = Greater
act_cmp a b = Equal

-- by element, and then by what is done to it
abbrev pub assignment_cmp : Assignment → Assignment → Ordering
assignment_cmp a b = ordering_then (elem_cmp a.target b.target) (act_cmp a.act b.act)

-- the assignment is strictly less
abbrev pub comes_before : Assignment → Assignment → Bool
comes_before a b = is_lt (assignment_cmp a b)

-- in order; ties stay as they stood
abbrev pub in_order : List Assignment → List Assignment
in_order given = stably_sorted comes_before given

-- both are one node, or one edge
abbrev pub same_elem : Elem → Elem → Bool
same_elem (elem.Node m) (elem.Node n) = m.0 == n.0
same_elem (elem.Edge m) (elem.Edge n) = m.0 == n.0
same_elem _ _ = false

-- neither is less than the other
abbrev pub are_same : Ordering → Bool
are_same Equal = true
are_same _ = false

-- two values for one property, where they differ
abbrev pub act_conflict : Elem → Act → Act → Option Refusal
act_conflict e (act.Property x a) (act.Property y b) =
    if same_text x y && not (are_same (datum_cmp (datum_of a) (datum_of b)))
    then Some (refusal.Conflict e x a b) else None
act_conflict e _ _ = None

-- the conflict of two assignments, where they give one property of one element different values
abbrev pub conflict_of : Assignment → Assignment → Option Refusal
conflict_of a b = if same_elem a.target b.target then act_conflict a.target a.act b.act else None

-- the first two neighbours that differ
abbrev pub neighbours_conflict : List Assignment → Option Refusal
neighbours_conflict [] = None
neighbours_conflict (a ∷ []) = None
neighbours_conflict (a ∷ b ∷ bs) = option_or (conflict_of a b) (neighbours_conflict (b ∷ bs))

-- the conflict for which the clause is refused, where there is one
abbrev pub conflict_among : List Assignment → Option Refusal
conflict_among given = neighbours_conflict (in_order given)
