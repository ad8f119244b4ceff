-- How the changes of SET and REMOVE are built: the acts in the order of their elements, those of one element as they
-- stood, and one change for each element.
use Rattle.std.specs.Prelude.{Bool, List, [], ◌∷◌, ◌++◌, if◌then◌else◌}
use Rattle.std.specs.Ordering.{is_lt}
use Rattle.gql_values3.specs.PropertyGraph.{PropertyGraph}
use Rattle.gql_values3.specs.declared.element.Elem.{Elem}
use Rattle.gql_graph.specs.declared.change.Change.{Change}
use Rattle.gql_change.specs.Conflicts.{elem_cmp, same_elem}
use Rattle.gql_change.specs.Machinery.Swaps.{swaps}
use Rattle.gql_change.specs.declared.assignment.Act.{Act}
use Rattle.gql_change.specs.declared.assignment.Assignment.{Assignment}

abbrev pub target_before : Assignment → Assignment → Bool
target_before a b = is_lt (elem_cmp a.target b.target)

-- the changes that are done, the element that is at hand, and its acts so far
pub record Built : Type 0 where
  pub changes : List Change
  pub target : Elem
  pub acts : List Act

-- an act on another element ends the one at hand
abbrev pub built_with : PropertyGraph → Built → Assignment → Built
built_with g b a =
    if same_elem a.target b.target then record { changes = b.changes; target = b.target; acts = b.acts ++ a.act ∷ [] }
    else record { changes = b.changes ++ swaps g b.target b.acts; target = a.target; acts = a.act ∷ [] }

-- the changes of all
abbrev pub built : PropertyGraph → Built → List Assignment → List Change
built g b [] = b.changes ++ swaps g b.target b.acts
built g b (a ∷ more) = built g (built_with g b a) more

-- nothing is done, and the element is at hand
abbrev pub built_from : Elem → Built
built_from e = record { changes = []; target = e; acts = [] }
