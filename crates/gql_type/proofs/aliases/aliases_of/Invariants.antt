use Rattle.std.proofs.Common.{◌≡◌, ◌||◌, ℕ, List, drop}
use Rattle.gql_type.specs.Conformance.{contains_name}
use Rattle.gql_type.specs.BodyFaults.{aliases_in}
use Rattle.gql_type.proofs.aliases.aliases_of.Given as goal

abbrev pub invariant-loop-element : goal.invariant-loop-element
invariant-loop-element l =
    (x : List ℕ) → (contains_name l.known x || contains_name (aliases_in (drop l.element-index l.elements)) x) ≡ contains_name (aliases_in l.elements) x
