-- Which reference is refused by E14: the first in the order of the text that crosses an unprotected quantifier.
use Rattle.std.specs.Prelude.{ℕ, List, Option}
use Rattle.gql_expr_checks.specs.First.{first}
use Rattle.gql_norm.specs.NormalPattern.{NormalPattern}
use Rattle.gql_norm.specs.Termination.{group_references}

-- its name, if there is such a reference in a MATCH
abbrev pub first_group_reference : NormalPattern → Option (List ℕ)
first_group_reference p = first (group_references p)
