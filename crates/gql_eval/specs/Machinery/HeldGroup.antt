-- A group that a name of a program stands for.
use Rattle.std.specs.Prelude.{ℕ, List}
use Rattle.gql_values3.specs.Datum.{Datum}
use Rattle.gql_eval.specs.CowValue.{cow_datum}
use Rattle.gql_eval.specs.Machinery.AtPlaces.{held_at}
use Rattle.gql_eval.specs.declared.held_groups.HeldGroup.{HeldGroup}
use Rattle.gql_eval.specs.declared.places.Places.{Places}
use Rattle.gql_eval.specs.declared.scope.Scope.{Scope}

-- its name, and what it stands for
abbrev pub group_seen : HeldGroup → List ℕ × Datum
group_seen h = (h.name.now, cow_datum h.value)

-- a name, and what it stands for by its places
abbrev pub held_pair : Scope → Places × List ℕ → List ℕ × Datum
held_pair s h = (h.1, held_at s h.0 h.1)
