-- The kinds of values that a graph type may ask of a property: a scalar, or a list of one kind of scalar.
use Rattle.std.specs.Prelude.{Bool, true, false, not}
use Rattle.std.specs.List.{list_all}
use Rattle.gql_values3.specs.Datum.{Datum, null, boolean, integer, text, list, items_of}
use Rattle.gql_values3.specs.declared.prop_kind.Scalar.{Scalar}
use Rattle.gql_values3.specs.declared.prop_kind.Scalar.TheVariants as scalar
use Rattle.gql_values3.specs.declared.prop_kind.PropKind.{PropKind}
use Rattle.gql_values3.specs.declared.prop_kind.PropKind.TheVariants as kind

-- a value of the scalar's kind; NULL is of none
abbrev pub is_scalar : Scalar → Datum → Bool
is_scalar scalar.Bool (boolean b) = true
is_scalar scalar.Int (integer z) = true
is_scalar scalar.Text (text t) = true
is_scalar _ _ = false

-- an item of a list: such a value, or NULL unless the items are NOT NULL
abbrev pub is_item : Scalar → Bool → Datum → Bool
is_item s required null = not required
is_item s required d = is_scalar s d

-- a value of the kind; LIST<T> holds lists of T and NULL, LIST<T NOT NULL> lists of T alone
abbrev pub is_of_kind : PropKind → Datum → Bool
is_of_kind (kind.One s) d = is_scalar s d
is_of_kind (kind.Many s required) (list ds) = list_all (is_item s required) (items_of ds)
is_of_kind (kind.Many s required) _ = false
