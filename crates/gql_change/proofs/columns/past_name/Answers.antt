use Rattle.std.proofs.Common.{◌≡◌, ◌∙◌, ◌&&◌, Bool, Some, None, refl, ap, sym}
use Rattle.gql_values3.proofs.BoolLemmas.{and_true}
use Rattle.gql_change.proofs.EndpointLemmas.{kind_at, a_column, no_column, endpoint_stands, endpoint_new}
use Rattle.gql_change.proofs.columns.past_name.Goals as goal

pub returns-in-Some : goal.returns-in-Some
returns-in-Some c =
    let is : Some c.in-Some.stands ≡ kind_at c.args.names c.args.name.now = sym c.in-Some.is ∙ c.kind_of.ensures ∙ ap (kind_at c.args.names) c.as_str.ensures in (
      rw (a_column c.args.names c.args.name.now c.in-Some.stands is) refl,
      ap (λ (b : Bool). c.args.fits && b) (c.may_stand.ensures ∙ endpoint_stands c.args.names c.args.kind c.args.name.now c.in-Some.stands is),
    )

pub returns-in_ok-with-in-None : goal.returns-in_ok-with-in-None
returns-in_ok-with-in-None c =
    let is : None ≡ kind_at c.args.names c.args.name.now = sym c.in-None.is ∙ c.kind_of.ensures ∙ ap (kind_at c.args.names) c.as_str.ensures in (
      rw (no_column c.args.names c.args.name.now is) c.in_ok-with-in-None.ensures,
      and_true c.args.fits _ (endpoint_new c.args.names c.args.kind c.args.name.now is),
    )
