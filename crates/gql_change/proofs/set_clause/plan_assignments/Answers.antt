use Rattle.std.proofs.Common.{◌≡◌, ◌∙◌, sym, ap, refl, Option, None}
use Rattle.gql_ast.specs.declared.refusal.Refusal.{Refusal}
use Rattle.gql_change.specs.AssignedGraph.{assigned}
use Rattle.gql_change.specs.Changing.{refused_by}
use Rattle.gql_change.specs.Conflicts.{conflict_among}
use Rattle.gql_change.proofs.set_clause.plan_assignments.Goals as goal

pub returns-in_ok-assigned_changes-in-None : goal.returns-in_ok-assigned_changes-in-None
returns-in_ok-assigned_changes-in-None g c =
    let graph = g.V.View.graph c.args.view.now in
    let xs = c.args.assignments.items in
    let told : c.in_ok-refusal.field-0 ≡ conflict_among c.as_slice.result.now = c.in_ok-refusal.ensures in
    let none : conflict_among xs ≡ None = ap conflict_among (sym c.as_slice.ensures.value) ∙ sym told ∙ c.in-None.is in
    λ rows. ((assigned xs graph, rows), ap (λ (o : Option Refusal). refused_by o (assigned xs graph, rows)) none, c.in_ok-assigned_changes-in-None.ensures, refl)
