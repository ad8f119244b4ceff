use Rattle.std.proofs.Common.{◌∙◌, ap, sym}
use Rattle.gql_values3.specs.Datum.{Datum, is_null}
use Rattle.gql_eval.specs.Machinery.Steps.{has_null_on_top}
use Rattle.gql_eval.specs.Machinery.Turned.{turned}
use Rattle.gql_eval.proofs.TopLemmas.{top_is}
use Rattle.gql_eval.proofs.stack.Stack.has_null_on_top.Goals as goal

pub returns-in-Some : goal.returns-in-Some
returns-in-Some c =
    c.is_null.ensures ∙ ap is_null c.value.ensures
    ∙ sym (top_is has_null_on_top c.deref.result.now c.in-Some.held.now c.in-Some.ensures.value).1
    ∙ ap (λ xs. has_null_on_top (turned (λ (d : Datum). d) xs)) c.deref.ensures.value
    ∙ ap has_null_on_top c.self.view_is
