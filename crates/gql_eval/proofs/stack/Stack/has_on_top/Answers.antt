use Rattle.std.proofs.Common.{◌∙◌, ap, sym}
use Rattle.gql_values3.specs.Datum.{Datum}
use Rattle.gql_eval.specs.Machinery.Steps.{is_boolean, has_on_top}
use Rattle.gql_eval.specs.Machinery.Turned.{turned}
use Rattle.gql_eval.proofs.TopLemmas.{top_is}
use Rattle.gql_eval.proofs.stack.Stack.has_on_top.Goals as goal

pub returns-in-Some : goal.returns-in-Some
returns-in-Some c =
    c.is_boolean.ensures ∙ ap (is_boolean c.args.wanted) c.value.ensures
    ∙ sym (top_is (has_on_top c.args.wanted) c.deref.result.now c.in-Some.held.now c.in-Some.ensures.value).1
    ∙ ap (λ xs. has_on_top c.args.wanted (turned (λ (d : Datum). d) xs)) c.deref.ensures.value
    ∙ ap (has_on_top c.args.wanted) c.self.view_is
