use Rattle.std.proofs.Common.{rules, ap₂, codes, ◌≡◌, ◌∙◌}
use Rattle.std.proofs.lemmas.Result.{IfOk-weaker}
use Rattle.clap.specs.Words.{app_of, rule_of, with_rule}
use Rattle.gql_session.specs.Words.{bare_app, argument_rule, option_rule}
use Rattle.gql_session.proofs.app.run_app.Goals as goal

pub returns : goal.returns
returns c =
    let session_is : rule_of c.action-session.result ≡ argument_rule (codes "session") = search rules in
    let store_is : rule_of c.action-store.result ≡ option_rule (codes "store") = search rules in
    let workers_is : rule_of c.action-workers.result ≡ option_rule (codes "workers") = search rules in
    let bare_is : app_of c.no_binary_name.result ≡ bare_app = search rules in
    let one = c.in_ok-arg.ensures.shape (search rules) ∙ ap₂ with_rule bare_is session_is in
    let two = c.in_ok-arg-2.ensures.shape (search rules) ∙ ap₂ with_rule one store_is in
    IfOk-weaker c.arg-3.result _ _ (λ r h. h.shape (search rules) ∙ ap₂ with_rule two workers_is) c.arg-3.ensures
