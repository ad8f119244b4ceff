use Rattle.std.proofs.Common.{rules, ap₂, codes, ◌≡◌, ◌∙◌}
use Rattle.std.proofs.lemmas.Result.{IfOk-weaker}
use Rattle.clap.specs.Words.{app_of, rule_of, with_rule}
use Rattle.gql_session.specs.Words.{bare_app, argument_rule}
use Rattle.gql_session.proofs.app.selftest_app.Goals as goal

pub returns : goal.returns
returns c =
    let n_is : rule_of c.action-n.result ≡ argument_rule (codes "n") = search rules in
    let bare_is : app_of c.no_binary_name.result ≡ bare_app = search rules in
    IfOk-weaker c.arg.result _ _ (λ r h. h.shape (search rules) ∙ ap₂ with_rule bare_is n_is) c.arg.ensures
