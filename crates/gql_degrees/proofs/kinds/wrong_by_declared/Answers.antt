use Rattle.std.proofs.Common.{◌≡◌, ◌≤◌, IfOk, length, map, subst, refl, sym, ap, ◌∙◌}
use Rattle.gql_norm.specs.NormalData.{path_data, pattern_data}
use Rattle.gql_degrees.specs.Machinery.KindWalk.{declared_in_all_paths, first_clash, none_before}
use Rattle.gql_degrees.proofs.AloneLemmas.{no_wrong_kind}
use Rattle.gql_degrees.proofs.KindLemmas.{first_is}
use Rattle.gql_degrees.proofs.kinds.wrong_by_declared.Goals as goal

pub returns-then-is_alone : goal.returns-then-is_alone
returns-then-is_alone c =
    let alone = c.if-is_alone.ensures.0 refl in
    let declared = c.as_slice-3.ensures ∙ c.in_ok-declared.ensures ∙ ap (λ ps. declared_in_all_paths (map path_data ps)) c.as_slice.ensures in
    sym (no_wrong_kind c.args.columns.now (pattern_data c.args.pattern.now) (sym c.as_slice-2.ensures ∙ alone.0)
    (subst (λ names. length names ≤ 1) declared alone.1))

pub returns : goal.returns
returns c =
    let columns = c.in_ok-columns.ensures ∙ c.as_slice-4.ensures in
    let declared = c.as_slice-5.ensures ∙ c.in_ok-declared.ensures ∙ ap (λ ps. declared_in_all_paths (map path_data ps)) c.as_slice.ensures in
    subst (λ z. IfOk c.first_clash.result (λ name. name ≡ z))
    ((λ i. first_clash (columns i) none_before (declared i)) ∙ first_is c.args.columns.now (pattern_data c.args.pattern.now))
    c.first_clash.ensures
