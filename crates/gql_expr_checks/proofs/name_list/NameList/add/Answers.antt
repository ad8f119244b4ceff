use Rattle.std.proofs.Common.{◌∙◌, ap, sym, map}
use Rattle.std.specs.String.{string_bytes}
use Rattle.gql_expr_checks.specs.Repeated.{is_among}
use Rattle.gql_expr_checks.specs.Machinery.NameList.{with_name}
use Rattle.gql_expr_checks.proofs.NameListLemmas.{among_keys, inserted_key, with_known, among_with}
use Rattle.gql_expr_checks.proofs.name_list.NameList.add.Goals as goal

pub returns-in_ok-insert-clause-names : goal.returns-in_ok-insert-clause-names
returns-in_ok-insert-clause-names c =
    ap (map string_bytes) c.in_ok-insert.ensures.keys ∙ inserted_key c.self.inside.set.keys c.in_ok-from_str.field-0
    ∙ ap (λ names. with_name names (string_bytes c.in_ok-from_str.field-0)) c.self.view_is
    ∙ ap (λ x. with_name c.args.self.now x) (c.in_ok-from_str.ensures.ok ∙ c.as_str-then-not-contains.ensures)

pub returns-in_ok-insert-clause-among : goal.returns-in_ok-insert-clause-among
returns-in_ok-insert-clause-among c = λ x. ap (λ names. is_among names x) (returns-in_ok-insert-clause-names c) ∙ among_with c.args.self.now c.args.name.now x

pub returns-else-not-contains-clause-names : goal.returns-else-not-contains-clause-names
returns-else-not-contains-clause-names c =
    with_known c.args.self.now c.args.name.now
    (sym (c.contains.ensures ∙ among_keys c.as_str.result.now c.self.inside.set.keys
    ∙ ap (λ names. is_among names c.as_str.result.now) c.self.view_is ∙ ap (λ x. is_among c.args.self.now x) c.as_str.ensures) ∙ c.if-not-contains.false)

pub returns-else-not-contains-clause-among : goal.returns-else-not-contains-clause-among
returns-else-not-contains-clause-among c = λ x. ap (λ names. is_among names x) (returns-else-not-contains-clause-names c) ∙ among_with c.args.self.now c.args.name.now x
