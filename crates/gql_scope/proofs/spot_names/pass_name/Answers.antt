use Rattle.std.proofs.Common.{◌≡◌, ◌++◌, ◌∷◌, [], OnOk, ap, sym, subst, ◌∙◌, if◌then◌else◌}
use Rattle.std.specs.Option.{option_or}
use Rattle.gql_ast.specs.declared.refusal.Refusal.TheVariants as refusal
use Rattle.gql_expr_checks.specs.Gives.{Gives}
use Rattle.gql_expr_checks.specs.Refusals.{refusal_of_first}
use Rattle.gql_scope.proofs.CodeLemmas.{holds_ok, on_ok, or_none}
use Rattle.gql_scope.proofs.SpotLemmas.{appended, kind_held, new_column, new_kind, new_placed, old_column, old_placed}
use Rattle.gql_scope.proofs.spot_names.pass_name.Goals as goal

pub returns-in-None-clause-names : goal.returns-in-None-clause-names
returns-in-None-clause-names c =
    let new = sym c.standing.ensures ∙ c.in-None.is in
    subst (λ xs. Gives c.push_new.result (refusal_of_first refusal.Variable xs)) (sym (new_placed (c.args.incoming.now ++ c.args.fresh.now) c.args.kind c.args.fill.now c.args.name.now new))
    c.push_new.ensures.names

pub returns-in-None-clause-kinds : goal.returns-in-None-clause-kinds
returns-in-None-clause-kinds c =
    let new = sym c.standing.ensures ∙ c.in-None.is in
    let slot = c.args.kinds.now in
    subst (λ xs. OnOk c.push_new.result (slot ≡ option_or slot (refusal_of_first refusal.Kind xs))) (sym (new_kind (c.args.incoming.now ++ c.args.fresh.now) c.args.kind c.args.name.now new))
    (holds_ok c.push_new.result (sym (or_none slot)))

pub returns-in-None-clause-columns : goal.returns-in-None-clause-columns
returns-in-None-clause-columns c =
    let new = sym c.standing.ensures ∙ c.in-None.is in
    let incoming = c.args.incoming.now in
    let fresh = c.args.fresh.now in
    let column = (c.args.name.now, c.args.kind) ∷ [] in
    on_ok c.push_new.result (λ pushed. ap (λ ys. incoming ++ ys) pushed ∙ appended incoming fresh column ∙ sym (new_column (incoming ++ fresh) c.args.kind c.args.name.now new))
    c.push_new.ensures.columns

pub returns-in-Some-clause-names : goal.returns-in-Some-clause-names
returns-in-Some-clause-names c =
    let known = sym c.standing.ensures ∙ c.in-Some.is in
    let x = c.args.name.now in
    subst (λ xs. Gives c.pass_standing.result (refusal_of_first refusal.Variable xs))
    (ap (λ b. if b then [] else x ∷ []) c.may_refer.ensures ∙ sym (old_placed (c.args.incoming.now ++ c.args.fresh.now) c.args.kind c.args.fill.now x c.in-Some.held known))
    c.pass_standing.ensures.names

pub returns-in-Some-clause-kinds : goal.returns-in-Some-clause-kinds
returns-in-Some-clause-kinds c =
    let known = sym c.standing.ensures ∙ c.in-Some.is in
    kind_held c.pass_standing.result (c.args.incoming.now ++ c.args.fresh.now) c.args.kind c.args.fill.now c.args.name.now c.in-Some.held c.may_refer.result c.args.kinds.now
    c.pass_standing.new.kinds known c.may_refer.ensures c.pass_standing.ensures.names c.pass_standing.ensures.kinds

pub returns-in-Some-clause-columns : goal.returns-in-Some-clause-columns
returns-in-Some-clause-columns c =
    let known = sym c.standing.ensures ∙ c.in-Some.is in
    holds_ok c.pass_standing.result (sym (old_column (c.args.incoming.now ++ c.args.fresh.now) c.args.kind c.args.name.now c.in-Some.held known))
