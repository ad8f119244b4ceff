use Rattle.std.proofs.Common.{◌∙◌, sym, ap, refl, true, false, Some}
use Rattle.gql_expr_checks.specs.Repeated.{is_among}
use Rattle.gql_pattern_checks.proofs.KindLemmas.{own_kind}
use Rattle.gql_pattern_checks.proofs.scope.Names.own_kind.Goals as goal

pub returns-then-contains : goal.returns-then-contains
returns-then-contains c = own_kind c.args.self.now c.args.name.now true (is_among c.args.self.now.variables c.args.name.now) (sym c.contains.ensures ∙ c.if-contains.true) refl

pub returns-then-contains-2 : goal.returns-then-contains-2
returns-then-contains-2 c =
    ap Some c.variable_kind.ensures
    ∙ own_kind c.args.self.now c.args.name.now false true (sym c.contains.ensures ∙ c.if-contains.false) (sym c.contains-else-contains.ensures ∙ c.if-contains-2.true)

pub returns-else-contains-2 : goal.returns-else-contains-2
returns-else-contains-2 c =
    own_kind c.args.self.now c.args.name.now false false (sym c.contains.ensures ∙ c.if-contains.false) (sym c.contains-else-contains.ensures ∙ c.if-contains-2.false)
