use Rattle.std.proofs.Common.{◌≡◌, ◌∙◌, cond, Some, None, sym, ap}
use Rattle.gql_norm.specs.declared.degree.Degree.TheVariants.{Singleton}
use Rattle.gql_norm.specs.Degree.{element_degree}
use Rattle.gql_combine.proofs.part_degrees.own_degree.Goals as goal

pub returns-then-eq : goal.returns-then-eq
returns-then-eq c =
    let test = rw c.as_str.ensures at c.if-eq.ensures in
    ap (λ b. cond b (Some Singleton) None) test ∙ sym (ap (λ own. element_degree own c.args.name.now) c.in-Some.is)

pub returns-else-eq : goal.returns-else-eq
returns-else-eq c =
    let test = rw c.as_str.ensures at c.if-eq.ensures in
    ap (λ b. cond b (Some Singleton) None) test ∙ sym (ap (λ own. element_degree own c.args.name.now) c.in-Some.is)
