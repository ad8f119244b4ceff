use Rattle.std.proofs.Common.{[], ◌∷◌, length, length-append, sym, ap, subst, arith}
use Rattle.gql_front.specs.Gives.{Fails}
use Rattle.gql_front.specs.Reading.{many}
use Rattle.gql_parts.proofs.ManyLoops.{StepsSoFar, steps_begin, steps_go_on, steps_end}
use Rattle.gql_parts.proofs.repeated.many.Goals as goal

pub more-init : goal.more-init
more-init g c =
    let reader = g.T.Item.reader in
    let start = c.args.start.now in
    record {
      so_far = subst (λ z. StepsSoFar reader (many reader (length start) start) z start) (sym c.new-items.ensures) (steps_begin reader [] start);
      within = omega (arith, ap length c.new-items.ensures);
    }

pub more-preserved : goal.more-preserved
more-preserved g c =
    let reader = g.T.Item.reader in
    let start = c.args.start.now in
    let rest = c.in-Ok.behind.now in
    record {
      so_far = subst (λ z. StepsSoFar reader (many reader (length start) start) z rest) (sym c.in_ok-push-in-Ok.ensures.ok)
          (steps_go_on reader (many reader (length start) start) c.more.items c.more.rest.now c.in-Ok.item rest c.more.invariant.so_far c.in-Ok.ensures.given c.in-Ok.ensures.shorter);
      within = omega (arith, ap length c.in_ok-push-in-Ok.ensures.ok, length-append c.more.items (c.in-Ok.item ∷ []), c.in-Ok.ensures.shorter, c.more.invariant.within);
    }

pub returns-in-Err-Syntax-clause-given : goal.returns-in-Err-Syntax-clause-given
returns-in-Err-Syntax-clause-given g c =
    let reader = g.T.Item.reader in
    let start = c.args.start.now in
    steps_end reader (many reader (length start) start) c.more.items c.more.rest.now c.more.invariant.so_far
    (subst (λ e. Fails e (reader c.more.rest.now)) c.in-Err-Syntax.field-0-is c.in-Err-Syntax.ensures.given)
