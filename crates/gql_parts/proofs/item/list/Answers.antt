use Rattle.std.proofs.Common.{◌∷◌, ◌++◌, [], sym, ap, subst, ◌∙◌, arith}
use Rattle.gql_front.specs.Gives.{Fails}
use Rattle.gql_parts.proofs.ListLoops.{SoFar, list_begins, list_goes_on, list_ends, list_leaves}
use Rattle.gql_parts.proofs.item.list.Goals as goal

pub more-init : goal.more-init
more-init g c =
    let reader = g.T.Item.reader in
    let start = c.args.start.now in
    let x = c.in_ok-first.first in
    let rest = c.in_ok-first.rest.now in
    record {
      so_far = subst (λ z. SoFar reader start z rest) (sym (c.in_ok-push.ensures.ok ∙ ap (λ z. z ++ x ∷ []) c.new-items.ensures)) (list_begins reader start x rest c.in_ok-first.ensures.given);
      within = c.in_ok-first.ensures.shorter;
    }

pub more-preserved : goal.more-preserved
more-preserved g c =
    let reader = g.T.Item.reader in
    let start = c.args.start.now in
    let x = c.in-Ok-read.item in
    let rest = c.in-Ok-read.behind.now in
    record {
      so_far = subst (λ z. SoFar reader start z rest) (sym c.in_ok-push-in-Ok-read.ensures.ok)
          (list_goes_on reader start c.more.items c.more.rest.now c.in-Ok.behind.now x rest c.more.invariant.so_far c.in-Ok.ensures.given c.in-Ok-read.ensures.given
          (omega (arith, c.in-Ok-read.ensures.shorter, c.in-Ok.ensures.shorter)));
      within = omega (arith, c.in-Ok-read.ensures.shorter, c.in-Ok.ensures.shorter, c.more.invariant.within);
    }

pub returns-in-Err-Syntax : goal.returns-in-Err-Syntax
returns-in-Err-Syntax g c =
    let reader = g.T.Item.reader in
    record {
      given = list_leaves reader c.args.start.now c.more.items c.more.rest.now c.in-Ok.behind.now c.more.invariant.so_far c.in-Ok.ensures.given
          (subst (λ e. Fails e (reader c.in-Ok.behind.now)) c.in-Err-Syntax.field-0-is c.in-Err-Syntax.ensures.given);
      shorter = c.more.invariant.within;
    }

pub returns : goal.returns
returns g c = record {
  given = list_ends g.T.Item.reader c.args.start.now c.more.items c.more.rest.now c.more.invariant.so_far c.in_default.ensures.given;
  shorter = c.more.invariant.within;
}
