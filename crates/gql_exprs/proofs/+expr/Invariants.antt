use Rattle.std.proofs.Common.{◌≡◌, Some, ◌+◌, ◌*◌, ◌<◌, ◌≤◌, length}
use Rattle.gql_front.proofs.Loops.{with_front}
use Rattle.gql_exprs.proofs.ExprLoops.{above, steps_from, others_from, list_from}
use Rattle.gql_exprs.proofs.+expr.Given as goal

abbrev pub decreases-levels::expression : goal.decreases-levels::expression
decreases-levels::expression l = 30 * length l.rest.now + 14

abbrev pub decreases-levels::chain : goal.decreases-levels::chain
decreases-levels::chain l = 30 * length l.rest.now + above l.kind + 1

abbrev pub decreases-levels::side : goal.decreases-levels::side
decreases-levels::side l = 30 * length l.rest.now + above l.kind

abbrev pub decreases-levels::steps : goal.decreases-levels::steps
decreases-levels::steps l = 30 * length l.start.now

abbrev pub decreases-levels::negation : goal.decreases-levels::negation
decreases-levels::negation l = 30 * length l.rest.now + 9

abbrev pub decreases-levels::test : goal.decreases-levels::test
decreases-levels::test l = 30 * length l.rest.now + 8

abbrev pub decreases-levels::comparison : goal.decreases-levels::comparison
decreases-levels::comparison l = 30 * length l.rest.now + 7

abbrev pub decreases-levels::second_side : goal.decreases-levels::second_side
decreases-levels::second_side l = 30 * length l.rest.now

abbrev pub decreases-levels::signed : goal.decreases-levels::signed
decreases-levels::signed l = 30 * length l.rest.now + 2

abbrev pub decreases-levels::atom : goal.decreases-levels::atom
decreases-levels::atom l = 30 * length l.rest.now + 1

abbrev pub decreases-levels::word_atom : goal.decreases-levels::word_atom
decreases-levels::word_atom l = 30 * length l.rest.now + 18

abbrev pub decreases-brackets::closed : goal.decreases-brackets::closed
decreases-brackets::closed l = 30 * length l.rest.now + 15

abbrev pub decreases-brackets::paren : goal.decreases-brackets::paren
decreases-brackets::paren l = 30 * length l.rest.now + 16

abbrev pub decreases-brackets::list : goal.decreases-brackets::list
decreases-brackets::list l = 30 * length l.start.now + 15

abbrev pub decreases-brackets::listing : goal.decreases-brackets::listing
decreases-brackets::listing l = 30 * length l.rest.now + 16

abbrev pub decreases-brackets::word_listing : goal.decreases-brackets::word_listing
decreases-brackets::word_listing l = 30 * length l.rest.now + 17

abbrev pub decreases-brackets::aggregate : goal.decreases-brackets::aggregate
decreases-brackets::aggregate l = 30 * length l.rest.now

abbrev pub decreases-brackets::call : goal.decreases-brackets::call
decreases-brackets::call l = 30 * length l.rest.now

abbrev pub decreases-brackets::expr_before_comma : goal.decreases-brackets::expr_before_comma
decreases-brackets::expr_before_comma l = 30 * length l.rest.now

abbrev pub decreases-brackets::modulo : goal.decreases-brackets::modulo
decreases-brackets::modulo l = 30 * length l.rest.now + 1

abbrev pub decreases-brackets::coalesce : goal.decreases-brackets::coalesce
decreases-brackets::coalesce l = 30 * length l.rest.now + 1

-- the sides read so far, and those still to be read, are the sides of the whole
abbrev pub invariant-levels::steps-more : goal.invariant-levels::steps-more
invariant-levels::steps-more l = record {
  so_far : with_front l.steps (steps_from l.kind l.rest) ≡ steps_from l.kind l.start;
  within : length l.rest ≤ length l.start;
}

abbrev pub decreases-levels::steps-more : goal.decreases-levels::steps-more
decreases-levels::steps-more l = length l.rest

-- the same of the items of a list
abbrev pub invariant-brackets::list-more : goal.invariant-brackets::list-more
invariant-brackets::list-more l = record {
  so_far : list_from l.start ≡ Some (with_front l.exprs (others_from l.rest));
  within : length l.rest < length l.start;
}

abbrev pub decreases-brackets::list-more : goal.decreases-brackets::list-more
decreases-brackets::list-more l = length l.rest
