use Rattle.std.proofs.Common.{refl}
use Rattle.gql_lexer.specs.Lengths.{may_start}
use Rattle.gql_lexer.proofs.lengths.may_start.Goals as goal

pub returns : goal.returns
unfolding may_start
returns c = rw c.is_xid_start.ensures.value refl
