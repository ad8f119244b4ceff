use Rattle.std.proofs.Common.{sym}
use Rattle.std.specs.Cmp.Lexicographic.{unequal}
use Rattle.gql_txn.specs.Machinery.Same.{same_node}
use Rattle.gql_txn.proofs.same.same_nodes.Goals as goal

pub returns-then-some-others : goal.returns-then-some-others
returns-then-some-others c = sym (unequal same_node c.args.some.now c.args.others.now c.if-some-others.true)
