use Rattle.std.proofs.Common.{sym}
use Rattle.std.specs.Cmp.Lexicographic.{unequal}
use Rattle.gql_values3.specs.Texts.{same_text}
use Rattle.gql_txn.proofs.same.same_texts.Goals as goal

pub returns-then-some-others : goal.returns-then-some-others
returns-then-some-others c = sym (unequal same_text c.args.some.now c.args.others.now c.if-some-others.true)
