use Rattle.std.proofs.Common.{arith}
use Rattle.gql_degrees.proofs.DeclaredLemmas.{few_in_one}
use Rattle.gql_degrees.proofs.declared.are_one_element.Goals as goal

pub returns-in-len1 : goal.returns-in-len1
returns-in-len1 c one =
    few_in_one c.args.paths.now c.path-item.result (omega (arith, c.in-len1.len_at_least)) (omega (arith, c.in-len1.len_below)) c.path-item.is (c.is_element.ensures one)
