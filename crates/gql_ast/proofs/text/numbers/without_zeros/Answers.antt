use Rattle.std.proofs.Common.{◌∙◌, sym}
use Rattle.gql_ast.proofs.NumberLemmas.{boundary, from_first, only_zeros}
use Rattle.gql_ast.proofs.text.numbers.without_zeros.Goals as goal

pub split_at-requires : goal.split_at-requires
split_at-requires c = boundary c.args.digits.now c.in-Some.at c.utf8.digits (sym c.in-Some.ensures)

pub returns-in-Some : goal.returns-in-Some
returns-in-Some c = c.split_at.ensures.back ∙ from_first c.args.digits.now c.in-Some.at (sym c.in-Some.ensures)

pub returns-in-None : goal.returns-in-None
returns-in-None c = only_zeros c.args.digits.now (sym c.in-None.ensures)
