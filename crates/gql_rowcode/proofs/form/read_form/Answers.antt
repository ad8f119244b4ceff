use Rattle.std.proofs.Common.{arith}
use Rattle.gql_rowcode.proofs.FormLemmas.{read_is_spelled}
use Rattle.gql_rowcode.proofs.form.read_form.Goals as goal

-- the code reads what the bytes spell, and a slice has bytes
pub returns-clause-spelled : goal.returns-clause-spelled
returns-clause-spelled c = read_is_spelled c.args.key.now c.args.value.now c.form_by_kind.result (λ i. omega (arith, c.type_inv.key i)) (λ i. omega (arith, c.type_inv.value i)) c.form_by_kind.ensures
