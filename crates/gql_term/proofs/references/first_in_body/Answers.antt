use Rattle.std.proofs.Common.{sym, ◌∙◌}
use Rattle.gql_norm.specs.NormalData.{part_data}
use Rattle.gql_term.proofs.NoReferenceLemmas.{no_reference}
use Rattle.gql_term.proofs.references.first_in_body.Goals as goal

pub returns-else-has_open : goal.returns-else-has_open
returns-else-has_open c = no_reference (part_data c.args.body.now) (sym c.if-has_open.false ∙ c.has_open.ensures)
