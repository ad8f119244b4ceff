use Rattle.std.proofs.Common.{◌∙◌, sym, ap, Ok}
use Rattle.gql_table.proofs.WidthLemmas.{shown_seen}
use Rattle.gql_table.proofs.ordering.order_table.Goals as goal

pub returns-in_ok-shown_rows-in-None : goal.returns-in_ok-shown_rows-in-None
returns-in_ok-shown_rows-in-None g c = rw c.in-None.is (ap Ok (shown_seen c.args.width c.args.rows ∙ sym c.in_ok-shown_rows-in-None.ensures))
