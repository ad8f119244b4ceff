use Rattle.std.proofs.Common.{sym}
use Rattle.gql_txn.proofs.SoundLemmas.{type_passes}
use Rattle.gql_txn.proofs.misfit.misfit_in.Goals as goal

pub fits-requires : goal.fits-requires
fits-requires c = type_passes c.args.catalog.now c.args.name.now c.in-Some.kind.now c.requires (sym c.in-Some.ensures)
