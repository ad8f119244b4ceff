use Rattle.std.proofs.Common.{length, ap, arith}
use Rattle.gql_machine.proofs.LengthLemmas.{lexemes-few}
use Rattle.gql_machine.proofs.reading.read_piece.Goals as goal

pub read_lexemes-requires : goal.read_lexemes-requires
read_lexemes-requires c = omega (arith, c.requires, lexemes-few c.args.piece.now c.in-Ok.found c.in-Ok.ensures, ap length c.as_slice.ensures)
