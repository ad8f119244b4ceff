use Rattle.std.proofs.Common.{◌≡◌, ◌++◌, length, Ok}
use Rattle.std.specs.Vec.Iter.{into_iter_items, into_iter_len}
use Rattle.gql_change.specs.Insertion.{◌>>>◌}
use Rattle.gql_change.specs.Machinery.InsertByPlaces.{insert_lines}
use Rattle.gql_change.proofs.making.make_lines.Given as goal

abbrev pub invariant-loop-line : goal.invariant-loop-line
invariant-loop-line l = record {
  whole : (insert_lines l.paths (into_iter_items l.line-iterator) l.state >>> λ rest. Ok (rest.0, l.rows ++ rest.1)) ≡ insert_lines l.paths l.fn.lines l.fn.state;
  counted : into_iter_len l.line-iterator ≡ length (into_iter_items l.line-iterator);
}
