use Rattle.std.proofs.Common.{◌≡◌, ◌+◌, ◌*◌, map, take, fold}
use Rattle.std.specs.List.{flat_map}
use Rattle.gql_values3.specs.Meaning.{datum_of}
use Rattle.gql_values3.specs.Nesting.{depth, depth_all}
use Rattle.gql_table.specs.Machinery.RowKeys.{hashed}
use Rattle.gql_table.proofs.row_key.+hashing.Given as goal

abbrev pub decreases-hash_value : goal.decreases-hash_value
decreases-hash_value g l = 2 * depth (datum_of l.value.now) + 1

abbrev pub decreases-hash_values : goal.decreases-hash_values
decreases-hash_values g l = 2 * depth_all (map datum_of l.values.now) + 2

abbrev pub invariant-hash_values-loop-value : goal.invariant-hash_values-loop-value
invariant-hash_values-loop-value g l = l.state ≡ fold g.H.Hasher.write l.initial.state (flat_map (λ v. hashed (datum_of v)) (take l.value-index l.values))
