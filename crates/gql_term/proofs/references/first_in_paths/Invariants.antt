use Rattle.std.proofs.Common.{◌≡◌, map, drop}
use Rattle.gql_norm.specs.NormalData.{path_data}
use Rattle.gql_term.specs.Machinery.OpenReferences.{first_barred_path}
use Rattle.gql_term.proofs.references.first_in_paths.Given as goal

abbrev pub invariant-loop-i : goal.invariant-loop-i
invariant-loop-i l = first_barred_path (map path_data (drop l.i l.paths)) ≡ first_barred_path (map path_data l.paths)
