use Rattle.std.proofs.Common.{◌≡◌, drop}
use Rattle.gql_degrees.specs.Machinery.KindWalk.{first_clash, none_before}
use Rattle.gql_degrees.specs.Machinery.SeenData.{seen_data}
use Rattle.gql_degrees.proofs.kinds.first_clash.Given as goal

abbrev pub invariant-loop-i : goal.invariant-loop-i
invariant-loop-i l = first_clash l.columns (seen_data l.seen) (drop l.i l.declared) ≡ first_clash l.columns none_before l.declared
