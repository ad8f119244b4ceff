use Rattle.std.proofs.Common.{◌<◌, ◌++◌, ◌+◌, map, drop, length, ap, sym, ◌∙◌, arith}
use Rattle.gql_norm.specs.NormalData.{part_data, path_data}
use Rattle.gql_norm.specs.declared.path.NormalPath.{NormalPath}
use Rattle.gql_norm.specs.Machinery.ColumnGrowth.{declared_in}
use Rattle.gql_degrees.specs.Machinery.KindWalk.{declared_in_all_paths}
use Rattle.gql_degrees.proofs.DeclaredLemmas.{path_more}
use Rattle.gql_degrees.proofs.declared.declared_in_paths.Goals as goal

pub loop-i-preserved : goal.loop-i-preserved
loop-i-preserved c =
    let paths = c.args.paths.now in
    let below : c.loop-i.i < length paths = omega arith in
    ap (λ names. names ++ declared_in_all_paths (map path_data (drop (c.loop-i.i + 1) paths))) (c.in_ok-add_declared.ensures ∙ ap (λ (z : NormalPath). c.loop-i.names ++ declared_in (part_data z.body)) (sym c.index-paths-i.is))
    ∙ path_more c.loop-i.names paths c.loop-i.i c.index-paths-i.result below c.index-paths-i.is
    ∙ c.loop-i.invariant
