use Rattle.std.proofs.Common.{◌<◌, length, arith}
use Rattle.std.specs.List.{flat_map}
use Rattle.gql_ast.specs.InsertColumns.{path_spots}
use Rattle.gql_scope.specs.Machinery.Questions.{first_in_maps}
use Rattle.gql_scope.proofs.MapLemmas.{maps_stop, maps_go_on}
use Rattle.gql_expr_checks.proofs.RefusalLemmas.{gives_fault}
use Rattle.gql_scope.proofs.insert_maps.check_maps.Goals as goal

pub returns-in_err-check_path : goal.returns-in_err-check_path
returns-in_err-check_path c =
    let q = c.args.question.now in
    let e = c.in_err-check_path.field-0.0 in
    let below : c.loop-path.path-index < length c.args.paths.now = omega arith in
    let whole = first_in_maps q (flat_map path_spots c.args.paths.now) in
    gives_fault c.from_residual.result e whole c.from_residual.ensures.0 c.from_residual.ensures.1
    (maps_stop q path_spots c.args.paths.now c.loop-path.path-index c.path-item.result whole e below c.path-item.is c.loop-path.invariant c.in_err-check_path.ensures)

pub loop-path-preserved : goal.loop-path-preserved
loop-path-preserved c =
    let q = c.args.question.now in
    let below : c.loop-path.path-index < length c.args.paths.now = omega arith in
    let whole = first_in_maps q (flat_map path_spots c.args.paths.now) in
    maps_go_on q path_spots c.args.paths.now c.loop-path.path-index c.path-item.result whole below c.path-item.is c.loop-path.invariant c.in_ok-check_path.ensures
