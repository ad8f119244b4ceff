use Rattle.std.proofs.Common.{◌<◌, ◌++◌, length, arith}
use Rattle.std.specs.List.{flat_map}
use Rattle.gql_ast.specs.InsertColumns.{path_spots}
use Rattle.gql_expr_checks.proofs.RefusalLemmas.{gives_fault}
use Rattle.gql_scope.specs.Machinery.Questions.{first_in_spots, unknown_at}
use Rattle.gql_scope.proofs.SpotLemmas.{spots_stop, stands_further}
use Rattle.gql_scope.proofs.insert_spots.pass_paths.Goals as goal

pub returns-in_err-pass_path-clause-names : goal.returns-in_err-pass_path-clause-names
returns-in_err-pass_path-clause-names c =
    let incoming = c.args.incoming.now in
    let e = c.in_err-pass_path.field-0.0 in
    let below : c.loop-path.path-index < length c.args.paths.now = omega arith in
    let whole = first_in_spots (unknown_at incoming) (incoming ++ c.args.fresh.now) (flat_map path_spots c.args.paths.now) in
    gives_fault c.from_residual.result e whole c.from_residual.ensures.0 c.from_residual.ensures.1
    (spots_stop path_spots c.args.paths.now c.loop-path.path-index c.path-item.result (incoming ++ c.loop-path.fresh) below c.path-item.is (unknown_at incoming) whole e
    c.loop-path.invariant.names c.in_err-pass_path.ensures.names)

pub loop-path-preserved : goal.loop-path-preserved
loop-path-preserved c =
    let below : c.loop-path.path-index < length c.args.paths.now = omega arith in
    stands_further path_spots c.args.paths.now c.loop-path.path-index c.path-item.result c.args.incoming.now c.args.fresh.now c.loop-path.fresh c.pass_path.new.fresh c.args.kinds.now c.loop-path.kinds c.pass_path.new.kinds
    below c.path-item.is c.loop-path.invariant c.in_ok-pass_path.ensures.names c.in_ok-pass_path.ensures.kinds c.in_ok-pass_path.ensures.columns
