use Rattle.std.proofs.Common.{refl}
use Rattle.gql_ast.specs.InsertColumns.{insert_spots}
use Rattle.gql_scope.specs.declared.insert_maps.MapQuestion.TheVariants as question
use Rattle.gql_scope.proofs.MapLemmas.{gives_same, misuse_is_first}
use Rattle.gql_scope.proofs.change_misuses.check_insert.Goals as goal

pub returns : goal.returns
returns c = gives_same _ _ _ c.check_maps.ensures (misuse_is_first (question.Misuse c.args.scope) c.args.scope.now (insert_spots c.args.paths.now) (λ m. refl))
