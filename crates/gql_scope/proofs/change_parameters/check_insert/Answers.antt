use Rattle.std.proofs.Common.{refl}
use Rattle.gql_ast.specs.InsertColumns.{insert_spots}
use Rattle.gql_scope.specs.declared.insert_maps.MapQuestion.TheVariants as question
use Rattle.gql_scope.proofs.MapLemmas.{gives_same, unset_is_first}
use Rattle.gql_scope.proofs.change_parameters.check_insert.Goals as goal

pub returns : goal.returns
returns c = gives_same _ _ _ c.check_maps.ensures (unset_is_first (question.Parameter c.args.params) c.args.params.now (insert_spots c.args.paths.now) (λ m. refl))
