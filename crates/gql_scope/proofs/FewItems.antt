-- A map of fewer than two items names no property twice.
use Rattle.std.proofs.Common.{◌≡◌, ℕ, ◌<◌, List, [], ◌∷◌, length, Some, None, refl, arith}
use Rattle.gql_ast.specs.declared.filler.MapItem.{MapItem}
use Rattle.gql_scope.specs.declared.insert_maps.MapQuestion.TheVariants as map_question
use Rattle.gql_scope.specs.Machinery.Questions.{map_refusal}

pub none_twice : (items : List MapItem) → length items < 2 → map_refusal map_question.Repeated (Some items) ≡ None
none_twice [] h = refl
none_twice (i ∷ []) h = refl
none_twice (i ∷ j ∷ is) h = absurd (omega arith)
