-- The refusal of a graph type's text, by the first name at fault.
use Rattle.std.proofs.Common.{◌≡◌, ℕ, List, [], ◌∷◌, map, refl}
use Rattle.std.specs.Prelude.{option_map}
use Rattle.gql_ast.specs.declared.refusal.ColumnRef.TheVariants as column
use Rattle.gql_ast.specs.declared.refusal.Refusal.{Refusal}
use Rattle.gql_ast.specs.declared.refusal.Refusal.TheVariants as refusal
use Rattle.gql_expr_checks.specs.Refusals.{refusal_of_first}
use Rattle.gql_type.specs.BodyFaults.{first_name}

pub refused_first : (f : List ℕ → Refusal) (names : List (List ℕ)) → refusal_of_first f names ≡ option_map f (first_name names)
refused_first f [] = refl
refused_first f (x ∷ names) = refl

pub refused_property : (names : List (List ℕ)) → refusal_of_first refusal.Column (map column.Property names) ≡ option_map (λ (x : List ℕ). refusal.Column (column.Property x)) (first_name names)
refused_property [] = refl
refused_property (x ∷ names) = refl
