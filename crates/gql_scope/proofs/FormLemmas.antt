-- What is said of a clause, by the normal form of its pattern.
use Rattle.std.proofs.Common.{◌≡◌, List, [], ◌∷◌, map, refl}
use Rattle.gql_ast.specs.declared.clause.Clause.{Clause}
use Rattle.gql_ast.specs.declared.clause.Clause.TheVariants as clause
use Rattle.gql_ast.specs.declared.refusal.Refusal.{Refusal}
use Rattle.gql_expr_checks.specs.Refusals.{refusal_of_first}
use Rattle.gql_norm.specs.NormalPattern.{NormalPattern}
use Rattle.gql_scope.specs.WholePatterns.{by_form}
use Rattle.gql_scope.specs.Machinery.Forms.{form_of, from_form}

pub by_form-from_form : {A : Type 0} (f : NormalPattern → A) (g : Clause → A) (c : Clause) → by_form f g c ≡ from_form f (g c) (form_of c)
by_form-from_form f g (clause.Match m) = refl
by_form-from_form f g (clause.Let is) = refl
by_form-from_form f g (clause.Filter e) = refl
by_form-from_form f g (clause.For x) = refl
by_form-from_form f g (clause.Page p) = refl
by_form-from_form f g (clause.Change x) = refl
by_form-from_form f g (clause.Return r) = refl

-- the first of what is told of a list
pub refusal_of_first-map : {A B : Type 0} (f : B → Refusal) (g : A → B) (xs : List A) → refusal_of_first f (map g xs) ≡ refusal_of_first (λ x. f (g x)) xs
refusal_of_first-map f g [] = refl
refusal_of_first-map f g (x ∷ xs) = refl

pub ruleset by_forms = (by_form-from_form)

pub ruleset first_mapped = (refusal_of_first-map)
