-- Lists of constants: what they are in every row, and that they name nothing.
use Rattle.std.proofs.Common.{◌≡◌, ℕ, List, [], ◌∷◌, ◌++◌, Option, Some, None, Result, Ok, Err, refl, ap, sym, ◌∙◌, append_assoc}
use Rattle.std.specs.Prelude.{option_map}
use Rattle.gql_values3.specs.Datum.{Datum}
use Rattle.gql_values3.specs.PropertyGraph.{PropertyGraph}
use Rattle.gql_ast.specs.declared.fault.DataFault.{DataFault}
use Rattle.gql_ast.specs.Faults.{◌>>=◌}
use Rattle.gql_ast.specs.Operators.{made_list}
use Rattle.gql_ast.specs.Scope.{Scope, names_in, names_in_trees}
use Rattle.gql_ast.specs.Tree.{Tree, Trees, constant, unknown, number, parameter, no_trees, more_trees}
use Rattle.gql_ast.specs.Evaluation.{value_of, values_of}
use Rattle.gql_eval.specs.Machinery.Compiled.{constant_of, constants_of, constant_list, both_known, where_made, list_of_known}

-- those that are known, and then the rest
abbrev pub known_behind : List Datum → Option (List Datum) → Option (List Datum)
known_behind front o = option_map (λ ds. front ++ ds) o

pub known_none : (o : Option (List Datum)) → known_behind [] o ≡ o
known_none None = refl
known_none (Some ds) = refl

-- one more, or one that is not known
pub known_more : (front : List Datum) (o : Option Datum) (d : Datum) (rest : Option (List Datum)) → Some d ≡ o → known_behind (front ++ d ∷ []) rest ≡ known_behind front (both_known o rest)
known_more front None d rest p = absurd (cc)
known_more front (Some x) d None p = refl
known_more front (Some x) d (Some ds) p = let same : d ≡ x = cc in ap Some (append_assoc front (d ∷ []) ds) ∙ ap (λ y. Some (front ++ y ∷ ds)) same

pub known_not : (front : List Datum) (o : Option Datum) (rest : Option (List Datum)) → None ≡ o → None ≡ known_behind front (both_known o rest)
known_not front None rest p = refl
known_not front (Some x) rest p = absurd (cc)

-- both are known where the list is
both_is : (o : Option Datum) (os : Option (List Datum)) (ds : List Datum) → both_known o os ≡ Some ds → (d : Datum) × (rest : List Datum) × (o ≡ Some d) × (os ≡ Some rest) × (ds ≡ d ∷ rest)
both_is None os ds p = absurd (cc)
both_is (Some d) None ds p = absurd (cc)
both_is (Some d) (Some rest) ds p = (d, rest, refl, refl, cc)

made_is : (r : Result Datum DataFault) (l : Datum) → where_made r ≡ Some l → r ≡ Ok l
made_is (Ok d) l p = cc
made_is (Err e) l p = absurd (cc)

known_is : (o : Option (List Datum)) (l : Datum) → list_of_known o ≡ Some l → (ds : List Datum) × (o ≡ Some ds) × (made_list ds ≡ Ok l)
known_is None l p = absurd (cc)
known_is (Some ds) l p = (ds, refl, made_is (made_list ds) l p)

module _ (g : PropertyGraph) (params : List (List ℕ × Datum)) (scope : Scope) where
  constant_value : (e : Tree) (d : Datum) → constant_of params e ≡ Some d → value_of g params scope e ≡ Ok d
  unfolding value_of
  constant_value (constant c) d p = cc
  constant_value unknown d p = cc
  constant_value (number n) d p = cc
  constant_value (parameter x) d p = cc
  constant_value _ d p = absurd (cc)

  constants_value : (es : Trees) (ds : List Datum) → constants_of params es ≡ Some ds → values_of g params scope es ≡ Ok ds
  unfolding value_of
  constants_value no_trees ds p = cc
  constants_value (more_trees e es) ds p =
      let both = both_is (constant_of params e) (constants_of params es) ds p in
      ap (λ r. r >>= λ d. values_of g params scope es >>= λ rest. Ok (d ∷ rest)) (constant_value e both.0 both.2)
      ∙ ap (λ r. r >>= λ rest. Ok (both.0 ∷ rest)) (constants_value es both.1 both.3)
      ∙ ap Ok (sym both.4)

  -- a list that is known is what it is in every row
  pub constant_list_value : (es : Trees) (l : Datum) → constant_list params es ≡ Some l → (values_of g params scope es >>= made_list) ≡ Ok l
  constant_list_value es l p =
      let known = known_is (constants_of params es) l p in
      ap (λ r. r >>= made_list) (constants_value es known.0 known.1) ∙ known.2

constant_names : (params : List (List ℕ × Datum)) (e : Tree) (d : Datum) → constant_of params e ≡ Some d → names_in e ≡ []
constant_names params (constant c) d p = refl
constant_names params unknown d p = refl
constant_names params (number n) d p = refl
constant_names params (parameter x) d p = refl
constant_names params _ d p = absurd (cc)

constants_names : (params : List (List ℕ × Datum)) (es : Trees) (ds : List Datum) → constants_of params es ≡ Some ds → names_in_trees es ≡ []
constants_names params no_trees ds p = refl
constants_names params (more_trees e es) ds p =
    let both = both_is (constant_of params e) (constants_of params es) ds p in
    ap (λ ns. ns ++ names_in_trees es) (constant_names params e both.0 both.2) ∙ constants_names params es both.1 both.3

pub constant_list_names : (params : List (List ℕ × Datum)) (es : Trees) (l : Datum) → constant_list params es ≡ Some l → names_in_trees es ≡ []
constant_list_names params es l p = let known = known_is (constants_of params es) l p in constants_names params es known.0 known.1
