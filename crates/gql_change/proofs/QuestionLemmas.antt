-- The questions of paths, one after another.
use Rattle.std.proofs.Common.{◌≡◌, List, [], ◌∷◌, ◌++◌, refl, sym, ap, ◌∙◌, append_assoc}
use Rattle.gql_ast.specs.ClauseColumns.{ColumnList}
use Rattle.gql_ast.specs.InsertColumns.{Spots, insert_spots, path_spots, spot_columns, with_variable}
use Rattle.gql_ast.specs.declared.change.InsertPath.{InsertPath}
use Rattle.gql_change.specs.Insertion.{items_in}
use Rattle.gql_change.specs.Machinery.Roles.{Question, questions, role_of}

questions_append : (cs : ColumnList) (xs ys : Spots) → questions cs (xs ++ ys) ≡ questions cs xs ++ questions (spot_columns cs xs) ys
questions_append cs [] ys = refl
questions_append cs (x ∷ xs) ys = ap (λ (qs : List Question). (role_of cs x.0 x.1.variable, items_in x.1.map) ∷ qs) (questions_append (with_variable cs x.0 x.1.variable) xs ys)

pub path_asked : (done : List Question) (cs : ColumnList) (left : List InsertPath) (p : InsertPath) (rest : List InsertPath) → left ≡ p ∷ rest
    → (done ++ questions cs (path_spots p)) ++ questions (spot_columns cs (path_spots p)) (insert_spots rest) ≡ done ++ questions cs (insert_spots left)
path_asked done cs left p rest h =
    append_assoc done (questions cs (path_spots p)) (questions (spot_columns cs (path_spots p)) (insert_spots rest))
    ∙ ap (λ (qs : List Question). done ++ qs) (sym (questions_append cs (path_spots p) (insert_spots rest)) ∙ ap (λ (ps : List InsertPath). questions cs (insert_spots ps)) (sym h))

-- the questions of a front of the spots, and then of the rest
pub asked_past : (done : List Question) (cs : ColumnList) (front rest all : Spots) → all ≡ front ++ rest
    → (done ++ questions cs front) ++ questions (spot_columns cs front) rest ≡ done ++ questions cs all
asked_past done cs front rest all h =
    append_assoc done (questions cs front) (questions (spot_columns cs front) rest)
    ∙ ap (λ (qs : List Question). done ++ qs) (sym (questions_append cs front rest) ∙ ap (questions cs) (sym h))
