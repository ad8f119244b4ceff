-- LET, item by item.
use Rattle.std.proofs.Common.{◌≡◌, ℕ, ◌+◌, ◌≤◌, List, [], ◌∷◌, ◌++◌, length, take, refl, sym, ap, ◌∙◌, arith, length-append, length-take, append-nil, append_assoc}
use Rattle.gql_ast.specs.declared.clause.LetItem.{LetItem}
use Rattle.gql_ast.specs.Meaning.{tree_of}
use Rattle.gql_ast.specs.Outputs.{kind_of}
use Rattle.gql_ast.specs.ClauseColumns.{ColumnList, let_columns}

-- the columns with that of one item
abbrev pub grown : ColumnList → LetItem → ColumnList
grown columns i = columns ++ (i.name, kind_of columns (tree_of i.value)) ∷ []

pub let_length : (columns : ColumnList) (items : List LetItem) → length (let_columns columns items) ≡ length columns + length items
let_length columns [] = omega arith
let_length columns (i ∷ is) = omega (arith, let_length (grown columns i) is, length-append columns ((i.name, kind_of columns (tree_of i.value)) ∷ []))

take_all : {A : Type 0} (xs ys : List A) → take (length xs) (xs ++ ys) ≡ xs
take_all [] [] = refl
take_all [] (y ∷ ys) = refl
take_all (x ∷ xs) ys = ap (λ zs. x ∷ zs) (take_all xs ys)

-- the columns before stand in front
let_front : (columns : ColumnList) (items : List LetItem) → (more : ColumnList) × (let_columns columns items ≡ columns ++ more)
let_front columns [] = ([], sym (append-nil columns))
let_front columns (i ∷ is) =
    let rest = let_front (grown columns i) is in
    ((i.name, kind_of columns (tree_of i.value)) ∷ rest.0, rest.1 ∙ append_assoc columns ((i.name, kind_of columns (tree_of i.value)) ∷ []) rest.0)

pub let_before : (columns : ColumnList) (items : List LetItem) → take (length columns) (let_columns columns items) ≡ columns
let_before columns items = let front = let_front columns items in ap (take (length columns)) front.1 ∙ take_all columns front.0

-- one column more
pub let_next : (all : ColumnList) (k : ℕ) (i : LetItem) (left is : List LetItem) → k ≤ length all → left ≡ i ∷ is → let_columns (take k all) left ≡ all
    → take (k + 1) all ≡ grown (take k all) i
let_next all k i left is h p q =
    let whole : let_columns (grown (take k all) i) is ≡ all = sym (ap (let_columns (take k all)) p) ∙ q in
    let long : length (grown (take k all) i) ≡ k + 1 = omega (arith, length-append (take k all) ((i.name, kind_of (take k all) (tree_of i.value)) ∷ []), length-take k all) in
    ap (λ n. take n all) (sym long) ∙ ap (take (length (grown (take k all) i))) (sym whole) ∙ let_before (grown (take k all) i) is
