-- Which names are columns and which are groups, in two lists, and among what a pattern names.
use Rattle.std.proofs.Common.{◌≡◌, ℕ, Bool, true, false, ◌||◌, ◌&&◌, cond, List, [], ◌∷◌, ◌++◌, map, Option, Some, None, is_some, refl, sym, ap, ◌∙◌, true≢false, append_assoc}
use Rattle.std.specs.Prelude.{find, option_map, unwrap_or, if◌then◌else◌}
use Rattle.std.specs.List.{list_any}
use Rattle.std.specs.Option.{option_or}
use Rattle.std.proofs.lemmas.List.Folds.{find-append, list_any-append}
use Rattle.std.proofs.lemmas.Slice.Eq.{bytes_eq-Decides}
use Rattle.gql_values3.specs.Texts.{same_text}
use Rattle.gql_values3.specs.declared.table.ColumnKind.{ColumnKind}
use Rattle.gql_values3.specs.declared.table.ColumnKind.TheVariants as kind
use Rattle.gql_ast.specs.ClauseColumns.{ColumnList, is_column}
use Rattle.gql_ast.specs.Outputs.{kind_of_name}
use Rattle.gql_ast.specs.Scope.{holds_group}
use Rattle.gql_expr_checks.specs.ExprMisuses.{is_group_column}
use Rattle.gql_expr_checks.specs.Machinery.Knowing.{first_kind}
use Rattle.gql_expr_checks.specs.Repeated.{is_among}
use Rattle.gql_expr_checks.proofs.KnowingLemmas.{is_some-first_kind}
use Rattle.gql_pattern_checks.specs.Machinery.Scopes.{known_columns, path_column, variable_column}
use Rattle.gql_pattern_checks.specs.declared.scope.Names.{Names}

pub column_of_two : (xs ys : ColumnList) (x : List ℕ) → is_column (xs ++ ys) x ≡ (is_column xs x || is_column ys x)
column_of_two xs ys x = list_any-append (λ (c : List ℕ × ColumnKind). same_text x c.0) xs ys

abbrev found : ColumnList → List ℕ → Option (List ℕ × ColumnKind)
found columns x = find (λ (c : List ℕ × ColumnKind). same_text x c.0) columns

abbrev is_found_group : Option (List ℕ × ColumnKind) → Bool
is_found_group o = holds_group (unwrap_or (option_map (λ (c : List ℕ × ColumnKind). c.1) o) kind.Plain)

-- of two lists, the first that has the name decides
pub group_of_two : (xs ys : ColumnList) (x : List ℕ) → is_group_column (xs ++ ys) x ≡ (if is_column xs x then is_group_column xs x else is_group_column ys x)
group_of_two xs ys x =
    ap is_found_group (find-append (λ (c : List ℕ × ColumnKind). same_text x c.0) xs ys)
    ∙ by (found xs x) ∙ ap (λ b. if b then is_group_column xs x else is_group_column ys x) (known (found xs x) ∙ is_some-first_kind xs x)
  where
    by : (o : Option (List ℕ × ColumnKind)) → is_found_group (option_or o (found ys x)) ≡ (if is_some o then is_found_group o else is_group_column ys x)
    by None = refl
    by (Some c) = refl

    known : (o : Option (List ℕ × ColumnKind)) → is_some o ≡ is_some (option_map (λ (c : List ℕ × ColumnKind). c.1) o)
    known None = refl
    known (Some c) = refl

pub path_is_column : (ps : List (List ℕ)) (x : List ℕ) → is_column (map path_column ps) x ≡ is_among ps x
path_is_column [] x = refl
path_is_column (p ∷ ps) x = ap (λ b. same_text x p || b) (path_is_column ps x)

pub variable_is_column : (groups vs : List (List ℕ)) (x : List ℕ) → is_column (map (variable_column groups) vs) x ≡ is_among vs x
variable_is_column groups [] x = refl
variable_is_column groups (v ∷ vs) x = ap (λ b. same_text x v || b) (variable_is_column groups vs x)

pub path_is_no_group : (ps : List (List ℕ)) (x : List ℕ) → is_group_column (map path_column ps) x ≡ false
path_is_no_group [] x = refl
path_is_no_group (p ∷ ps) x = by (same_text x p) (path_is_no_group ps x)
  where
    by : (b : Bool) → is_group_column (map path_column ps) x ≡ false → is_found_group (cond b (Some (p, kind.Path)) (found (map path_column ps) x)) ≡ false
    by true h = refl
    by false h = h

group_kind : (b : Bool) → holds_group (if b then kind.Nodes else kind.Node) ≡ b
group_kind true = refl
group_kind false = refl

pub variable_is_group : (groups vs : List (List ℕ)) (x : List ℕ) → is_group_column (map (variable_column groups) vs) x ≡ (is_among vs x && is_among groups x)
variable_is_group groups [] x = refl
variable_is_group groups (v ∷ vs) x = by (same_text x v) refl (variable_is_group groups vs x)
  where
    by : (b : Bool) → same_text x v ≡ b → is_group_column (map (variable_column groups) vs) x ≡ (is_among vs x && is_among groups x)
        → is_found_group (cond b (Some (variable_column groups v)) (found (map (variable_column groups) vs) x)) ≡ ((b || is_among vs x) && is_among groups x)
    by true p h = group_kind (is_among groups v) ∙ ap (is_among groups) (sym ((bytes_eq-Decides x v).0 p))
    by false p h = h

-- so it is among all that may be named
pub known_is_column : (columns : ColumnList) (s : Names) (x : List ℕ) → is_column (known_columns columns s) x ≡ ((is_column columns x || is_among s.paths x) || is_among s.variables x)
known_is_column columns s x =
    column_of_two (columns ++ map path_column s.paths) (map (variable_column s.groups) s.variables) x
    ∙ (λ i. (column_of_two columns (map path_column s.paths) x ∙ ap (λ b. is_column columns x || b) (path_is_column s.paths x)) i || variable_is_column s.groups s.variables x i)

abbrev pub group_by : Bool → Bool → Bool → Bool → Bool
group_by in_columns column path variable = if in_columns || path then (if in_columns then column else false) else variable

pub known_is_group : (columns : ColumnList) (s : Names) (x : List ℕ)
    → is_group_column (known_columns columns s) x ≡ group_by (is_column columns x) (is_group_column columns x) (is_among s.paths x) (is_among s.variables x && is_among s.groups x)
known_is_group columns s x =
    group_of_two (columns ++ map path_column s.paths) (map (variable_column s.groups) s.variables) x
    ∙ (λ i. if (column_of_two columns (map path_column s.paths) x ∙ ap (λ b. is_column columns x || b) (path_is_column s.paths x)) i
    then (group_of_two columns (map path_column s.paths) x ∙ ap (λ b. if is_column columns x then is_group_column columns x else b) (path_is_no_group s.paths x)) i
    else variable_is_group s.groups s.variables x i)

-- what a name is, of two lists and among what may be named
kind_of_either : (o p : Option (List ℕ × ColumnKind)) → option_map (λ (d : List ℕ × ColumnKind). d.1) (option_or o p)
    ≡ option_or (option_map (λ (d : List ℕ × ColumnKind). d.1) o) (option_map (λ (d : List ℕ × ColumnKind). d.1) p)
kind_of_either None p = refl
kind_of_either (Some d) p = refl

pub first_kind_two : (xs ys : ColumnList) (x : List ℕ) → first_kind (xs ++ ys) x ≡ option_or (first_kind xs x) (first_kind ys x)
first_kind_two xs ys x =
    ap (option_map (λ (c : List ℕ × ColumnKind). c.1)) (find-append (λ (c : List ℕ × ColumnKind). same_text x c.0) xs ys)
    ∙ kind_of_either (found xs x) (found ys x)

path_kind : (ps : List (List ℕ)) (x : List ℕ) → first_kind (map path_column ps) x ≡ cond (is_among ps x) (Some kind.Path) None
path_kind [] x = refl
path_kind (p ∷ ps) x = by (same_text x p) (path_kind ps x)
  where
    by : (b : Bool) → first_kind (map path_column ps) x ≡ cond (is_among ps x) (Some kind.Path) None
        → option_map (λ (d : List ℕ × ColumnKind). d.1) (cond b (Some (p, kind.Path)) (found (map path_column ps) x)) ≡ cond (b || is_among ps x) (Some kind.Path) None
    by true h = refl
    by false h = h

variable_kind : (groups vs : List (List ℕ)) (x : List ℕ) → first_kind (map (variable_column groups) vs) x ≡ cond (is_among vs x) (Some (variable_column groups x).1) None
variable_kind groups [] x = refl
variable_kind groups (v ∷ vs) x = by (same_text x v) refl (variable_kind groups vs x)
  where
    by : (b : Bool) → same_text x v ≡ b → first_kind (map (variable_column groups) vs) x ≡ cond (is_among vs x) (Some (variable_column groups x).1) None
        → option_map (λ (d : List ℕ × ColumnKind). d.1) (cond b (Some (variable_column groups v)) (found (map (variable_column groups) vs) x)) ≡ cond (b || is_among vs x) (Some (variable_column groups x).1) None
    by true p h = ap (λ y. Some (variable_column groups y).1) (sym ((bytes_eq-Decides x v).0 p))
    by false p h = h

-- of the names beside the columns, by whether it is a path name and a variable
pub own_kind : (s : Names) (x : List ℕ) (path variable : Bool) → is_among s.paths x ≡ path → is_among s.variables x ≡ variable
    → option_or (cond path (Some kind.Path) None) (cond variable (Some (variable_column s.groups x).1) None) ≡ first_kind (map path_column s.paths ++ map (variable_column s.groups) s.variables) x
own_kind s x path variable h k =
    sym (first_kind_two (map path_column s.paths) (map (variable_column s.groups) s.variables) x
    ∙ (λ i. option_or ((path_kind s.paths x ∙ ap (λ b. cond b (Some kind.Path) None) h) i)
    ((variable_kind s.groups s.variables x ∙ ap (λ b. cond b (Some (variable_column s.groups x).1) None) k) i)))

some_kind : (o : Option ColumnKind) → is_some o ≡ true → Some (unwrap_or o kind.Plain) ≡ o
some_kind None h = absurd (true≢false (sym h))
some_kind (Some k) h = refl

no_kind : (o p : Option ColumnKind) → is_some o ≡ false → p ≡ option_or o p
no_kind None p h = refl
no_kind (Some k) p h = absurd (true≢false h)

some_first : (o p : Option ColumnKind) → is_some o ≡ true → o ≡ option_or o p
some_first None p h = absurd (true≢false (sym h))
some_first (Some k) p h = refl

-- and of all, by whether it is a column
known_two : (columns : ColumnList) (s : Names) (x : List ℕ)
    → option_or (first_kind columns x) (first_kind (map path_column s.paths ++ map (variable_column s.groups) s.variables) x) ≡ first_kind (known_columns columns s) x
known_two columns s x =
    sym (ap (λ cs. first_kind cs x) (append_assoc columns (map path_column s.paths) (map (variable_column s.groups) s.variables))
    ∙ first_kind_two columns (map path_column s.paths ++ map (variable_column s.groups) s.variables) x)

pub kind_of_column : (columns : ColumnList) (s : Names) (x : List ℕ) → is_column columns x ≡ true → Some (kind_of_name columns x) ≡ first_kind (known_columns columns s) x
kind_of_column columns s x h =
    let there = is_some-first_kind columns x ∙ h in
    some_kind (first_kind columns x) there
    ∙ some_first (first_kind columns x) (first_kind (map path_column s.paths ++ map (variable_column s.groups) s.variables) x) there
    ∙ known_two columns s x

pub kind_of_no_column : (columns : ColumnList) (s : Names) (x : List ℕ) → is_column columns x ≡ false
    → first_kind (map path_column s.paths ++ map (variable_column s.groups) s.variables) x ≡ first_kind (known_columns columns s) x
kind_of_no_column columns s x h =
    no_kind (first_kind columns x) (first_kind (map path_column s.paths ++ map (variable_column s.groups) s.variables) x) (is_some-first_kind columns x ∙ h)
    ∙ known_two columns s x

-- an item that passes two tests passes the first
pub and_any : {A : Type 0} (f g : A → Bool) (xs : List A) → (list_any f xs && list_any (λ x. f x && g x) xs) ≡ list_any (λ x. f x && g x) xs
and_any f g [] = refl
and_any f g (x ∷ xs) = by (f x) (g x) (list_any f xs) (list_any (λ y. f y && g y) xs) (and_any f g xs)
  where
    by : (a b c d : Bool) → (c && d) ≡ d → ((a || c) && ((a && b) || d)) ≡ ((a && b) || d)
    by true b c d h = refl
    by false b c d h = h
