-- Columns gathered one by one are those of the definition.
use Rattle.std.proofs.Common.{◌≡◌, ℕ, ◌+◌, ◌≤◌, ◌<◌, Bool, true, false, List, [], ◌∷◌, ◌++◌, map, flat_map, length, drop, get_or, Option, Some, None, refl, ap, sym, ◌∙◌, arith, append_assoc}
use Rattle.std.specs.Prelude.{nat_le, if◌then◌else◌}
use Rattle.std.proofs.lemmas.List.{map-append, drop_all, append-nil}
use Rattle.std.proofs.lemmas.Grind.{common_steps}
use Rattle.std.proofs.lemmas.Bool.{le-leb}
use Rattle.gql_values3.specs.declared.table.ColumnKind.{ColumnKind}
use Rattle.gql_values3.specs.declared.table.ColumnKind.TheVariants as kind
use Rattle.gql_ast.specs.ClauseColumns.{ColumnList, is_column}
use Rattle.gql_norm.specs.NormalPattern.{Part, Node, Edge, Concat, Union, Alt, Quant, Opt, ModeScope, Sides, NoSide, Side, NormalPath, in_a_row, side_by_side, sides_of}
use Rattle.gql_norm.specs.NormalData.{path_data}
use Rattle.gql_norm.specs.declared.path.NormalPath.{NormalPath as CodePath}
use Rattle.gql_norm.specs.Places.{size, size_all}
use Rattle.gql_norm.specs.Declaration.{Declared, visible, visible_sides, declaration, declarations}
use Rattle.gql_norm.specs.NewColumns.{of_degree, degree_in_paths, columns_by, path_name_column, new_among}
use Rattle.gql_norm.specs.Machinery.ColumnGrowth.{with_column, with_columns, declared_variable, declared_in, declared_in_sides, declared_in_all, by_degrees}
use Rattle.gql_norm.proofs.VisibleLemmas.{left_behind}

-- those before, and then the new ones
new_one : (columns : ColumnList) (c : List ℕ × ColumnKind) (cs : ColumnList) (b : Bool)
    → ((those : ColumnList) → with_columns those cs ≡ those ++ new_among those cs)
    → with_columns (if b then columns else columns ++ c ∷ []) cs ≡ columns ++ (if b then new_among columns cs else c ∷ new_among (columns ++ c ∷ []) cs)
new_one columns c cs true h = h columns
new_one columns c cs false h = h (columns ++ c ∷ []) ∙ append_assoc columns (c ∷ []) (new_among (columns ++ c ∷ []) cs)

pub with_columns_new : (columns cs : ColumnList) → with_columns columns cs ≡ columns ++ new_among columns cs
with_columns_new [] [] = refl
with_columns_new (d ∷ ds) [] = ap (λ cs. d ∷ cs) (with_columns_new ds [])
with_columns_new columns (c ∷ cs) = new_one columns c cs (is_column columns c.0) (λ those. with_columns_new those cs)

pub with_columns_both : (columns xs ys : ColumnList) → with_columns columns (xs ++ ys) ≡ with_columns (with_columns columns xs) ys
with_columns_both columns [] ys = refl
with_columns_both columns (x ∷ xs) ys = with_columns_both (with_column columns x) xs ys

-- parts in a row, beside each other, and told
pub declared_in_row : (p : Part) (ps : List Part) → declared_in (in_a_row p ps) ≡ declared_in_all (p ∷ ps)
declared_in_row p [] = sym (append-nil (declared_in p))
declared_in_row p (r ∷ rs) = ap (λ cs. declared_in p ++ cs) (declared_in_row r rs)

pub declared_in_beside : (p : Part) (ps : List Part) → declared_in (side_by_side p ps) ≡ declared_in_all (p ∷ ps)
declared_in_beside p [] = declared_in_row p []
declared_in_beside p (r ∷ rs) = ap (λ cs. declared_in p ++ cs) (declared_in_beside r rs)

pub declared_in_told : (ps : List Part) → declared_in_sides (sides_of ps) ≡ declared_in_all ps
declared_in_told [] = refl
declared_in_told (p ∷ ps) = ap (λ cs. declared_in p ++ cs) (declared_in_told ps)

-- what is declared, without its place
abbrev pub without_place : Declared → List ℕ × ColumnKind
without_place d = (d.name, d.kind)

one_declared : (k : ColumnKind) (a : ℕ) (qs : List ℕ) (v : Option (List ℕ)) (x : ℕ) → a + 1 ≤ x → map without_place (declaration k a qs v (nat_le a x)) ≡ declared_variable k v
one_declared k a qs None x h = ap (λ b. map without_place (declaration k a qs None b)) (le-leb a x (omega arith))
one_declared k a qs (Some y) x h = ap (λ b. map without_place (declaration k a qs (Some y) b)) (le-leb a x (omega arith))

both_declared : (xs ys : List Declared) (cs ds : ColumnList) → map without_place xs ≡ cs → map without_place ys ≡ ds → map without_place (xs ++ ys) ≡ cs ++ ds
both_declared xs ys cs ds h k = map-append without_place xs ys ∙ (λ i. h i ++ k i)

-- Behind a part all of its declarations are seen.
mutual
  unfolding size visible

  pub all_seen : (p : Part) (a : ℕ) (qs : List ℕ) (x : ℕ) → a + size p ≤ x → map without_place (visible p a qs x) ≡ declared_in p
  all_seen (Node w) a qs x h = one_declared kind.Node a qs w.variable x h
  all_seen (Edge d w) a qs x h = one_declared kind.Edge a qs w.variable x h
  all_seen (Concat p r) a qs x h =
      both_declared (visible p a qs x) (visible r (a + size p) qs x) (declared_in p) (declared_in r) (all_seen p a qs x (omega arith)) (all_seen r (a + size p) qs x (omega arith))
  all_seen (Union p r) a qs x h =
      ap (λ b. map without_place (if b then visible r (a + size p + 2) qs x else visible p (a + 1) qs x ++ visible r (a + size p + 2) qs x)) (left_behind (a + size p + 2) (size r) x (omega arith))
      ∙ both_declared (visible p (a + 1) qs x) (visible r (a + size p + 2) qs x) (declared_in p) (declared_in r) (all_seen p (a + 1) qs x (omega arith)) (all_seen r (a + size p + 2) qs x (omega arith))
  all_seen (Alt ss) a qs x h = all_seen_sides ss (a + 1) qs x (omega arith)
  all_seen (Quant b l n) a qs x h = all_seen b (a + 2) (a ∷ qs) x (omega arith)
  all_seen (Opt b) a qs x h = all_seen b (a + 1) qs x (omega arith)
  all_seen (ModeScope m b c) a qs x h = all_seen b (a + 1) qs x (omega arith)

  all_seen_sides : (ss : Sides) (b : ℕ) (qs : List ℕ) (x : ℕ) → b + size_all ss ≤ x → map without_place (visible_sides ss b qs x) ≡ declared_in_sides ss
  all_seen_sides NoSide b qs x h = refl
  all_seen_sides (Side p ss) b qs x h =
      ap (λ c. map without_place (if c then visible_sides ss (b + size p + 1) qs x else visible p b qs x ++ visible_sides ss (b + size p + 1) qs x)) (left_behind (b + size p + 1) (size_all ss) x (omega arith))
      ∙ both_declared (visible p b qs x) (visible_sides ss (b + size p + 1) qs x) (declared_in p) (declared_in_sides ss) (all_seen p b qs x (omega arith)) (all_seen_sides ss (b + size p + 1) qs x (omega arith))

-- the declarations of a body
pub declarations_seen : (body : Part) → map without_place (declarations body) ≡ declared_in body
declarations_seen body = all_seen body 0 [] (0 + size body) (omega arith)

map_twice : (f : List ℕ × ColumnKind → List ℕ × ColumnKind) (ds : List Declared) → map (λ (d : Declared). f (without_place d)) ds ≡ map f (map without_place ds)
map_twice f [] = refl
map_twice f (d ∷ ds) = ap (λ cs. f (without_place d) ∷ cs) (map_twice f ds)

-- the columns of a path pattern are its name, and then what its body declares
pub columns_of_path : (paths : List NormalPath) (p : NormalPath) → columns_by (degree_in_paths paths) p ≡ path_name_column p.name ++ by_degrees paths (declared_in p.body)
columns_of_path paths p =
    ap (λ cs. path_name_column p.name ++ cs)
    (map_twice (λ (c : List ℕ × ColumnKind). (c.0, of_degree (degree_in_paths paths c.0) c.1)) (declarations p.body)
    ∙ ap (λ cs. by_degrees paths cs) (declarations_seen p.body))

abbrev pub paths_from : List NormalPath → List CodePath → ℕ → ColumnList
paths_from all paths i = flat_map (columns_by (degree_in_paths all)) (map path_data (drop i paths))

pub added_path : (all : List NormalPath) (columns behind : ColumnList) (paths : List CodePath) (i : ℕ) (p : CodePath) → i < length paths → p ≡ get_or paths i p
    → behind ≡ with_columns columns (columns_by (degree_in_paths all) (path_data p))
    → with_columns behind (paths_from all paths (i + 1)) ≡ with_columns columns (paths_from all paths i)
added_path all columns behind paths i p h q e =
    ap (λ those. with_columns those (paths_from all paths (i + 1))) e
    ∙ sym (with_columns_both columns (columns_by (degree_in_paths all) (path_data p)) (paths_from all paths (i + 1)))
    ∙ ap (λ cs. with_columns columns cs) (sym (step all paths i p h q))
  where
    step : (all : List NormalPath) (paths : List CodePath) (i : ℕ) (p : CodePath) → i < length paths → p ≡ get_or paths i p
        → paths_from all paths i ≡ columns_by (degree_in_paths all) (path_data p) ++ paths_from all paths (i + 1)
    step all paths i p h q = grind (arith, common_steps)

pub all_paths : (all : List NormalPath) (columns : ColumnList) (paths : List CodePath) (i : ℕ) → length paths ≤ i → with_columns columns (paths_from all paths i) ≡ columns
all_paths all columns paths i h = ap (λ ps. with_columns columns (flat_map (columns_by (degree_in_paths all)) (map path_data ps))) (drop_all i paths h)
