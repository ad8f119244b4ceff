-- What the final WHERE sees: the columns behind the clause, and the names that the walk gathers, are alike.
use mathlib.Core.Bool.{or_assoc}
use Rattle.std.proofs.Common.{◌≡◌, ℕ, Bool, true, false, ◌||◌, ◌&&◌, cond, List, [], ◌∷◌, ◌++◌, flat_map, Option, Some, None, is_some, refl, sym, ap, subst, ◌∙◌, append_assoc, true≢false}
use Rattle.std.proofs.lemmas.Bool.{and_right}
use Rattle.std.specs.Prelude.{option_map, unwrap_or, if◌then◌else◌}
use Rattle.std.specs.Option.{option_or}
use Rattle.std.proofs.lemmas.List.{map-append, append-nil}
use Rattle.std.proofs.lemmas.Slice.Eq.{bytes_eq-Decides}
use Rattle.gql_values3.specs.Texts.{same_text}
use Rattle.gql_values3.specs.declared.table.ColumnKind.{ColumnKind}
use Rattle.gql_values3.specs.declared.table.ColumnKind.TheVariants as kind
use Rattle.gql_ast.specs.ClauseColumns.{ColumnList, is_column}
use Rattle.gql_ast.specs.Scope.{holds_group}
use Rattle.gql_expr_checks.specs.ExprMisuses.{is_group_column}
use Rattle.gql_expr_checks.specs.Machinery.Knowing.{first_kind}
use Rattle.gql_expr_checks.specs.Repeated.{is_among}
use Rattle.gql_expr_checks.proofs.KnowingLemmas.{is_some-first_kind, knows_old}
use Rattle.gql_norm.specs.NormalPattern.{Part, Node, Edge, Concat, Union, Alt, Quant, Opt, ModeScope, Sides, NoSide, Side, NormalPath, NormalPattern}
use Rattle.gql_norm.specs.declared.degree.Degree.{Degree}
use Rattle.gql_norm.specs.declared.degree.Degree.TheVariants.{Singleton, Conditional, Group}
use Rattle.gql_norm.specs.Degree.{is_group}
use Rattle.gql_norm.specs.NewColumns.{of_degree, degree_in_paths, columns_by, path_name_column, columns_after}
use Rattle.gql_norm.specs.Machinery.ColumnGrowth.{with_column, with_columns, declared_variable, declared_in, declared_in_sides, by_degrees}
use Rattle.gql_norm.proofs.ColumnLemmas.{with_columns_new, columns_of_path}
use Rattle.gql_expr_checks.specs.Machinery.NameList.{with_name}
use Rattle.gql_pattern_checks.specs.Machinery.Scopes.{no_names, with_variable, with_variable_of, with_part, with_sides, with_path_name, with_paths, known_columns}
use Rattle.gql_pattern_checks.specs.declared.scope.Names.{Names}
use Rattle.gql_pattern_checks.proofs.DegreeLemmas.{entries_in_paths, groups_in_paths}
use Rattle.gql_pattern_checks.proofs.HoldLemmas.{Holds, has, has_group, holds_part, holds_nothing, among_with, or_nothing}
use Rattle.gql_pattern_checks.proofs.KindLemmas.{column_of_two, group_of_two, first_kind_two, known_is_column, known_is_group, group_by}
use Rattle.gql_pattern_checks.proofs.PlaceLemmas.{Entries, entries_of}

-- a column whose name stands before it is not found
new_or_not : (columns cs : ColumnList) (x : List ℕ) → first_kind (with_columns columns cs) x ≡ first_kind (columns ++ cs) x
new_or_not columns [] x = ap (λ ds. first_kind ds x) (sym (append-nil columns))
new_or_not columns (c ∷ cs) x = new_or_not (with_column columns c) cs x ∙ by (is_column columns c.0) refl
  where
    by : (b : Bool) → is_column columns c.0 ≡ b → first_kind ((if b then columns else columns ++ c ∷ []) ++ cs) x ≡ first_kind (columns ++ c ∷ cs) x
    by false h = ap (λ ds. first_kind ds x) (append_assoc columns (c ∷ []) cs)
    by true h =
        first_kind_two columns cs x
        ∙ ap (λ o. option_or o (first_kind cs x)) (knows_old columns c.0 c.1 x (is_some-first_kind columns c.0 ∙ h))
        ∙ sym (first_kind_two (columns ++ c ∷ []) cs x)
        ∙ ap (λ ds. first_kind ds x) (append_assoc columns (c ∷ []) cs)

-- names as they come, against names each once; which variables are groups is told by a test
record Looks (is_grouped : List ℕ → Bool) (cs : ColumnList) (s : Names) : Type 0 where
  column : (y : List ℕ) → is_column cs y ≡ (is_among s.paths y || is_among s.variables y)
  group : (y : List ℕ) → is_group_column cs y ≡ (if is_among s.paths y then false else (is_among s.variables y && is_grouped y))

-- one column
one_column : (cs : ColumnList) (x : List ℕ) (k : ColumnKind) (y : List ℕ) → is_column (cs ++ (x, k) ∷ []) y ≡ (is_column cs y || same_text y x)
one_column cs x k y = column_of_two cs ((x, k) ∷ []) y ∙ or_nothing (is_column cs y) (same_text y x)

one_group : (cs : ColumnList) (x : List ℕ) (k : ColumnKind) (y : List ℕ) → is_group_column (cs ++ (x, k) ∷ []) y ≡ (if is_column cs y then is_group_column cs y else (same_text y x && holds_group k))
one_group cs x k y = group_of_two cs ((x, k) ∷ []) y ∙ ap (λ b. if is_column cs y then is_group_column cs y else b) (by (same_text y x))
  where
    by : (b : Bool) → holds_group (unwrap_or (option_map (λ (c : List ℕ × ColumnKind). c.1) (cond b (Some (x, k)) None)) kind.Plain) ≡ (b && holds_group k)
    by true = refl
    by false = refl

-- a path name
path_known : (p v s : Bool) → (s ≡ true → v ≡ true) → ((p || v) || s) ≡ (p || v)
path_known true v s h = refl
path_known false true s h = refl
path_known false false true h = sym (h refl)
path_known false false false h = refl

path_new : (p v s : Bool) → ((p || v) || s) ≡ ((p || s) || v)
path_new true v s = refl
path_new false true true = refl
path_new false true false = refl
path_new false false true = refl
path_new false false false = refl

path_known_group : (p v g s : Bool) → (if p || v then (if p then false else (v && g)) else (s && false)) ≡ (if p then false else (v && g))
path_known_group true v g s = refl
path_known_group false true g s = refl
path_known_group false false g s = and_right s false refl

path_new_group : (p v g s : Bool) → (s ≡ true → v ≡ false) → (if p || v then (if p then false else (v && g)) else (s && false)) ≡ (if p || s then false else (v && g))
path_new_group true v g s h = refl
path_new_group false true g true h = absurd (true≢false (h refl))
path_new_group false true g false h = refl
path_new_group false false g true h = refl
path_new_group false false g false h = refl

looks_path : (grouped : List ℕ → Bool) (cs : ColumnList) (s : Names) (x : List ℕ) → Looks grouped cs s → Looks grouped (cs ++ (x, kind.Path) ∷ []) (with_path_name s (Some x))
looks_path grouped cs s x l = by (is_among s.variables x) refl
  where
    turned : (y : List ℕ) (b : Bool) → is_among s.variables x ≡ b → same_text y x ≡ true → is_among s.variables y ≡ b
    turned y b h m = ap (is_among s.variables) ((bytes_eq-Decides y x).0 m) ∙ h

    by : (b : Bool) → is_among s.variables x ≡ b → Looks grouped (cs ++ (x, kind.Path) ∷ []) (if b then s else record { paths = with_name s.paths x; variables = s.variables; groups = s.groups })
    by true h = record {
      column = λ y. one_column cs x kind.Path y ∙ ap (λ b. b || same_text y x) (l.column y) ∙ path_known (is_among s.paths y) (is_among s.variables y) (same_text y x) (turned y true h);
      group = λ y. one_group cs x kind.Path y
          ∙ (λ i. if l.column y i then l.group y i else (same_text y x && false))
          ∙ path_known_group (is_among s.paths y) (is_among s.variables y) (grouped y) (same_text y x);
    }
    by false h = record {
      column = λ y. one_column cs x kind.Path y ∙ ap (λ b. b || same_text y x) (l.column y) ∙ path_new (is_among s.paths y) (is_among s.variables y) (same_text y x)
          ∙ ap (λ b. b || is_among s.variables y) (sym (among_with s.paths x y));
      group = λ y. one_group cs x kind.Path y
          ∙ (λ i. if l.column y i then l.group y i else (same_text y x && false))
          ∙ path_new_group (is_among s.paths y) (is_among s.variables y) (grouped y) (same_text y x) (turned y false h)
          ∙ ap (λ b. if b then false else (is_among s.variables y && grouped y)) (sym (among_with s.paths x y));
    }

-- a variable
variable_group : (p v g s h : Bool) → (s ≡ true → h ≡ g) → (if p || v then (if p then false else (v && g)) else (s && h)) ≡ (if p then false else ((v || s) && g))
variable_group true v g s h e = refl
variable_group false true g s h e = refl
variable_group false false g true h e = e refl
variable_group false false g false h e = refl

looks_variable : (grouped : List ℕ → Bool) (cs : ColumnList) (g : Bool) (s : Names) (x : List ℕ) (k : ColumnKind) → holds_group k ≡ grouped x → Looks grouped cs s
    → Looks grouped (cs ++ (x, k) ∷ []) (with_variable g s x)
looks_variable grouped cs g s x k e l = record {
  column = λ y. one_column cs x k y ∙ ap (λ b. b || same_text y x) (l.column y) ∙ or_assoc (is_among s.paths y) (is_among s.variables y) (same_text y x)
      ∙ ap (λ b. is_among s.paths y || b) (sym (among_with s.variables x y));
  group = λ y. one_group cs x k y
      ∙ (λ i. if l.column y i then l.group y i else (same_text y x && holds_group k))
      ∙ variable_group (is_among s.paths y) (is_among s.variables y) (grouped y) (same_text y x) (holds_group k) (λ m. e ∙ ap grouped (sym ((bytes_eq-Decides y x).0 m)))
      ∙ ap (λ b. if is_among s.paths y then false else (b && grouped y)) (sym (among_with s.variables x y));
}

module _ (paths : List NormalPath) where
  abbrev grouped : List ℕ → Bool
  grouped y = is_group (degree_in_paths paths y)

  node_kind : (d : Option Degree) → holds_group (of_degree d kind.Node) ≡ is_group d
  node_kind None = refl
  node_kind (Some Singleton) = refl
  node_kind (Some Conditional) = refl
  node_kind (Some Group) = refl

  edge_kind : (d : Option Degree) → holds_group (of_degree d kind.Edge) ≡ is_group d
  edge_kind None = refl
  edge_kind (Some Singleton) = refl
  edge_kind (Some Conditional) = refl
  edge_kind (Some Group) = refl

  looks_declared : (cs : ColumnList) (g : Bool) (s : Names) (k : ColumnKind) (v : Option (List ℕ)) → ((d : Option Degree) → holds_group (of_degree d k) ≡ is_group d) → Looks grouped cs s
      → Looks grouped (cs ++ by_degrees paths (declared_variable k v)) (with_variable_of g s v)
  looks_declared cs g s k None e l = subst (λ ds. Looks grouped ds s) (sym (append-nil cs)) l
  looks_declared cs g s k (Some x) e l = looks_variable grouped cs g s x (of_degree (degree_in_paths paths x) k) (e (degree_in_paths paths x)) l

  both_columns : (cs xs ys : ColumnList) → (cs ++ by_degrees paths xs) ++ by_degrees paths ys ≡ cs ++ by_degrees paths (xs ++ ys)
  both_columns cs xs ys =
      append_assoc cs (by_degrees paths xs) (by_degrees paths ys)
      ∙ ap (λ ds. cs ++ ds) (sym (map-append (λ (c : List ℕ × ColumnKind). (c.0, of_degree (degree_in_paths paths c.0) c.1)) xs ys))

  mutual
    looks_part : (cs : ColumnList) (g : Bool) (s : Names) (p : Part) → Looks grouped cs s → Looks grouped (cs ++ by_degrees paths (declared_in p)) (with_part g s p)
    looks_part cs g s (Node w) l = looks_declared cs g s kind.Node w.variable node_kind l
    looks_part cs g s (Edge d w) l = looks_declared cs g s kind.Edge w.variable edge_kind l
    looks_part cs g s (Concat p r) l =
        subst (λ ds. Looks grouped ds (with_part g (with_part g s p) r)) (both_columns cs (declared_in p) (declared_in r))
        (looks_part (cs ++ by_degrees paths (declared_in p)) g (with_part g s p) r (looks_part cs g s p l))
    looks_part cs g s (Union p r) l =
        subst (λ ds. Looks grouped ds (with_part g (with_part g s p) r)) (both_columns cs (declared_in p) (declared_in r))
        (looks_part (cs ++ by_degrees paths (declared_in p)) g (with_part g s p) r (looks_part cs g s p l))
    looks_part cs g s (Alt ss) l = looks_sides cs g s ss l
    looks_part cs g s (Quant b n m) l = looks_part cs true s b l
    looks_part cs g s (Opt b) l = looks_part cs g s b l
    looks_part cs g s (ModeScope m b c) l = looks_part cs g s b l

    looks_sides : (cs : ColumnList) (g : Bool) (s : Names) (ss : Sides) → Looks grouped cs s → Looks grouped (cs ++ by_degrees paths (declared_in_sides ss)) (with_sides g s ss)
    looks_sides cs g s NoSide l = subst (λ ds. Looks grouped ds s) (sym (append-nil cs)) l
    looks_sides cs g s (Side p ss) l =
        subst (λ ds. Looks grouped ds (with_sides g (with_part g s p) ss)) (both_columns cs (declared_in p) (declared_in_sides ss))
        (looks_sides (cs ++ by_degrees paths (declared_in p)) g (with_part g s p) ss (looks_part cs g s p l))

  looks_name : (cs : ColumnList) (s : Names) (v : Option (List ℕ)) → Looks grouped cs s → Looks grouped (cs ++ path_name_column v) (with_path_name s v)
  looks_name cs s None l = subst (λ ds. Looks grouped ds s) (sym (append-nil cs)) l
  looks_name cs s (Some x) l = looks_path grouped cs s x l

  looks_paths : (cs : ColumnList) (s : Names) (ps : List NormalPath) → Looks grouped cs s → Looks grouped (cs ++ flat_map (columns_by (degree_in_paths paths)) ps) (with_paths s ps)
  looks_paths cs s [] l = subst (λ ds. Looks grouped ds s) (sym (append-nil cs)) l
  looks_paths cs s (p ∷ ps) l =
      subst (λ ds. Looks grouped ds (with_paths (with_part false (with_path_name s p.name) p.body) ps))
      (ap (λ ds. ds ++ flat_map (columns_by (degree_in_paths paths)) ps) (append_assoc cs (path_name_column p.name) (by_degrees paths (declared_in p.body)) ∙ ap (λ ds. cs ++ ds) (sym (columns_of_path paths p)))
      ∙ append_assoc cs (columns_by (degree_in_paths paths) p) (flat_map (columns_by (degree_in_paths paths)) ps))
      (looks_paths ((cs ++ path_name_column p.name) ++ by_degrees paths (declared_in p.body)) (with_part false (with_path_name s p.name) p.body) ps
      (looks_part (cs ++ path_name_column p.name) false (with_path_name s p.name) p.body (looks_name cs s p.name l)))

-- the names of all path patterns hold what these declare
holds_name : (ps : List (List ℕ)) (s : Names) (es : Entries) (v : Option (List ℕ)) → Holds ps s es → Holds (with_path_name s v).paths (with_path_name s v) es
holds_name ps s es None h = record { paths = refl; variables = h.variables; groups = h.groups }
holds_name ps s es (Some x) h = by (is_among s.variables x)
  where
    named : Bool → Names
    named b = if b then s else record { paths = with_name s.paths x; variables = s.variables; groups = s.groups }

    by : (b : Bool) → Holds (named b).paths (named b) es
    by true = record { paths = refl; variables = h.variables; groups = h.groups }
    by false = record { paths = refl; variables = h.variables; groups = h.groups }

pub holds_paths : (qs : List (List ℕ)) (s : Names) (es : Entries) (ps : List NormalPath) → Holds qs s es → Holds (with_paths s ps).paths (with_paths s ps) (es ++ entries_in_paths ps)
holds_paths qs s es [] h = record { paths = refl; variables = λ x. h.variables x ∙ ap (λ ds. has ds x) (sym (append-nil es)); groups = λ x. h.groups x ∙ ap (λ ds. has_group ds x) (sym (append-nil es)) }
holds_paths qs s es (p ∷ ps) h =
    subst (λ ds. Holds (with_paths (with_part false (with_path_name s p.name) p.body) ps).paths (with_paths (with_part false (with_path_name s p.name) p.body) ps) ds)
    (append_assoc es (entries_of false p.body) (entries_in_paths ps))
    (holds_paths (with_path_name s p.name).paths (with_part false (with_path_name s p.name) p.body) (es ++ entries_of false p.body) ps
    (holds_part false (with_path_name s p.name).paths (with_path_name s p.name) es p.body (holds_name qs s es p.name h)))

-- so the columns behind the clause and the names that were gathered are alike
abbrev new_ones : List NormalPath → ColumnList
new_ones paths = flat_map (columns_by (degree_in_paths paths)) paths

looks_after : (columns : ColumnList) (p : NormalPattern) (x : List ℕ) → first_kind (columns_after columns p) x ≡ first_kind (columns ++ new_ones p.paths) x
looks_after columns p x = ap (λ ds. first_kind ds x) (sym (with_columns_new columns (new_ones p.paths))) ∙ new_or_not columns (new_ones p.paths) x

seen_all : (p : NormalPattern) → Looks (λ y. is_group (degree_in_paths p.paths y)) (new_ones p.paths) (with_paths no_names p.paths)
seen_all p = looks_paths p.paths [] no_names p.paths (record { column = λ y. refl; group = λ y. refl })

pub final_is_column : (columns : ColumnList) (p : NormalPattern) (x : List ℕ) → is_column (columns_after columns p) x ≡ is_column (known_columns columns (with_paths no_names p.paths)) x
final_is_column columns p x =
    sym (is_some-first_kind (columns_after columns p) x) ∙ ap is_some (looks_after columns p x) ∙ is_some-first_kind (columns ++ new_ones p.paths) x
    ∙ column_of_two columns (new_ones p.paths) x ∙ ap (λ b. is_column columns x || b) ((seen_all p).column x)
    ∙ sym (or_assoc (is_column columns x) (is_among (with_paths no_names p.paths).paths x) (is_among (with_paths no_names p.paths).variables x))
    ∙ sym (known_is_column columns (with_paths no_names p.paths) x)

by_group : (c g p v : Bool) → (if c then g else (if p then false else v)) ≡ group_by c g p v
by_group true g p v = refl
by_group false g true v = refl
by_group false g false v = refl

pub final_is_group : (columns : ColumnList) (p : NormalPattern) (x : List ℕ) → is_group_column (columns_after columns p) x ≡ is_group_column (known_columns columns (with_paths no_names p.paths)) x
final_is_group columns p x =
    ap (λ o. holds_group (unwrap_or o kind.Plain)) (looks_after columns p x)
    ∙ group_of_two columns (new_ones p.paths) x ∙ ap (λ b. if is_column columns x then is_group_column columns x else b) ((seen_all p).group x)
    ∙ ap (λ b. if is_column columns x then is_group_column columns x else (if is_among (with_paths no_names p.paths).paths x then false else (is_among (with_paths no_names p.paths).variables x && b)))
    (groups_in_paths p.paths x ∙ sym ((holds_paths [] no_names [] p.paths holds_nothing).groups x))
    ∙ by_group (is_column columns x) (is_group_column columns x) (is_among (with_paths no_names p.paths).paths x) (is_among (with_paths no_names p.paths).variables x && is_among (with_paths no_names p.paths).groups x)
    ∙ sym (known_is_group columns (with_paths no_names p.paths) x)
