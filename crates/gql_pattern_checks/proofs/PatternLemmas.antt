-- The names at fault and the misuses of one path pattern, by a walk over it.
use Rattle.std.proofs.Common.{◌≡◌, ℕ, ◌+◌, Bool, true, false, not, ◌||◌, ◌&&◌, cond, List, [], ◌∷◌, ◌++◌, map, flat_map, filter, Option, Some, None, refl, sym, ap, ◌∙◌, true≢false}
use Rattle.std.proofs.Math.Bool.{or-false}
use Rattle.std.specs.Prelude.{find, option_map, unwrap_or, if◌then◌else◌}
use Rattle.std.specs.List.{list_any}
use Rattle.std.specs.Option.{option_or}
use Rattle.std.proofs.lemmas.List.Folds.{list_any-append}
use Rattle.std.proofs.lemmas.Grind.{flat_map-append}
use Rattle.std.proofs.lemmas.Slice.Eq.{bytes_eq-Decides}
use Rattle.std.proofs.lemmas.List.{append-nil}
use Rattle.gql_values3.specs.Texts.{same_text}
use Rattle.gql_values3.specs.declared.table.ColumnKind.{ColumnKind}
use Rattle.gql_values3.specs.declared.table.ColumnKind.TheVariants as kind
use Rattle.gql_ast.specs.ClauseColumns.{ColumnList, is_column}
use Rattle.gql_ast.specs.Scope.{holds_group, names_in}
use Rattle.gql_ast.specs.Tree.{Tree}
use Rattle.gql_ast.specs.declared.refusal.Refusal.TheVariants as refusal
use Rattle.gql_expr_checks.specs.ExprMisuses.{misused, elsewhere, is_group_column}
use Rattle.gql_expr_checks.specs.ExprNames.{unknown_in}
use Rattle.gql_expr_checks.specs.Refusals.{refusal_of_first, misuse_if}
use Rattle.gql_expr_checks.specs.Repeated.{is_among}
use Rattle.gql_expr_checks.proofs.RefusalLemmas.{first_of_in_two, misuse_in_two}
use Rattle.gql_norm.specs.NormalPattern.{Part, Node, Edge, Concat, Union, Alt, Quant, Opt, ModeScope, Sides, NoSide, Side}
use Rattle.gql_norm.specs.PathMode.{is_number_among}
use Rattle.gql_norm.specs.Places.{size, size_all, is_inside}
use Rattle.gql_norm.specs.Declaration.{Declared, declaration, visible, visible_sides, may_name}
use Rattle.gql_norm.specs.Reference.{crossed, once}
use Rattle.gql_norm.specs.PredicateSpot.{PredicateSpot, predicates_in, names_of}
use Rattle.gql_norm.specs.UnknownNames.{unknown_at, is_declared}
use Rattle.gql_norm.specs.OtherDefects.{kind_of_reference, columns_at}
use Rattle.gql_pattern_checks.specs.Machinery.Scopes.{known_columns, no_names}
use Rattle.gql_pattern_checks.specs.Machinery.ScopeWalk.{refused_under, refused_of, refused_in}
use Rattle.gql_pattern_checks.specs.declared.scope.Names.{Names}
use Rattle.gql_pattern_checks.specs.declared.scoped.ScopeQuestion.TheVariants as question
use Rattle.gql_pattern_checks.proofs.AmongLemmas.{filter_alike}
use Rattle.gql_pattern_checks.proofs.GroupLemmas.{misused_alike}
use Rattle.gql_pattern_checks.proofs.HoldLemmas.{Holds, has, has_group, holds_nothing}
use Rattle.gql_pattern_checks.proofs.KindLemmas.{group_of_two, known_is_column, known_is_group, group_by, and_any}
use Rattle.gql_pattern_checks.proofs.PlaceLemmas.{seen_by, is_crossed}
use Rattle.gql_pattern_checks.proofs.WholeLemmas.{IsAskedAt, asked_at}

filter_two : (f : List ℕ → Bool) (xs ys : List (List ℕ)) → filter f (xs ++ ys) ≡ filter f xs ++ filter f ys
filter_two f [] ys = refl
filter_two f (x ∷ xs) ys = by (f x) (filter_two f xs ys)
  where
    by : (b : Bool) → filter f (xs ++ ys) ≡ filter f xs ++ filter f ys → cond b (x ∷ filter f (xs ++ ys)) (filter f (xs ++ ys)) ≡ cond b (x ∷ filter f xs) (filter f xs) ++ filter f ys
    by true h = ap (λ zs. x ∷ zs) h
    by false h = h

-- the first unknown name of several expressions
pub unknown_of_trees : (columns : ColumnList) (s : Names) (es : List Tree)
    → refusal_of_first refusal.Variable (filter (λ x. not (is_column (known_columns columns s) x)) (flat_map names_in es)) ≡ refused_of question.Names columns s es
unknown_of_trees columns s [] = refl
unknown_of_trees columns s (e ∷ es) =
    ap (refusal_of_first refusal.Variable) (filter_two (λ x. not (is_column (known_columns columns s) x)) (names_in e) (flat_map names_in es))
    ∙ first_of_in_two refusal.Variable (unknown_in (known_columns columns s) e) (filter (λ x. not (is_column (known_columns columns s) x)) (flat_map names_in es))
    ∙ ap (λ o. option_or (refused_under question.Names (known_columns columns s) e) o) (unknown_of_trees columns s es)

-- a misuse in several expressions, under columns of which the same are groups
pub misused_of_trees : (a columns : ColumnList) (s : Names) (es : List Tree) → ((x : List ℕ) → is_group_column a x ≡ is_group_column (known_columns columns s) x)
    → misuse_if (list_any (misused a elsewhere) es) ≡ refused_of question.Misuses columns s es
misused_of_trees a columns s [] h = refl
misused_of_trees a columns s (e ∷ es) h =
    misuse_in_two (misused a elsewhere e) (list_any (misused a elsewhere) es)
    ∙ (λ i. option_or (misuse_if (misused_alike a (known_columns columns s) elsewhere e (λ x m. h x) i)) (misused_of_trees a columns s es h i))

pub declared_seen : (around : List ℕ) (ds : List Declared) (x : List ℕ) → is_declared ds x ≡ has (seen_by around ds) x
declared_seen around [] x = refl
declared_seen around (d ∷ ds) x = ap (λ b. same_text x d.name || b) (declared_seen around ds x)

crossed_seen : (around : List ℕ) (ds : List Declared) (x : List ℕ) → list_any (λ (d : Declared). same_text x d.name && is_crossed around d.quants) ds ≡ has_group (seen_by around ds) x
crossed_seen around [] x = refl
crossed_seen around (d ∷ ds) x = ap (λ b. (same_text x d.name && is_crossed around d.quants) || b) (crossed_seen around ds x)

-- E08
not_either : (c v : Bool) → (not c && not v) ≡ not ((c || false) || v)
not_either true v = refl
not_either false true = refl
not_either false false = refl

unknown_at_spot : (columns : ColumnList) (body : Part) (t : PredicateSpot) (s : Names) → Holds [] s (seen_by t.quants (may_name body t.place))
    → refusal_of_first refusal.Variable (unknown_at columns body t) ≡ refused_of question.Names columns s t.trees
unknown_at_spot columns body t s h =
    ap (refusal_of_first refusal.Variable)
    (filter_alike (λ x. not (is_column columns x) && not (is_declared (may_name body t.place) x)) (λ x. not (is_column (known_columns columns s) x)) (names_of t)
    (λ x m. ap (λ b. not (is_column columns x) && not b) (declared_seen t.quants (may_name body t.place) x ∙ sym (h.variables x))
    ∙ not_either (is_column columns x) (is_among s.variables x)
    ∙ ap (λ ps. not ((is_column columns x || is_among ps x) || is_among s.variables x)) (sym h.paths)
    ∙ ap not (sym (known_is_column columns s x))))
    ∙ unknown_of_trees columns s t.trees

unknown_asked : (columns : ColumnList) (body : Part)
    → IsAskedAt question.Names columns (may_name body) (λ ts. refusal_of_first refusal.Variable (flat_map (unknown_at columns body) ts))
unknown_asked columns body = record {
  nothing = refl;
  both = λ xs ys.
      ap (refusal_of_first refusal.Variable) (flat_map-append (unknown_at columns body) xs ys)
      ∙ first_of_in_two refusal.Variable (flat_map (unknown_at columns body) xs) (flat_map (unknown_at columns body) ys);
  at_spot = λ t s h. ap (refusal_of_first refusal.Variable) (append-nil (unknown_at columns body t)) ∙ unknown_at_spot columns body t s h;
}

pub unknown_in_body : (columns : ColumnList) (body : Part)
    → refusal_of_first refusal.Variable (flat_map (unknown_at columns body) (predicates_in body 0 [])) ≡ refused_in question.Names columns no_names body
unknown_in_body columns body =
    asked_at question.Names columns (may_name body) (λ ts. refusal_of_first refusal.Variable (flat_map (unknown_at columns body) ts)) (unknown_asked columns body)
    body 0 [] no_names [] (λ q l. refl) holds_nothing (λ x around l h ag. refl)

-- E15: the variables of a pattern are nodes and edges
abbrev IsElement : ColumnKind → Type 0
IsElement k = (holds_group k ≡ false) × ((q : ℕ) (qs : List ℕ) → holds_group (kind_of_reference (q ∷ qs) k) ≡ true)

abbrev AreElements : List Declared → Type 0
AreElements [] = Unit {0}
AreElements (d ∷ ds) = IsElement d.kind × AreElements ds

both_elements : (xs ys : List Declared) → AreElements xs → AreElements ys → AreElements (xs ++ ys)
both_elements [] ys h k = k
both_elements (x ∷ xs) ys h k = (h.0, both_elements xs ys h.1 k)

node_is : IsElement kind.Node
node_is = (refl, λ q qs. refl)

edge_is : IsElement kind.Edge
edge_is = (refl, λ q qs. refl)

one_element : (k : ColumnKind) (a : ℕ) (qs : List ℕ) (v : Option (List ℕ)) (b : Bool) → IsElement k → AreElements (declaration k a qs v b)
one_element k a qs None b h = tt
one_element k a qs (Some y) true h = (h, tt)
one_element k a qs (Some y) false h = tt

either_elements : (xs ys : List Declared) (b : Bool) → AreElements xs → AreElements ys → AreElements (if b then ys else xs ++ ys)
either_elements xs ys true h k = k
either_elements xs ys false h k = both_elements xs ys h k

mutual
  unfolding visible

  elements : (p : Part) (a : ℕ) (qs : List ℕ) (x : ℕ) → AreElements (visible p a qs x)
  elements (Node w) a qs x = one_element kind.Node a qs w.variable _ node_is
  elements (Edge d w) a qs x = one_element kind.Edge a qs w.variable _ edge_is
  elements (Concat p r) a qs x = both_elements (visible p a qs x) (visible r (a + size p) qs x) (elements p a qs x) (elements r (a + size p) qs x)
  elements (Union p r) a qs x =
      either_elements (visible p (a + 1) qs x) (visible r (a + size p + 2) qs x) (is_inside (a + size p + 2) (size r) x) (elements p (a + 1) qs x) (elements r (a + size p + 2) qs x)
  elements (Alt ss) a qs x = elements_of_sides ss (a + 1) qs x
  elements (Quant b l n) a qs x = elements b (a + 2) (a ∷ qs) x
  elements (Opt b) a qs x = elements b (a + 1) qs x
  elements (ModeScope m b c) a qs x = elements b (a + 1) qs x

  elements_of_sides : (ss : Sides) (b : ℕ) (qs : List ℕ) (x : ℕ) → AreElements (visible_sides ss b qs x)
  elements_of_sides NoSide b qs x = tt
  elements_of_sides (Side p ss) b qs x =
      either_elements (visible p b qs x) (visible_sides ss (b + size p + 1) qs x) (is_inside (b + size p + 1) (size_all ss) x) (elements p b qs x) (elements_of_sides ss (b + size p + 1) qs x)

-- some number is there
abbrev is_any : List ℕ → Bool
is_any [] = false
is_any (q ∷ qs) = true

any_once : (xs : List ℕ) → is_any (once xs) ≡ is_any xs
any_once [] = refl
any_once (x ∷ xs) = by (is_number_among xs x) refl (any_once xs)
  where
    some : (ys : List ℕ) → is_number_among ys x ≡ true → is_any ys ≡ true
    some [] h = absurd (true≢false (sym h))
    some (y ∷ ys) h = refl

    by : (b : Bool) → is_number_among xs x ≡ b → is_any (once xs) ≡ is_any xs → is_any (if b then once xs else x ∷ once xs) ≡ true
    by true h r = r ∙ some xs h
    by false h r = refl

any_filter : (f : ℕ → Bool) (xs : List ℕ) → is_any (filter f xs) ≡ list_any f xs
any_filter f [] = refl
any_filter f (x ∷ xs) = by (f x) (any_filter f xs)
  where
    by : (b : Bool) → is_any (filter f xs) ≡ list_any f xs → is_any (cond b (x ∷ filter f xs) (filter f xs)) ≡ (b || list_any f xs)
    by true h = refl
    by false h = h

-- the quantifiers that a name crosses, where these declarations may be named
abbrev crossing : List ℕ → List Declared → List ℕ → List ℕ
crossing around ds x = once (filter (λ q. not (is_number_among around q)) (flat_map (λ (d : Declared). d.quants) (filter (λ (d : Declared). same_text x d.name) ds)))

any_quants : (f : ℕ → Bool) (x : List ℕ) (ds : List Declared)
    → list_any f (flat_map (λ (d : Declared). d.quants) (filter (λ (d : Declared). same_text x d.name) ds)) ≡ list_any (λ (d : Declared). same_text x d.name && list_any f d.quants) ds
any_quants f x [] = refl
any_quants f x (d ∷ ds) = by (same_text x d.name) (any_quants f x ds)
  where
    by : (b : Bool) → list_any f (flat_map (λ (e : Declared). e.quants) (filter (λ (e : Declared). same_text x e.name) ds)) ≡ list_any (λ (e : Declared). same_text x e.name && list_any f e.quants) ds
        → list_any f (flat_map (λ (e : Declared). e.quants) (cond b (d ∷ filter (λ (e : Declared). same_text x e.name) ds) (filter (λ (e : Declared). same_text x e.name) ds)))
        ≡ ((b && list_any f d.quants) || list_any (λ (e : Declared). same_text x e.name && list_any f e.quants) ds)
    by true h = list_any-append f d.quants (flat_map (λ (e : Declared). e.quants) (filter (λ (e : Declared). same_text x e.name) ds)) ∙ ap (λ c. list_any f d.quants || c) h
    by false h = h

any_crossed : (around : List ℕ) (ds : List Declared) (x : List ℕ) → is_any (crossing around ds x) ≡ list_any (λ (d : Declared). same_text x d.name && is_crossed around d.quants) ds
any_crossed around ds x =
    any_once (filter (λ q. not (is_number_among around q)) (flat_map (λ (d : Declared). d.quants) (filter (λ (d : Declared). same_text x d.name) ds)))
    ∙ any_filter (λ q. not (is_number_among around q)) (flat_map (λ (d : Declared). d.quants) (filter (λ (d : Declared). same_text x d.name) ds))
    ∙ any_quants (λ q. not (is_number_among around q)) x ds

kind_when : (qs : List ℕ) (k : ColumnKind) → IsElement k → holds_group (kind_of_reference qs k) ≡ is_any qs
kind_when [] k h = h.0
kind_when (q ∷ qs) k h = h.1 q qs

-- which of the declared names are groups, each by the quantifiers that it crosses
abbrev reference_column : (List ℕ → List ℕ) → Declared → List ℕ × ColumnKind
reference_column by_name d = (d.name, kind_of_reference (by_name d.name) d.kind)

reference_group : (by_name : List ℕ → List ℕ) (ds : List Declared) (x : List ℕ) → AreElements ds
    → is_group_column (map (reference_column by_name) ds) x ≡ (is_declared ds x && is_any (by_name x))
reference_group by_name [] x h = refl
reference_group by_name (d ∷ ds) x h = by (same_text x d.name) refl (reference_group by_name ds x h.1)
  where
    by : (b : Bool) → same_text x d.name ≡ b → is_group_column (map (reference_column by_name) ds) x ≡ (is_declared ds x && is_any (by_name x))
        → holds_group (unwrap_or (option_map (λ (c : List ℕ × ColumnKind). c.1) (cond b (Some (reference_column by_name d)) (find (λ (c : List ℕ × ColumnKind). same_text x c.0) (map (reference_column by_name) ds)))) kind.Plain)
        ≡ ((b || is_declared ds x) && is_any (by_name x))
    by true p r = kind_when (by_name d.name) d.kind h.0 ∙ ap (λ y. is_any (by_name y)) (sym ((bytes_eq-Decides x d.name).0 p))
    by false p r = r

by_columns : (c g v : Bool) → (if c then g else v) ≡ group_by c g false v
by_columns true g v = refl
by_columns false g v = refl

-- so the same are groups
same_groups : (columns : ColumnList) (body : Part) (t : PredicateSpot) (s : Names) → Holds [] s (seen_by t.quants (may_name body t.place))
    → (x : List ℕ) → is_group_column (columns_at columns body t) x ≡ is_group_column (known_columns columns s) x
same_groups columns body t s h x =
    group_of_two columns (map (reference_column (crossed body t.quants t.place)) (may_name body t.place)) x
    ∙ ap (λ b. if is_column columns x then is_group_column columns x else b)
    (reference_group (crossed body t.quants t.place) (may_name body t.place) x (elements body 0 [] t.place)
    ∙ ap (λ b. is_declared (may_name body t.place) x && b) (any_crossed t.quants (may_name body t.place) x)
    ∙ and_any (λ (d : Declared). same_text x d.name) (λ (d : Declared). is_crossed t.quants d.quants) (may_name body t.place)
    ∙ crossed_seen t.quants (may_name body t.place) x
    ∙ sym (and_any (λ (e : List ℕ × Bool). same_text x e.0) (λ (e : List ℕ × Bool). e.1) (seen_by t.quants (may_name body t.place)))
    ∙ (λ i. sym (h.variables x) i && sym (h.groups x) i))
    ∙ by_columns (is_column columns x) (is_group_column columns x) (is_among s.variables x && is_among s.groups x)
    ∙ ap (λ ps. group_by (is_column columns x) (is_group_column columns x) (is_among ps x) (is_among s.variables x && is_among s.groups x)) (sym h.paths)
    ∙ sym (known_is_group columns s x)

abbrev misused_at : ColumnList → Part → PredicateSpot → Bool
misused_at columns body t = list_any (misused (columns_at columns body t) elsewhere) t.trees

misused_asked : (columns : ColumnList) (body : Part) → IsAskedAt question.Misuses columns (may_name body) (λ ts. misuse_if (list_any (misused_at columns body) ts))
misused_asked columns body = record {
  nothing = refl;
  both = λ xs ys.
      ap misuse_if (list_any-append (misused_at columns body) xs ys)
      ∙ misuse_in_two (list_any (misused_at columns body) xs) (list_any (misused_at columns body) ys);
  at_spot = λ t s h. ap misuse_if (or-false (misused_at columns body t)) ∙ misused_of_trees (columns_at columns body t) columns s t.trees (same_groups columns body t s h);
}

pub misused_in_body : (columns : ColumnList) (body : Part)
    → misuse_if (list_any (misused_at columns body) (predicates_in body 0 [])) ≡ refused_in question.Misuses columns no_names body
misused_in_body columns body =
    asked_at question.Misuses columns (may_name body) (λ ts. misuse_if (list_any (misused_at columns body) ts)) (misused_asked columns body)
    body 0 [] no_names [] (λ q l. refl) holds_nothing (λ x around l h ag. refl)
