-- The first clash by names of nodes and of edges is the first of the definition. The key: what is declared is a node or an
-- edge, so a declaration clashes with one before where that is of the other sort.
use Rattle.std.proofs.Common.{◌≡◌, ℕ, ◌+◌, Bool, true, false, not, ◌&&◌, ◌||◌, List, [], ◌∷◌, ◌++◌, map, flat_map, find, Option, Some, None, refl, sym, ap, ◌∙◌}
use Rattle.std.specs.Prelude.{option_map, if◌then◌else◌}
use Rattle.std.specs.List.{list_any}
use Rattle.std.proofs.lemmas.List.{map-append}
use Rattle.std.proofs.lemmas.List.Folds.{list_any-append}
use Rattle.gql_values3.specs.Texts.{same_text}
use Rattle.gql_values3.specs.declared.table.ColumnKind.{ColumnKind}
use Rattle.gql_values3.specs.declared.table.ColumnKind.TheVariants as kind
use Rattle.gql_ast.specs.ClauseColumns.{ColumnList, is_column}
use Rattle.gql_expr_checks.specs.First.{first}
use Rattle.gql_norm.specs.NormalPattern.{NormalPath, NormalPattern}
use Rattle.gql_norm.specs.Declaration.{Declared, declarations}
use Rattle.gql_norm.specs.Selection.{Each}
use Rattle.gql_norm.specs.WrongKinds.{is_kind, is_other_kind, clashes, wrong_among}
use Rattle.gql_norm.proofs.ColumnLemmas.{without_place, declarations_seen}
use Rattle.gql_norm.proofs.NameKinds.{all_elements}
use Rattle.gql_norm.proofs.PositionKinds.{IsElement}
use Rattle.gql_degrees.specs.FirstFaults.{first_wrong_kind}
use Rattle.gql_degrees.specs.Machinery.KindWalk.{Before, none_before, needs_other, clashes_with, and_declared, first_clash, declared_in_all_paths}

-- some declaration before has the name and is no element of this kind
abbrev otherwise : ColumnKind → List Declared → List ℕ → Bool
otherwise k before x = list_any (λ (e : Declared). same_text x e.name && not (is_kind k e.kind)) before

-- the names of nodes and of edges are those that were declared before
record Sees (before : List Declared) (b : Before) : Type 0 where
  edges : (x : List ℕ) → otherwise kind.Node before x ≡ is_column b.edges x
  nodes : (x : List ℕ) → otherwise kind.Edge before x ≡ is_column b.nodes x

no_more : (a b : Bool) → ((a && false) || b) ≡ b
no_more true b = refl
no_more false b = refl

one_more : (a b : Bool) → ((a && true) || b) ≡ (b || (a || false))
one_more true true = refl
one_more true false = refl
one_more false true = refl
one_more false false = refl

pushed : (columns : ColumnList) (y : List ℕ) (k : ColumnKind) (x : List ℕ) → is_column (columns ++ (y, k) ∷ []) x ≡ (is_column columns x || (same_text x y || false))
pushed columns y k x = list_any-append (λ (c : List ℕ × ColumnKind). same_text x c.0) columns ((y, k) ∷ [])

sees_more : (k : ColumnKind) → IsElement k → (before : List Declared) (b : Before) → Sees before b → (d : Declared) → d.kind ≡ k → Sees (d ∷ before) (and_declared b (d.name, k))
sees_more kind.Node i before b s d e = record {
  edges = λ x. (λ j. (same_text x d.name && not (is_kind kind.Node (e j))) || s.edges x j) ∙ no_more (same_text x d.name) (is_column b.edges x);
  nodes = λ x. (λ j. (same_text x d.name && not (is_kind kind.Edge (e j))) || s.nodes x j) ∙ one_more (same_text x d.name) (is_column b.nodes x) ∙ sym (pushed b.nodes d.name kind.Node x);
}
sees_more kind.Edge i before b s d e = record {
  edges = λ x. (λ j. (same_text x d.name && not (is_kind kind.Node (e j))) || s.edges x j) ∙ one_more (same_text x d.name) (is_column b.edges x) ∙ sym (pushed b.edges d.name kind.Edge x);
  nodes = λ x. (λ j. (same_text x d.name && not (is_kind kind.Edge (e j))) || s.nodes x j) ∙ no_more (same_text x d.name) (is_column b.nodes x);
}
sees_more _ i before b s d e = absurd i

same_need : (k : ColumnKind) (o : Option (List ℕ × ColumnKind)) → is_other_kind k o ≡ needs_other k (option_map (λ (c : List ℕ × ColumnKind). c.1) o)
same_need k None = refl
same_need k (Some c) = refl

same_clash : (columns : ColumnList) (before : List Declared) (b : Before) → Sees before b → (k : ColumnKind) → IsElement k → (x : List ℕ)
    → (otherwise k before x || is_other_kind k (find (λ (c : List ℕ × ColumnKind). same_text x c.0) columns)) ≡ clashes_with columns b (x, k)
same_clash columns before b s kind.Node i x = λ j. s.edges x j || same_need kind.Node (find (λ (c : List ℕ × ColumnKind). same_text x c.0) columns) j
same_clash columns before b s kind.Edge i x = λ j. s.nodes x j || same_need kind.Edge (find (λ (c : List ℕ × ColumnKind). same_text x c.0) columns) j
same_clash columns before b s _ i x = absurd i

clash_is : (columns : ColumnList) (before : List Declared) (b : Before) → Sees before b → (ds : List Declared) → Each (λ (d : Declared). IsElement d.kind) ds
    → first (wrong_among columns before ds) ≡ first_clash columns b (map without_place ds)
clash_is columns before b s [] e = refl
clash_is columns before b s (d ∷ ds) e =
    by (clashes before columns d) (clashes_with columns b (d.name, d.kind)) (same_clash columns before b s d.kind e.0 d.name)
    (clash_is columns (d ∷ before) (and_declared b (d.name, d.kind)) (sees_more d.kind e.0 before b s d refl) ds e.1)
  where
    by : (t u : Bool) → t ≡ u → first (wrong_among columns (d ∷ before) ds) ≡ first_clash columns (and_declared b (d.name, d.kind)) (map without_place ds)
        → first (if t then d.name ∷ wrong_among columns (d ∷ before) ds else wrong_among columns (d ∷ before) ds)
        ≡ (if u then Some d.name else first_clash columns (and_declared b (d.name, d.kind)) (map without_place ds))
    by true true h rest = refl
    by false false h rest = rest
    by true false h rest = absurd (cc)
    by false true h rest = absurd (cc)

all_declared_in : (ps : List NormalPath) → map without_place (flat_map (λ (q : NormalPath). declarations q.body) ps) ≡ declared_in_all_paths ps
all_declared_in [] = refl
all_declared_in (p ∷ ps) =
    map-append without_place (declarations p.body) (flat_map (λ (q : NormalPath). declarations q.body) ps)
    ∙ (λ i. declarations_seen p.body i ++ all_declared_in ps i)

pub first_is : (columns : ColumnList) (p : NormalPattern) → first_clash columns none_before (declared_in_all_paths p.paths) ≡ first_wrong_kind columns p
first_is columns p =
    sym (clash_is columns [] none_before (record { edges = λ x. refl; nodes = λ x. refl }) (flat_map (λ (q : NormalPath). declarations q.body) p.paths) (all_elements p.paths)
    ∙ ap (first_clash columns none_before) (all_declared_in p.paths))
