-- The names that the steps of an expression hold are those of the expression, each with its places.
use Rattle.std.proofs.Common.{◌≡◌, ℕ, Bool, true, false, cond, List, [], ◌∷◌, ◌++◌, length, map, Option, Some, None, refl, ap, sym, ◌∙◌}
use Rattle.std.specs.Prelude.{find, option_map, unwrap_or}
use Rattle.gql_values3.specs.Datum.{Datum}
use Rattle.gql_ast.specs.declared.words.Operator.{Operator}
use Rattle.gql_ast.specs.ClauseColumns.{ColumnList}
use Rattle.gql_ast.specs.Scope.{names_in, names_in_trees, names_in_links, group_of, is_group_name, datum_of_name}
use Rattle.gql_ast.specs.Tree.{Tree, Trees, Links, constant, unknown, number, parameter, name, property, paren, listing, count_all, aggregate, call, modulo, coalesce, signed, product, sum, comparing, test, label_test, end_test, negation, conjunction, disjunction, link, no_trees, more_trees, no_links, more_links}
use Rattle.gql_eval.specs.Machinery.HeldGroup.{held_pair}
use Rattle.gql_eval.specs.Machinery.Places.{places_among}
use Rattle.gql_eval.specs.Machinery.AtPlaces.{is_group_at}
use Rattle.gql_eval.specs.Machinery.Steps.{Op, fixed, held_name, of_one, of_two, join_side, as_truth, join_all, join_any, skip_if, start_list, add_item, end_list, or_else, over_group, name_held, with_name, names_held}
use Rattle.gql_eval.specs.Machinery.Compiled.{is_xor, any_side, listing_steps, constant_list, compiled, compiled_items, compiled_others, compiled_chain, compiled_all, compiled_any}
use Rattle.gql_eval.specs.Machinery.ScopeMeaning.{scope_of}
use Rattle.gql_eval.specs.declared.places.Places.{Places}
use Rattle.gql_eval.specs.declared.scope.Scope.{Scope}
use Rattle.gql_eval.proofs.ConstantLemmas.{constant_list_names}
use Rattle.gql_eval.proofs.PlaceLemmas.{held_is, group_is}
use Rattle.gql_eval.proofs.ScopeLemmas.{append_none}

with_name_append : (o : Option (Places × List ℕ)) (hs ks : List (Places × List ℕ)) → with_name o (hs ++ ks) ≡ with_name o hs ++ ks
with_name_append None hs ks = refl
with_name_append (Some h) hs ks = refl

names_append : (xs ys : List Op) → names_held (xs ++ ys) ≡ names_held xs ++ names_held ys
names_append [] ys = refl
names_append (o ∷ xs) ys = ap (with_name (name_held o)) (names_append xs ys) ∙ with_name_append (name_held o) (names_held xs) (names_held ys)

-- a name with what it stands for
abbrev pub with_datum : (List ℕ → Datum) → List ℕ → List ℕ × Datum
with_datum f x = (x, f x)

some_same : {A : Type 0} (x y : A) → Some x ≡ Some y → x ≡ y
some_same x y p = ap (λ o. unwrap_or o x) p

-- the first that passes a test, where a step stands in front
pub found_here : (p : Places × List ℕ → Bool) (o : Option (Places × List ℕ)) (h : Places × List ℕ) (hs : List (Places × List ℕ)) → Some h ≡ o → true ≡ p h → find p (with_name o hs) ≡ Some h
found_here p o h hs same is = ap (λ q. find p (with_name q hs)) (sym same) ∙ ap (λ b. cond b (Some h) (find p hs)) (sym is)

pub found_not : (p : Places × List ℕ → Bool) (o : Option (Places × List ℕ)) (h : Places × List ℕ) (hs : List (Places × List ℕ)) → Some h ≡ o → false ≡ p h → find p (with_name o hs) ≡ find p hs
found_not p o h hs same is = ap (λ q. find p (with_name q hs)) (sym same) ∙ ap (λ b. cond b (Some h) (find p hs)) (sym is)

pub found_none : (p : Places × List ℕ → Bool) (o : Option (Places × List ℕ)) (hs : List (Places × List ℕ)) → None ≡ o → find p (with_name o hs) ≡ find p hs
found_none p o hs same = ap (λ q. find p (with_name q hs)) (sym same)

map_append : {A B : Type 0} (f : A → B) (xs ys : List A) → map f (xs ++ ys) ≡ map f xs ++ map f ys
map_append f [] ys = refl
map_append f (x ∷ xs) ys = ap (λ zs. f x ∷ zs) (map_append f xs ys)

any_names : (b : Bool) (n : ℕ) (steps : List Op) → names_held (cond b steps (skip_if true n ∷ steps)) ≡ names_held steps
any_names true n steps = refl
any_names false n steps = refl

module _ (columns : ColumnList) (names : List (List ℕ)) (params : List (List ℕ × Datum)) where
  -- a name with its places
  abbrev pub placed : List ℕ → Places × List ℕ
  placed x = (places_among columns names x, x)

  abbrev code : Tree → List Op
  code e = compiled columns names params e

  abbrev Names : List Op → List (List ℕ) → Type 0
  Names steps ns = names_held steps ≡ map placed ns

  -- one after the other
  both : (xs ys : List Op) (ns ms : List (List ℕ)) → Names xs ns → Names ys ms → Names (xs ++ ys) (ns ++ ms)
  both xs ys ns ms p q = names_append xs ys ∙ ap (λ hs. hs ++ names_held ys) p ∙ ap (λ hs. map placed ns ++ hs) q ∙ sym (map_append placed ns ms)

  -- steps without a name behind them
  behind : (xs ys : List Op) (ns : List (List ℕ)) → Names xs ns → names_held ys ≡ [] → Names (xs ++ ys) ns
  behind xs ys ns p q = both xs ys ns [] p q ∙ ap (map placed) (append_none ns)

  list_names : (o : Option Datum) (items : List Op) (ns : List (List ℕ)) → ((l : Datum) → o ≡ Some l → ns ≡ []) → Names items ns → Names (listing_steps o items) ns
  list_names (Some l) items ns none p = sym (ap (map placed) (none l refl))
  list_names None items ns none p = behind items (end_list ∷ []) ns p refl

  mutual
    pub expr_names : (e : Tree) → Names (code e) (names_in e)
    expr_names (constant d) = refl
    expr_names unknown = refl
    expr_names (number n) = refl
    expr_names (parameter p) = refl
    expr_names (name x) = refl
    expr_names (property x p) = refl
    expr_names (paren e) = expr_names e
    expr_names (listing es) = list_names (constant_list params es) (compiled_items columns names params es) (names_in_trees es) (λ l known. constant_list_names params es l known) (item_names es)
    expr_names count_all = refl
    expr_names (aggregate a q e) = expr_names e
    expr_names (call f e) = behind (code e) (of_one (call f e) ∷ []) (names_in e) (expr_names e) refl
    expr_names (modulo a b) = both (code a) (code b ++ of_two (modulo a b) ∷ []) (names_in a) (names_in b) (expr_names a) (behind (code b) (of_two (modulo a b) ∷ []) (names_in b) (expr_names b) refl)
    expr_names (coalesce e es) = both (code e) (compiled_others columns names params es) (names_in e) (names_in_trees es) (expr_names e) (other_names es)
    expr_names (signed s e) = behind (code e) (of_one (signed s e) ∷ []) (names_in e) (expr_names e) refl
    expr_names (product e ls) = both (code e) (compiled_chain columns names params ls) (names_in e) (names_in_links ls) (expr_names e) (chain_names ls)
    expr_names (sum e ls) = both (code e) (compiled_chain columns names params ls) (names_in e) (names_in_links ls) (expr_names e) (chain_names ls)
    expr_names (comparing op a b) = both (code a) (code b ++ of_two (comparing op a b) ∷ []) (names_in a) (names_in b) (expr_names a) (behind (code b) (of_two (comparing op a b) ∷ []) (names_in b) (expr_names b) refl)
    expr_names (test e s q) = behind (code e) (of_one (test e s q) ∷ []) (names_in e) (expr_names e) refl
    expr_names (label_test e s l) = behind (code e) (of_one (label_test e s l) ∷ []) (names_in e) (expr_names e) refl
    expr_names (end_test e s which x) = both (code e) (held_name (places_among columns names x) x ∷ of_two (end_test e s which x) ∷ []) (names_in e) (x ∷ []) (expr_names e) refl
    expr_names (negation e) = behind (code e) (of_one (negation e) ∷ []) (names_in e) (expr_names e) refl
    expr_names (conjunction e ls) = both (code e) (as_truth ∷ compiled_all columns names params ls) (names_in e) (names_in_links ls) (expr_names e) (all_names ls)
    expr_names (disjunction e ls) = both (code e) (as_truth ∷ compiled_any columns names params ls) (names_in e) (names_in_links ls) (expr_names e) (or_names ls)

    pub item_names : (es : Trees) → Names (compiled_items columns names params es) (names_in_trees es)
    item_names no_trees = refl
    item_names (more_trees e es) = both (code e) (add_item ∷ compiled_items columns names params es) (names_in e) (names_in_trees es) (expr_names e) (item_names es)

    pub other_names : (es : Trees) → Names (compiled_others columns names params es) (names_in_trees es)
    other_names no_trees = refl
    other_names (more_trees e es) = both (code e) (compiled_others columns names params es) (names_in e) (names_in_trees es) (expr_names e) (other_names es)

    pub chain_names : (ls : Links) → Names (compiled_chain columns names params ls) (names_in_links ls)
    chain_names no_links = refl
    chain_names (more_links (link op e) ls) = both (code e) (join_side op ∷ compiled_chain columns names params ls) (names_in e) (names_in_links ls) (expr_names e) (chain_names ls)

    pub all_names : (ls : Links) → Names (compiled_all columns names params ls) (names_in_links ls)
    all_names no_links = refl
    all_names (more_links (link op e) ls) = both (code e) (join_all ∷ compiled_all columns names params ls) (names_in e) (names_in_links ls) (expr_names e) (all_names ls)

    pub or_names : (ls : Links) → Names (compiled_any columns names params ls) (names_in_links ls)
    or_names no_links = refl
    or_names (more_links (link op e) ls) =
        both (any_side op (code e ++ join_any op ∷ [])) (compiled_any columns names params ls) (names_in e) (names_in_links ls)
        (any_names (is_xor op) (length (code e ++ join_any op ∷ [])) (code e ++ join_any op ∷ []) ∙ behind (code e) (join_any op ∷ []) (names_in e) (expr_names e) refl) (or_names ls)

module _ (s : Scope) where
  abbrev at : List ℕ → Places × List ℕ
  at x = placed s.columns.now s.names.now [] x

  chosen : (b c : Bool) (x : List ℕ) (o : Option (Places × List ℕ)) (n : Option (List ℕ)) → b ≡ c → o ≡ option_map at n → cond b (Some (at x)) o ≡ option_map at (cond c (Some x) n)
  chosen true true x o n p q = refl
  chosen true false x o n p q = absurd (cc)
  chosen false true x o n p q = absurd (cc)
  chosen false false x o n p q = q

  -- the first that is a group
  find_placed : (ns : List (List ℕ)) → find (is_group_at s) (map at ns) ≡ option_map at (find (is_group_name (scope_of s)) ns)
  find_placed [] = refl
  find_placed (x ∷ ns) = chosen (is_group_at s (at x)) (is_group_name (scope_of s) x) x (find (is_group_at s) (map at ns)) (find (is_group_name (scope_of s)) ns) (group_is s x) (find_placed ns)

  held_of : (o : Option (List ℕ)) → option_map (held_pair s) (option_map at o) ≡ option_map (with_datum (datum_of_name (scope_of s))) o
  held_of None = refl
  held_of (Some x) = ap (λ d. Some (x, d)) (held_is s x)

  -- the group that the steps of an argument name first, with what it stands for
  pub group_held : (params : List (List ℕ × Datum)) (steps : List Op) (e : Tree) → steps ≡ compiled s.columns.now s.names.now params e
      → option_map (held_pair s) (find (is_group_at s) (names_held steps)) ≡ option_map (with_datum (datum_of_name (scope_of s))) (group_of (scope_of s) e)
  group_held params steps e same =
      ap (λ hs. option_map (held_pair s) (find (is_group_at s) hs)) (ap names_held same ∙ expr_names s.columns.now s.names.now params e)
      ∙ ap (λ o. option_map (held_pair s) o) (find_placed (names_in e))
      ∙ held_of (group_of (scope_of s) e)

-- the same, where there is one
pub pair_found : (f : List ℕ → Datum) (o : Option (List ℕ)) (h : List ℕ × Datum) → Some h ≡ option_map (with_datum f) o → (Some h.0 ≡ o) × (h.1 ≡ f h.0)
pair_found f None h p = absurd (cc)
pair_found f (Some y) h p = let same : h ≡ with_datum f y = some_same h (with_datum f y) p in (ap (λ (q : List ℕ × Datum). Some q.0) same, ap (λ (q : List ℕ × Datum). q.1) same ∙ ap (λ (q : List ℕ × Datum). f q.0) (sym same))

pub none_found : (f : List ℕ → Datum) (o : Option (List ℕ)) → None ≡ option_map (with_datum f) o → o ≡ None
none_found f None p = refl
none_found f (Some y) p = absurd (cc)
