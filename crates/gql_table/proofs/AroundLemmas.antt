-- The aggregates over rows of an expression, and the expression around them: steps over its parts.
use Rattle.std.proofs.Common.{◌≡◌, ℕ, ◌+◌, ◌<◌, ◌≤◌, List, [], ◌∷◌, ◌++◌, length, map, get_or, refl, sym, ap, ◌∙◌, arith, append_assoc, length-append}
use Rattle.std.proofs.lemmas.List.{drop_all}
use Rattle.gql_ast.specs.Tree.{Tree, Trees, Link, Links, link, trees_of, links_of, no_trees, more_trees, no_links, more_links}
use Rattle.gql_ast.specs.Meaning.{tree_of, link_of}
use Rattle.gql_ast.specs.RowAggregates.{RowAggregate, row_aggregates, row_aggregates_of, row_aggregates_in, around, around_all, around_links}
use Rattle.gql_ast.specs.declared.expr.Expr.{Expr}
use Rattle.gql_ast.specs.declared.expr.Step.{Step}
use Rattle.gql_ast.proofs.PartLemmas.{parts_from, sides_from, parts_step, sides_step}
use Rattle.gql_ast.specs.ClauseColumns.{ColumnList}

-- of two parts
pub both_counted : (xs ys : List RowAggregate) → length (xs ++ ys) ≡ length xs + length ys
both_counted xs ys = length-append xs ys

pub both_added : (done xs ys : List RowAggregate) → done ++ (xs ++ ys) ≡ (done ++ xs) ++ ys
both_added done xs ys = sym (append_assoc done xs ys)

-- trees, and then more
abbrev pub trees_then : List Tree → Trees → Trees
trees_then [] ts = ts
trees_then (e ∷ es) ts = more_trees e (trees_then es ts)

pub trees_then_none : (es : List Tree) → trees_then es no_trees ≡ trees_of es
trees_then_none [] = refl
trees_then_none (e ∷ es) = ap (λ ts. more_trees e ts) (trees_then_none es)

pub trees_then_one : (es : List Tree) (e : Tree) (ts : Trees) → trees_then (es ++ e ∷ []) ts ≡ trees_then es (more_trees e ts)
trees_then_one [] e ts = refl
trees_then_one (d ∷ es) e ts = ap (λ us. more_trees d us) (trees_then_one es e ts)

abbrev pub links_then : List Link → Links → Links
links_then [] ls = ls
links_then (l ∷ ls) ms = more_links l (links_then ls ms)

pub links_then_none : (ls : List Link) → links_then ls no_links ≡ links_of ls
links_then_none [] = refl
links_then_none (l ∷ ls) = ap (λ ms. more_links l ms) (links_then_none ls)

pub links_then_one : (ls : List Link) (l : Link) (ms : Links) → links_then (ls ++ l ∷ []) ms ≡ links_then ls (more_links l ms)
links_then_one [] l ms = refl
links_then_one (k ∷ ls) l ms = ap (λ ns. more_links k ns) (links_then_one ls l ms)

module _ (columns : ColumnList) where
  -- the number behind an expression, whose results are counted from n on
  abbrev pub number_behind : ℕ → Tree → ℕ
  number_behind n e = n + length (row_aggregates columns e)

  -- the number behind the parts from i on
  abbrev pub number_behind_parts : ℕ → List Expr → ℕ → ℕ
  number_behind_parts n parts i = n + length (row_aggregates_of columns (parts_from parts i))

  abbrev pub number_behind_sides : ℕ → List Step → ℕ → ℕ
  number_behind_sides n steps i = n + length (row_aggregates_in columns (sides_from steps i))

  -- what is made, and then the parts from i on
  abbrev pub around_parts : List Tree → ℕ → List Expr → ℕ → Trees
  around_parts made n parts i = trees_then made (around_all columns n (parts_from parts i))

  abbrev pub around_sides : List Link → ℕ → List Step → ℕ → Links
  around_sides made n steps i = links_then made (around_links columns n (sides_from steps i))

  -- what is found, and then in the parts from i on
  abbrev pub found_parts : List RowAggregate → List Expr → ℕ → List RowAggregate
  found_parts done parts i = done ++ row_aggregates_of columns (parts_from parts i)

  abbrev pub found_sides : List RowAggregate → List Step → ℕ → List RowAggregate
  found_sides done steps i = done ++ row_aggregates_in columns (sides_from steps i)

  counted_then : (n : ℕ) (xs ys : List RowAggregate) → n + length (xs ++ ys) ≡ (n + length xs) + length ys
  counted_then n xs ys = omega (arith, length-append xs ys)

  -- a part is done
  pub counted_part : (n m : ℕ) (parts : List Expr) (i : ℕ) (e : Expr) → i < length parts → e ≡ get_or parts i e → m ≡ number_behind n (tree_of e)
      → number_behind_parts m parts (i + 1) ≡ number_behind_parts n parts i
  unfolding row_aggregates
  counted_part n m parts i e h p q =
      ap (λ k. number_behind_parts k parts (i + 1)) q
      ∙ sym (counted_then n (row_aggregates columns (tree_of e)) (row_aggregates_of columns (parts_from parts (i + 1))))
      ∙ ap (λ ts. n + length (row_aggregates_of columns ts)) (sym (parts_step parts i e h p))

  pub counted_side : (n m : ℕ) (steps : List Step) (i : ℕ) (s : Step) → i < length steps → s ≡ get_or steps i s → m ≡ number_behind n (tree_of s.operand)
      → number_behind_sides m steps (i + 1) ≡ number_behind_sides n steps i
  unfolding row_aggregates
  counted_side n m steps i s h p q =
      ap (λ k. number_behind_sides k steps (i + 1)) q
      ∙ sym (counted_then n (row_aggregates columns (tree_of s.operand)) (row_aggregates_in columns (sides_from steps (i + 1))))
      ∙ ap (λ ls. n + length (row_aggregates_in columns ls)) (sym (sides_step steps i s h p))

  pub replaced_part : (made : List Tree) (t : Tree) (n m : ℕ) (parts : List Expr) (i : ℕ) (e : Expr) → i < length parts → e ≡ get_or parts i e
      → t ≡ around columns n (tree_of e) → m ≡ number_behind n (tree_of e)
      → around_parts (made ++ t ∷ []) m parts (i + 1) ≡ around_parts made n parts i
  unfolding around
  replaced_part made t n m parts i e h p q r =
      trees_then_one made t (around_all columns m (parts_from parts (i + 1)))
      ∙ ap (λ u. trees_then made (more_trees u (around_all columns m (parts_from parts (i + 1))))) q
      ∙ ap (λ k. trees_then made (more_trees (around columns n (tree_of e)) (around_all columns k (parts_from parts (i + 1))))) r
      ∙ ap (λ ts. trees_then made (around_all columns n ts)) (sym (parts_step parts i e h p))

  pub replaced_side : (made : List Link) (l : Link) (n m : ℕ) (steps : List Step) (i : ℕ) (s : Step) → i < length steps → s ≡ get_or steps i s
      → l ≡ link s.operator (around columns n (tree_of s.operand)) → m ≡ number_behind n (tree_of s.operand)
      → around_sides (made ++ l ∷ []) m steps (i + 1) ≡ around_sides made n steps i
  unfolding around
  replaced_side made l n m steps i s h p q r =
      links_then_one made l (around_links columns m (sides_from steps (i + 1)))
      ∙ ap (λ k. links_then made (more_links k (around_links columns m (sides_from steps (i + 1))))) q
      ∙ ap (λ k. links_then made (more_links (link s.operator (around columns n (tree_of s.operand))) (around_links columns k (sides_from steps (i + 1))))) r
      ∙ ap (λ ls. links_then made (around_links columns n ls)) (sym (sides_step steps i s h p))

  -- every part is done
  pub replaced_parts : (made : List Tree) (n : ℕ) (parts : List Expr) (i : ℕ) → length parts ≤ i → around_parts made n parts i ≡ trees_of made
  unfolding around
  replaced_parts made n parts i h = ap (λ es. trees_then made (around_all columns n (trees_of (map tree_of es)))) (drop_all i parts h) ∙ trees_then_none made

  pub replaced_sides : (made : List Link) (n : ℕ) (steps : List Step) (i : ℕ) → length steps ≤ i → around_sides made n steps i ≡ links_of made
  unfolding around
  replaced_sides made n steps i h = ap (λ ss. links_then made (around_links columns n (links_of (map link_of ss)))) (drop_all i steps h) ∙ links_then_none made
