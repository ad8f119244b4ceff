-- How the logic tells expressions apart: each has a code of its own.
use Rattle.std.specs.Prelude.{◌≡◌, refl}
use Rattle.std.specs.Coded.{Coded}
use Rattle.std.proofs.Common.{ap}
use base.Stored.{Gv, gnil, gnum, gcons}
use Rattle.gql_values3.specs.Datum.{coded_datum}
use Rattle.gql_values3.specs.contracts.comparison.Comparison as comparison
use Rattle.gql_ast.specs.Machinery.CodeParts.{coded_bytes, head, tail, tag, shape, apart}
use Rattle.gql_ast.specs.Machinery.LabelCode.{coded_label}
use Rattle.gql_ast.specs.Tree.{Tree, Trees, Link, Links, constant, unknown, number, parameter, name, property, paren, listing, count_all, aggregate, call, modulo, coalesce, signed, product, sum, comparing, test, label_test, end_test, negation, conjunction, disjunction, link, no_trees, more_trees, no_links, more_links}
use Rattle.gql_ast.specs.contracts.words.Aggregate as aggregates
use Rattle.gql_ast.specs.contracts.words.EdgeEnd as ends
use Rattle.gql_ast.specs.contracts.words.Function as functions
use Rattle.gql_ast.specs.contracts.words.Operator as operators
use Rattle.gql_ast.specs.contracts.words.Quality as qualities
use Rattle.gql_ast.specs.contracts.words.Sense as senses
use Rattle.gql_ast.specs.contracts.words.SetQuantifier as quantifiers
use Rattle.gql_ast.specs.contracts.words.Sign as signs

abbrev mutual
  pub tree_code : Tree → Gv
  tree_code (constant a0) = gcons (gnum 0) (coded_datum.code a0)
  tree_code unknown = gcons (gnum 1) gnil
  tree_code (number a0) = gcons (gnum 2) (coded_bytes.code a0)
  tree_code (parameter a0) = gcons (gnum 3) (coded_bytes.code a0)
  tree_code (name a0) = gcons (gnum 4) (coded_bytes.code a0)
  tree_code (property a0 a1) = gcons (gnum 5) (gcons (coded_bytes.code a0) (coded_bytes.code a1))
  tree_code (paren a0) = gcons (gnum 6) (tree_code a0)
  tree_code (listing a0) = gcons (gnum 7) (trees_code a0)
  tree_code count_all = gcons (gnum 8) gnil
  tree_code (aggregate a0 a1 a2) = gcons (gnum 9) (gcons (aggregates.the_row.coded.code a0) (gcons (quantifiers.the_row.coded.code a1) (tree_code a2)))
  tree_code (call a0 a1) = gcons (gnum 10) (gcons (functions.the_row.coded.code a0) (tree_code a1))
  tree_code (modulo a0 a1) = gcons (gnum 11) (gcons (tree_code a0) (tree_code a1))
  tree_code (coalesce a0 a1) = gcons (gnum 12) (gcons (tree_code a0) (trees_code a1))
  tree_code (signed a0 a1) = gcons (gnum 13) (gcons (signs.the_row.coded.code a0) (tree_code a1))
  tree_code (product a0 a1) = gcons (gnum 14) (gcons (tree_code a0) (links_code a1))
  tree_code (sum a0 a1) = gcons (gnum 15) (gcons (tree_code a0) (links_code a1))
  tree_code (comparing a0 a1 a2) = gcons (gnum 16) (gcons (comparison.the_row.coded.code a0) (gcons (tree_code a1) (tree_code a2)))
  tree_code (test a0 a1 a2) = gcons (gnum 17) (gcons (tree_code a0) (gcons (senses.the_row.coded.code a1) (qualities.the_row.coded.code a2)))
  tree_code (label_test a0 a1 a2) = gcons (gnum 18) (gcons (tree_code a0) (gcons (senses.the_row.coded.code a1) (coded_label.code a2)))
  tree_code (end_test a0 a1 a2 a3) = gcons (gnum 19) (gcons (tree_code a0) (gcons (senses.the_row.coded.code a1) (gcons (ends.the_row.coded.code a2) (coded_bytes.code a3))))
  tree_code (negation a0) = gcons (gnum 20) (tree_code a0)
  tree_code (conjunction a0 a1) = gcons (gnum 21) (gcons (tree_code a0) (links_code a1))
  tree_code (disjunction a0 a1) = gcons (gnum 22) (gcons (tree_code a0) (links_code a1))

  pub link_code : Link → Gv
  link_code (link a0 a1) = gcons (gnum 0) (gcons (operators.the_row.coded.code a0) (tree_code a1))

  pub trees_code : Trees → Gv
  trees_code no_trees = gnil
  trees_code (more_trees x xs) = gcons (tree_code x) (trees_code xs)

  pub links_code : Links → Gv
  links_code no_links = gnil
  links_code (more_links x xs) = gcons (link_code x) (links_code xs)

-- two values of one code are one value
mutual
  pub tree_inj : (x y : Tree) → tree_code x ≡ tree_code y → x ≡ y
  tree_inj (constant a0) (constant b0) p = λ i. constant (coded_datum.inj a0 b0 (ap (λ g. tail g) p) i)
  tree_inj (constant a0) _ p = absurd (apart tag p refl)
  tree_inj unknown unknown p = refl
  tree_inj unknown _ p = absurd (apart tag p refl)
  tree_inj (number a0) (number b0) p = λ i. number (coded_bytes.inj a0 b0 (ap (λ g. tail g) p) i)
  tree_inj (number a0) _ p = absurd (apart tag p refl)
  tree_inj (parameter a0) (parameter b0) p = λ i. parameter (coded_bytes.inj a0 b0 (ap (λ g. tail g) p) i)
  tree_inj (parameter a0) _ p = absurd (apart tag p refl)
  tree_inj (name a0) (name b0) p = λ i. name (coded_bytes.inj a0 b0 (ap (λ g. tail g) p) i)
  tree_inj (name a0) _ p = absurd (apart tag p refl)
  tree_inj (property a0 a1) (property b0 b1) p = λ i. property (coded_bytes.inj a0 b0 (ap (λ g. head (tail g)) p) i) (coded_bytes.inj a1 b1 (ap (λ g. tail (tail g)) p) i)
  tree_inj (property a0 a1) _ p = absurd (apart tag p refl)
  tree_inj (paren a0) (paren b0) p = λ i. paren (tree_inj a0 b0 (ap (λ g. tail g) p) i)
  tree_inj (paren a0) _ p = absurd (apart tag p refl)
  tree_inj (listing a0) (listing b0) p = λ i. listing (trees_inj a0 b0 (ap (λ g. tail g) p) i)
  tree_inj (listing a0) _ p = absurd (apart tag p refl)
  tree_inj count_all count_all p = refl
  tree_inj count_all _ p = absurd (apart tag p refl)
  tree_inj (aggregate a0 a1 a2) (aggregate b0 b1 b2) p = λ i. aggregate (aggregates.the_row.coded.inj a0 b0 (ap (λ g. head (tail g)) p) i) (quantifiers.the_row.coded.inj a1 b1 (ap (λ g. head (tail (tail g))) p) i) (tree_inj a2 b2 (ap (λ g. tail (tail (tail g))) p) i)
  tree_inj (aggregate a0 a1 a2) _ p = absurd (apart tag p refl)
  tree_inj (call a0 a1) (call b0 b1) p = λ i. call (functions.the_row.coded.inj a0 b0 (ap (λ g. head (tail g)) p) i) (tree_inj a1 b1 (ap (λ g. tail (tail g)) p) i)
  tree_inj (call a0 a1) _ p = absurd (apart tag p refl)
  tree_inj (modulo a0 a1) (modulo b0 b1) p = λ i. modulo (tree_inj a0 b0 (ap (λ g. head (tail g)) p) i) (tree_inj a1 b1 (ap (λ g. tail (tail g)) p) i)
  tree_inj (modulo a0 a1) _ p = absurd (apart tag p refl)
  tree_inj (coalesce a0 a1) (coalesce b0 b1) p = λ i. coalesce (tree_inj a0 b0 (ap (λ g. head (tail g)) p) i) (trees_inj a1 b1 (ap (λ g. tail (tail g)) p) i)
  tree_inj (coalesce a0 a1) _ p = absurd (apart tag p refl)
  tree_inj (signed a0 a1) (signed b0 b1) p = λ i. signed (signs.the_row.coded.inj a0 b0 (ap (λ g. head (tail g)) p) i) (tree_inj a1 b1 (ap (λ g. tail (tail g)) p) i)
  tree_inj (signed a0 a1) _ p = absurd (apart tag p refl)
  tree_inj (product a0 a1) (product b0 b1) p = λ i. product (tree_inj a0 b0 (ap (λ g. head (tail g)) p) i) (links_inj a1 b1 (ap (λ g. tail (tail g)) p) i)
  tree_inj (product a0 a1) _ p = absurd (apart tag p refl)
  tree_inj (sum a0 a1) (sum b0 b1) p = λ i. sum (tree_inj a0 b0 (ap (λ g. head (tail g)) p) i) (links_inj a1 b1 (ap (λ g. tail (tail g)) p) i)
  tree_inj (sum a0 a1) _ p = absurd (apart tag p refl)
  tree_inj (comparing a0 a1 a2) (comparing b0 b1 b2) p = λ i. comparing (comparison.the_row.coded.inj a0 b0 (ap (λ g. head (tail g)) p) i) (tree_inj a1 b1 (ap (λ g. head (tail (tail g))) p) i) (tree_inj a2 b2 (ap (λ g. tail (tail (tail g))) p) i)
  tree_inj (comparing a0 a1 a2) _ p = absurd (apart tag p refl)
  tree_inj (test a0 a1 a2) (test b0 b1 b2) p = λ i. test (tree_inj a0 b0 (ap (λ g. head (tail g)) p) i) (senses.the_row.coded.inj a1 b1 (ap (λ g. head (tail (tail g))) p) i) (qualities.the_row.coded.inj a2 b2 (ap (λ g. tail (tail (tail g))) p) i)
  tree_inj (test a0 a1 a2) _ p = absurd (apart tag p refl)
  tree_inj (label_test a0 a1 a2) (label_test b0 b1 b2) p = λ i. label_test (tree_inj a0 b0 (ap (λ g. head (tail g)) p) i) (senses.the_row.coded.inj a1 b1 (ap (λ g. head (tail (tail g))) p) i) (coded_label.inj a2 b2 (ap (λ g. tail (tail (tail g))) p) i)
  tree_inj (label_test a0 a1 a2) _ p = absurd (apart tag p refl)
  tree_inj (end_test a0 a1 a2 a3) (end_test b0 b1 b2 b3) p = λ i. end_test (tree_inj a0 b0 (ap (λ g. head (tail g)) p) i) (senses.the_row.coded.inj a1 b1 (ap (λ g. head (tail (tail g))) p) i) (ends.the_row.coded.inj a2 b2 (ap (λ g. head (tail (tail (tail g)))) p) i) (coded_bytes.inj a3 b3 (ap (λ g. tail (tail (tail (tail g)))) p) i)
  tree_inj (end_test a0 a1 a2 a3) _ p = absurd (apart tag p refl)
  tree_inj (negation a0) (negation b0) p = λ i. negation (tree_inj a0 b0 (ap (λ g. tail g) p) i)
  tree_inj (negation a0) _ p = absurd (apart tag p refl)
  tree_inj (conjunction a0 a1) (conjunction b0 b1) p = λ i. conjunction (tree_inj a0 b0 (ap (λ g. head (tail g)) p) i) (links_inj a1 b1 (ap (λ g. tail (tail g)) p) i)
  tree_inj (conjunction a0 a1) _ p = absurd (apart tag p refl)
  tree_inj (disjunction a0 a1) (disjunction b0 b1) p = λ i. disjunction (tree_inj a0 b0 (ap (λ g. head (tail g)) p) i) (links_inj a1 b1 (ap (λ g. tail (tail g)) p) i)
  tree_inj (disjunction a0 a1) _ p = absurd (apart tag p refl)

  pub link_inj : (x y : Link) → link_code x ≡ link_code y → x ≡ y
  link_inj (link a0 a1) (link b0 b1) p = λ i. link (operators.the_row.coded.inj a0 b0 (ap (λ g. head (tail g)) p) i) (tree_inj a1 b1 (ap (λ g. tail (tail g)) p) i)

  pub trees_inj : (x y : Trees) → trees_code x ≡ trees_code y → x ≡ y
  trees_inj no_trees no_trees p = refl
  trees_inj no_trees _ p = absurd (apart shape p refl)
  trees_inj (more_trees x xs) (more_trees y ys) p = λ i. more_trees (tree_inj x y (ap (λ g. head g) p) i) (trees_inj xs ys (ap (λ g. tail g) p) i)
  trees_inj (more_trees x xs) _ p = absurd (apart shape p refl)

  pub links_inj : (x y : Links) → links_code x ≡ links_code y → x ≡ y
  links_inj no_links no_links p = refl
  links_inj no_links _ p = absurd (apart shape p refl)
  links_inj (more_links x xs) (more_links y ys) p = λ i. more_links (link_inj x y (ap (λ g. head g) p) i) (links_inj xs ys (ap (λ g. tail g) p) i)
  links_inj (more_links x xs) _ p = absurd (apart shape p refl)

abbrev pub coded_tree : Coded Tree
coded_tree = record { code = tree_code; inj = tree_inj }

abbrev pub coded_link : Coded Link
coded_link = record { code = link_code; inj = link_inj }
