-- Two expressions of one meaning are one expression: what means a tree can be read off from the tree.
use Rattle.std.proofs.Common.{◌≡◌, List, [], ◌∷◌, refl, ap, sym, ◌∙◌}
use Rattle.gql_values3.specs.Datum.{Datum, data_of, items_of}
use Rattle.gql_values3.specs.Meaning.{datum_of, as_value}
use Rattle.gql_values3.specs.declared.value.Value.{Value}
use Rattle.gql_values3.specs.declared.value.Value.TheVariants as value
use Rattle.gql_ast.proofs.LabelLemmas.{label_expr_of-label_of}
use Rattle.gql_ast.specs.Tree.{Tree, Link, trees_of, links_of, items_of_trees, items_of_links}
use Rattle.gql_ast.specs.Meaning.{tree_of, expr_of}
use Rattle.gql_ast.specs.declared.expr.Expr.{Expr}
use Rattle.gql_ast.specs.declared.expr.Expr.TheVariants as expr

pub items_of-data_of : (ds : List Datum) → items_of (data_of ds) ≡ ds
items_of-data_of [] = refl
items_of-data_of (d ∷ ds) = ap (λ xs. d ∷ xs) (items_of-data_of ds)

pub as_value-datum_of : (v : Value) → as_value (datum_of v) ≡ v
as_value-datum_of value.Null = refl
as_value-datum_of (value.Bool b) = refl
as_value-datum_of (value.Int z) = refl
as_value-datum_of (value.Text t) = refl
as_value-datum_of (value.List ds) = ap value.List (items_of-data_of ds)
as_value-datum_of (value.Node n) = refl
as_value-datum_of (value.Edge n) = refl
as_value-datum_of (value.Path w) = refl

pub items_of_trees-trees_of : (es : List Tree) → items_of_trees (trees_of es) ≡ es
items_of_trees-trees_of [] = refl
items_of_trees-trees_of (e ∷ es) = ap (λ xs. e ∷ xs) (items_of_trees-trees_of es)

pub items_of_links-links_of : (ls : List Link) → items_of_links (links_of ls) ≡ ls
items_of_links-links_of [] = refl
items_of_links-links_of (l ∷ ls) = ap (λ xs. l ∷ xs) (items_of_links-links_of ls)

pub expr_of-tree_of : (x : Expr) → expr_of (tree_of x) ≡ x
expr_of-tree_of (expr.Constant d) = ap (λ z. expr.Constant z) (as_value-datum_of d)
expr_of-tree_of expr.Unknown = refl
expr_of-tree_of (expr.Number n) = refl
expr_of-tree_of (expr.Parameter n) = refl
expr_of-tree_of (expr.Name n) = refl
expr_of-tree_of (expr.Property n p) = refl
expr_of-tree_of (expr.Paren e) = refl
expr_of-tree_of (expr.List es) = ap (λ z. expr.List z) (items_of_trees-trees_of es)
expr_of-tree_of expr.CountAll = refl
expr_of-tree_of (expr.Aggregate g s e) = refl
expr_of-tree_of (expr.Call f e) = refl
expr_of-tree_of (expr.Mod a b) = refl
expr_of-tree_of (expr.Coalesce e es) = ap (λ z. expr.Coalesce e z) (items_of_trees-trees_of es)
expr_of-tree_of (expr.Signed s e) = refl
expr_of-tree_of (expr.Product e ls) = ap (λ z. expr.Product e z) (items_of_links-links_of ls)
expr_of-tree_of (expr.Sum e ls) = ap (λ z. expr.Sum e z) (items_of_links-links_of ls)
expr_of-tree_of (expr.Compare op a b) = refl
expr_of-tree_of (expr.Is e s q) = refl
expr_of-tree_of (expr.IsLabeled e s l) = ap (λ z. expr.IsLabeled e s z) (label_expr_of-label_of l)
expr_of-tree_of (expr.IsEnd e s end n) = refl
expr_of-tree_of (expr.Not e) = refl
expr_of-tree_of (expr.And e ls) = ap (λ z. expr.And e z) (items_of_links-links_of ls)
expr_of-tree_of (expr.Or e ls) = ap (λ z. expr.Or e z) (items_of_links-links_of ls)

pub tree_of-injective : (x y : Expr) → tree_of x ≡ tree_of y → x ≡ y
tree_of-injective x y same = sym (expr_of-tree_of x) ∙ ap expr_of same ∙ expr_of-tree_of y
