-- Expressions and label expressions as parts of statements.
use Rattle.std.proofs.Common.{◌≡◌, ◌<◌, List, [], ◌∷◌, ℕ, length, Some, None, refl, ap, subst, arith}
use Rattle.gql_lexer.specs.declared.lexeme.Lexeme.{Lexeme}
use Rattle.gql_lexer.specs.declared.lexeme.Lexeme.TheVariants as lex
use Rattle.gql_values3.specs.Datum.{Datum, data_of, items_of, Data, no_data, more_data, null, boolean, integer, text, list, node, edge, path}
use Rattle.gql_values3.specs.Meaning.{datum_of}
use Rattle.gql_ast.specs.Tree.{Tree}
use Rattle.gql_ast.specs.Tree as tree
use Rattle.gql_ast.specs.Label.{Label, name, wildcard, paren, negation, conjunction, disjunction}
use Rattle.gql_ast.specs.LabelMeaning.{label_of}
use Rattle.gql_ast.specs.Meaning.{tree_of}
use Rattle.gql_ast.specs.declared.expr.Expr.{Expr}
use Rattle.gql_ast.specs.declared.label.LabelExpr.{LabelExpr}
use Rattle.gql_ast.proofs.LabelLemmas.{label_expr_of-label_of}
use Rattle.gql_ast.specs.LabelMeaning.{label_expr_of}
use Rattle.gql_ast.proofs.MeaningLemmas.{expr_of-tree_of}
use Rattle.gql_ast.specs.Meaning.{expr_of}
use Rattle.gql_values3.specs.Meaning.{as_value}
use Rattle.gql_lexer.specs.SymbolPlaces.{star}
use Rattle.gql_lexer.specs.WordPlaces.{ALL, DISTINCT, WHERE}
use Rattle.gql_front.specs.Reading.{is_word, is_sign, sequence, prefix, suffix}
use Rattle.gql_front.proofs.LexemeTests.{sign_is, word_is}
use Rattle.gql_front.proofs.Found.{Found, exact, longer, Sound, Shrinks, exact_at}
use Rattle.gql_exprs.specs.Grammar.{Is}
use Rattle.gql_exprs.specs.LabelGrammar.{IsLabel}
use Rattle.gql_exprs.specs.Machinery.LabelReaders.{read_label}
use Rattle.gql_exprs.specs.Machinery.Readers.{atom_of, signed_of, product_of, sum_of, comparison_of, test_of, not_of, and_of, or_of, read_to, read_expr}
use Rattle.gql_exprs.proofs.ExprChains.{trees_of-items_of_trees, links_of-items_of_links}
use Rattle.gql_exprs.proofs.ExprLists.{goes_or}
use Rattle.gql_exprs.proofs.ExprRead.{read_expr_reads, expr_sound, expr_complete}
use Rattle.gql_exprs.proofs.ExprShorter.{is_shorter}
use Rattle.gql_exprs.proofs.LabelLevels.{labels_listed-items_of_labels, goes_label, label_sound, label_complete, label_consumes}
use Rattle.gql_parts.specs.Values.{IsValue, IsLabels}
use Rattle.gql_parts.specs.Machinery.PartReaders.{read_value, read_labels}
use Rattle.gql_parts.proofs.PartLaws.{Stops}
use Rattle.gql_parts.proofs.MeantLaws.{made_sound, made_is, made_found}

-- Each tree is the meaning of an expression

data_of-items_of : (ds : Data) → data_of (items_of ds) ≡ ds
data_of-items_of no_data = refl
data_of-items_of (more_data d ds) = ap (λ z. more_data d z) (data_of-items_of ds)

datum_of-as_value : (d : Datum) → datum_of (as_value d) ≡ d
datum_of-as_value null = refl
datum_of-as_value (boolean b) = refl
datum_of-as_value (integer z) = refl
datum_of-as_value (text t) = refl
datum_of-as_value (list ds) = ap list (data_of-items_of ds)
datum_of-as_value (node n) = refl
datum_of-as_value (edge n) = refl
datum_of-as_value (path w) = refl

label_of-label_expr_of : (l : Label) → label_of (label_expr_of l) ≡ l
label_of-label_expr_of (name x) = refl
label_of-label_expr_of wildcard = refl
label_of-label_expr_of (paren e) = refl
label_of-label_expr_of (negation e) = refl
label_of-label_expr_of (conjunction e es) = ap (λ z. conjunction e z) (labels_listed-items_of_labels es)
label_of-label_expr_of (disjunction e es) = ap (λ z. disjunction e z) (labels_listed-items_of_labels es)

tree_of-expr_of : (e : Tree) → tree_of (expr_of e) ≡ e
tree_of-expr_of (tree.constant d) = ap tree.constant (datum_of-as_value d)
tree_of-expr_of (tree.listing es) = ap tree.listing (trees_of-items_of_trees es)
tree_of-expr_of (tree.coalesce e es) = ap (λ z. tree.coalesce e z) (trees_of-items_of_trees es)
tree_of-expr_of (tree.product e ls) = ap (λ z. tree.product e z) (links_of-items_of_links ls)
tree_of-expr_of (tree.sum e ls) = ap (λ z. tree.sum e z) (links_of-items_of_links ls)
tree_of-expr_of (tree.label_test e s l) = ap (λ z. tree.label_test e s z) (label_of-label_expr_of l)
tree_of-expr_of (tree.conjunction e ls) = ap (λ z. tree.conjunction e z) (links_of-items_of_links ls)
tree_of-expr_of (tree.disjunction e ls) = ap (λ z. tree.disjunction e z) (links_of-items_of_links ls)
tree_of-expr_of _ = refl

-- Expressions

pub value_sound : Sound IsValue read_value
unfolding read_value
value_sound = made_sound read_expr tree_of expr_of Is expr_sound (λ t ts r d. tree_of-expr_of t)

-- what a function of the code read
pub value_is : (ts : List Lexeme) (e : Expr) (r : List Lexeme) → read_expr ts ≡ Some (tree_of e, r) → read_value ts ≡ Some (e, r)
unfolding read_value
value_is = made_is read_expr tree_of expr_of expr_of-tree_of

pub value_found : (e : Expr) (ts s : List Lexeme) → IsValue e ts s → Found (read_value ts) goes_or e s
unfolding read_value
value_found e ts s h = made_found read_expr tree_of expr_of expr_of-tree_of goes_or ts e s (expr_complete (length ts) (tree_of e) ts s (omega arith) h)

pub value_exact : (e : Expr) (ts s : List Lexeme) → IsValue e ts s → Stops goes_or s → read_value ts ≡ Some (e, s)
value_exact e ts s h stop = exact_at (read_value ts) goes_or e s (value_found e ts s h) stop

pub value_shorter : (e : Expr) (ts r : List Lexeme) → IsValue e ts r → length r < length ts
value_shorter e ts r h = is_shorter (tree_of e) ts r h

pub value_shrinks : Shrinks read_value
value_shrinks ts x r e = value_shorter x ts r (value_sound ts x r e)

-- where nothing is read, no expression stands
nothing_stands : (e : Expr) (ts r : List Lexeme) → read_expr ts ≡ None → IsValue e ts r → ⊥
nothing_stands e ts r none h = go (expr_complete (length ts) (tree_of e) ts r (omega arith) h)
  where
    go : Found (read_expr ts) goes_or (tree_of e) r → ⊥
    go (exact q) = cc
    go (longer x s q l i) = cc

where_unread : (x : List ℕ) (ts : List Lexeme) → read_expr (lex.Word WHERE x ∷ ts) ≡ None
unfolding read_expr read_to or_of and_of not_of test_of comparison_of sum_of product_of signed_of atom_of sequence prefix suffix
where_unread x ts = refl

-- no expression begins with WHERE, `*`, ALL or DISTINCT
pub value_begins : (e : Expr) (ts r : List Lexeme) → IsValue e ts r
    → Stops (is_word WHERE) ts × Stops (is_sign star) ts × Stops (is_word ALL) ts × Stops (is_word DISTINCT) ts
value_begins e [] r h = (λ i. i, λ i. i, λ i. i, λ i. i)
value_begins e (t ∷ ts) r h = (
  λ i. let w = word_is WHERE t i in nothing_stands e (lex.Word WHERE w.0 ∷ ts) r (where_unread w.0 ts) (subst (λ z. IsValue e (z ∷ ts) r) w.1 h),
  λ i. nothing_stands e (lex.Sign star ∷ ts) r ((read_expr_reads 0).refuses_star ts) (subst (λ z. IsValue e (z ∷ ts) r) (sign_is star t i) h),
  λ i. let w = word_is ALL t i in nothing_stands e (lex.Word ALL w.0 ∷ ts) r ((read_expr_reads 0).refuses_all w.0 ts) (subst (λ z. IsValue e (z ∷ ts) r) w.1 h),
  λ i. let w = word_is DISTINCT t i in nothing_stands e (lex.Word DISTINCT w.0 ∷ ts) r ((read_expr_reads 0).refuses_distinct w.0 ts) (subst (λ z. IsValue e (z ∷ ts) r) w.1 h),
)

-- Label expressions

pub labels_sound : Sound IsLabels read_labels
unfolding read_labels
labels_sound = made_sound read_label label_of label_expr_of IsLabel label_sound (λ l ts r d. label_of-label_expr_of l)

-- what a function of the code read
pub labels_are : (ts : List Lexeme) (l : LabelExpr) (r : List Lexeme) → read_label ts ≡ Some (label_of l, r) → read_labels ts ≡ Some (l, r)
unfolding read_labels
labels_are = made_is read_label label_of label_expr_of label_expr_of-label_of

pub labels_found : (l : LabelExpr) (ts s : List Lexeme) → IsLabels l ts s → Found (read_labels ts) goes_label l s
unfolding read_labels
labels_found l ts s h = made_found read_label label_of label_expr_of label_expr_of-label_of goes_label ts l s (label_complete (length ts) (label_of l) ts s (omega arith) h)

pub labels_shorter : (l : LabelExpr) (ts r : List Lexeme) → IsLabels l ts r → length r < length ts
labels_shorter l ts r h = label_consumes (label_of l) ts r h

pub labels_shrink : Shrinks read_labels
labels_shrink ts x r e = labels_shorter x ts r (labels_sound ts x r e)
