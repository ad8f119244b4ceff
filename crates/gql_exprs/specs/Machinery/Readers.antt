-- Reading expressions: what stands at the front of lexemes, and what is left. f reads one inside brackets.
use Rattle.std.specs.Prelude.{ℕ, zero, suc, nat_eq, cond, List, [], ◌∷◌, length, Option, Some, None, true, false}
use Rattle.gql_lexer.specs.declared.lexeme.Lexeme.{Lexeme}
use Rattle.gql_lexer.specs.declared.lexeme.Lexeme.TheVariants as lex
use Rattle.gql_values3.specs.Datum.{null, boolean, text}
use Rattle.gql_ast.specs.Tree.{Tree, Link, Links, trees_of, constant, unknown, number, parameter, paren, listing, count_all, aggregate, call, modulo, coalesce, signed, product, sum, conjunction, disjunction, link}
use Rattle.gql_ast.specs.declared.words.Aggregate.{Aggregate}
use Rattle.gql_ast.specs.declared.words.Function.{Function}
use Rattle.gql_ast.specs.declared.words.Operator.{Operator}
use Rattle.gql_exprs.specs.declared.atom_word.AtomWord.{AtomWord}
use Rattle.gql_exprs.specs.declared.atom_word.AtomWord.TheVariants as atom
use Rattle.gql_exprs.specs.declared.chain.Chain.{Chain}
use Rattle.gql_exprs.specs.declared.chain.Chain.TheVariants as level
use Rattle.gql_lexer.specs.SymbolPlaces.{opening, closing, opening_bracket, closing_bracket, comma}
use Rattle.gql_front.specs.Tables.{entry}
use Rattle.gql_front.specs.Reading.{◌>>=◌, Reader, is_sign, after, step, many, chain, prefix, suffix}
use Rattle.gql_exprs.specs.ExprWords.{or_op, and_op, sum_op, product_op, sign_op, comparison_op, atom_words}
use Rattle.gql_exprs.specs.Machinery.LeafReaders.{comma_op, not_op, operand, negated, compared, other_side, tested, items, chain_or_side, named, quantifier_of, ending, star_of}

module _ (f : Reader Tree) where
  -- Expr ")"
  unfoldable pub closed_of : Reader Tree
  closed_of ts = do
    e ← f ts
    r ← after (is_sign closing) e.1
    Some (e.0, r)

  -- "(" Expr ")", behind the opening one
  unfoldable pub paren_of : Reader Tree
  paren_of ts = do
    e ← closed_of ts
    Some (paren e.0, e.1)

  -- Expr {"," Expr}*
  unfoldable pub list_of : Reader (List Tree)
  list_of ts = chain comma_op f operand items ts

  -- [list(Expr)] "]", behind the opening one
  abbrev pub empty_or_items : List Lexeme → Option (List Lexeme) → Option (Tree × List Lexeme)
  empty_or_items ts (Some r) = Some (listing (trees_of []), r)
  empty_or_items ts None = do
    es ← list_of ts
    r ← after (is_sign closing_bracket) es.1
    Some (listing (trees_of es.0), r)

  unfoldable pub listing_of : Reader Tree
  listing_of ts = empty_or_items ts (after (is_sign closing_bracket) ts)

  -- behind LIST
  unfoldable pub word_listing_of : Reader Tree
  word_listing_of ts = do
    a ← after (is_sign opening_bracket) ts
    listing_of a

  -- behind the opening parenthesis of an aggregate
  abbrev pub all_or_item : Aggregate → List Lexeme → Option (List Lexeme) → Option (Tree × List Lexeme)
  all_or_item g ts (Some a) = do
    r ← after (is_sign closing) a
    Some (count_all, r)
  all_or_item g ts None = do
    e ← closed_of (quantifier_of ts).1
    Some (aggregate g (quantifier_of ts).0 e.0, e.1)

  -- behind the word of an aggregate
  unfoldable pub aggregate_of : Aggregate → Reader Tree
  aggregate_of g ts = do
    a ← after (is_sign opening) ts
    all_or_item g a (star_of g a)

  -- behind the word of a function
  unfoldable pub call_of : Function → Reader Tree
  call_of c ts = do
    a ← after (is_sign opening) ts
    e ← closed_of a
    Some (call c e.0, e.1)

  -- Expr ",", behind an opening parenthesis
  unfoldable pub expr_before_comma_of : Reader Tree
  expr_before_comma_of ts = do
    a ← after (is_sign opening) ts
    e ← f a
    r ← after (is_sign comma) e.1
    Some (e.0, r)

  -- behind MOD
  unfoldable pub modulo_of : Reader Tree
  modulo_of ts = do
    e ← expr_before_comma_of ts
    d ← closed_of e.1
    Some (modulo e.0 d.0, d.1)

  -- behind COALESCE
  unfoldable pub coalesce_of : Reader Tree
  coalesce_of ts = do
    e ← expr_before_comma_of ts
    es ← list_of e.1
    r ← after (is_sign closing) es.1
    Some (coalesce e.0 (trees_of es.0), r)

  -- behind a word that begins an atom
  abbrev pub word_atom_of : AtomWord → Reader Tree
  word_atom_of atom.True ts = Some (constant (boolean true), ts)
  word_atom_of atom.False ts = Some (constant (boolean false), ts)
  word_atom_of atom.Unknown ts = Some (unknown, ts)
  word_atom_of atom.Null ts = Some (constant null, ts)
  word_atom_of atom.List ts = word_listing_of ts
  word_atom_of (atom.Aggregate g) ts = aggregate_of g ts
  word_atom_of (atom.Call c) ts = call_of c ts
  word_atom_of atom.Mod ts = modulo_of ts
  word_atom_of atom.Coalesce ts = coalesce_of ts

  unfoldable pub atom_of : Reader Tree
  atom_of [] = None
  atom_of (lex.Number digits ∷ r) = Some (number digits, r)
  atom_of (lex.Chars x ∷ r) = Some (constant (text x), r)
  atom_of (lex.Param x ∷ r) = Some (parameter x, r)
  atom_of (lex.Name x ∷ r) = named x r
  atom_of (lex.Sign place ∷ r) = cond (nat_eq place opening) (paren_of r) (cond (nat_eq place opening_bracket) (listing_of r) None)
  atom_of (lex.Word place written ∷ r) = entry atom_words place >>= λ w. word_atom_of w r

  unfoldable pub signed_of : Reader Tree
  signed_of = prefix sign_op signed atom_of

  unfoldable pub product_of : Reader Tree
  product_of = chain product_op signed_of link (chain_or_side product)

  unfoldable pub sum_of : Reader Tree
  sum_of = chain sum_op product_of link (chain_or_side sum)

  unfoldable pub comparison_of : Reader Tree
  comparison_of = suffix (step comparison_op sum_of other_side) compared sum_of

  unfoldable pub test_of : Reader Tree
  test_of = suffix ending tested comparison_of

  unfoldable pub not_of : Reader Tree
  not_of = prefix not_op negated test_of

  unfoldable pub and_of : Reader Tree
  and_of = chain and_op not_of link (chain_or_side conjunction)

  unfoldable pub or_of : Reader Tree
  or_of = chain or_op and_of link (chain_or_side disjunction)

-- as deep as a number says
unfoldable pub read_to : ℕ → Reader Tree
read_to zero ts = None
read_to (suc n) ts = or_of (read_to n) ts

-- an expression: no brackets are nested deeper than there are lexemes
unfoldable pub read_expr : Reader Tree
read_expr ts = read_to (suc (length ts)) ts

-- the four chains: their operators, what they make, and the readers of a side, of the further sides and of the whole
abbrev pub operator_in : Chain → Lexeme → Option Operator
operator_in level.Or = or_op
operator_in level.And = and_op
operator_in level.Sum = sum_op
operator_in level.Product = product_op

abbrev pub chain_tree : Chain → Tree → Links → Tree
chain_tree level.Or = disjunction
chain_tree level.And = conjunction
chain_tree level.Sum = sum
chain_tree level.Product = product

abbrev pub side_of : Chain → Reader Tree → Reader Tree
side_of level.Or f = and_of f
side_of level.And f = not_of f
side_of level.Sum f = product_of f
side_of level.Product f = signed_of f

unfoldable pub steps_of : Chain → Reader Tree → List Lexeme → List Link × List Lexeme
steps_of c f ts = many (step (operator_in c) (side_of c f) link) (length ts) ts

abbrev pub chain_of : Chain → Reader Tree → Reader Tree
chain_of level.Or f = or_of f
chain_of level.And f = and_of f
chain_of level.Sum f = sum_of f
chain_of level.Product f = product_of f
