-- Reading an expression finds the longest front that derives one, with its one tree. The knot is tied here: the reader
-- inside brackets is the reader itself.
use Rattle.std.proofs.Common.{◌≡◌, ℕ, zero, suc, ◌≤◌, List, [], ◌∷◌, length, refl, sym, ap, ◌∙◌, arith}
use Rattle.gql_lexer.specs.declared.lexeme.Lexeme.{Lexeme}
use Rattle.gql_lexer.specs.declared.lexeme.Lexeme.TheVariants as lex
use Rattle.gql_ast.specs.Tree.{Tree, signed}
use Rattle.gql_lexer.specs.SymbolPlaces.{closing_bracket, star}
use Rattle.gql_lexer.specs.WordPlaces.{ALL, DISTINCT}
use Rattle.gql_front.specs.Longest.{Longest}
use Rattle.gql_front.specs.Reading.{sequence, prefix, suffix}
use Rattle.gql_front.proofs.Agree.{agree, is_longest}
use Rattle.gql_front.proofs.Found.{Found, exact, longer, Sound, Complete, some_is}
use Rattle.gql_exprs.specs.Grammar.{rank, at_or, Is, Derives}
use Rattle.gql_exprs.specs.Machinery.Readers.{atom_of, signed_of, product_of, sum_of, comparison_of, test_of, not_of, and_of, or_of, read_to, read_expr}
use Rattle.gql_exprs.proofs.ExprLists.{goes_or, Inner}
use Rattle.gql_exprs.proofs.ExprLevels.{or_reads}

rank_le : (x : Tree) → rank x ≤ at_or
rank_le (signed s e) = omega arith
rank_le _ = omega arith

read_to_reads : (n : ℕ) → Inner n (read_to n)
unfolding read_to or_of and_of not_of test_of comparison_of sum_of product_of signed_of atom_of sequence prefix suffix
read_to_reads zero = record {
  sound = λ ts x r e. absurd cc;
  complete = λ y ts s le h. absurd (omega arith);
  refuses_bracket = λ s. refl;
  refuses_star = λ s. refl;
  refuses_all = λ x s. refl;
  refuses_distinct = λ x s. refl;
}
read_to_reads (suc n) = record {
  sound = λ ts x r e. ((or_reads n (read_to n) (read_to_reads n)).sound ts x r e).derived;
  complete = λ y ts s le h. (or_reads n (read_to n) (read_to_reads n)).complete y ts s (omega arith) (record { ranked = rank_le y; derived = h });
  refuses_bracket = λ s. refl;
  refuses_star = λ s. refl;
  refuses_all = λ x s. refl;
  refuses_distinct = λ x s. refl;
}

pub read_expr_reads : (n : ℕ) → Inner n read_expr
unfolding read_expr
read_expr_reads n = record {
  sound = λ ts. (read_to_reads (suc (length ts))).sound ts;
  complete = λ y ts s le h. (read_to_reads (suc (length ts))).complete y ts s (omega arith) h;
  refuses_bracket = λ s. (read_to_reads (suc (length (lex.Sign closing_bracket ∷ s)))).refuses_bracket s;
  refuses_star = λ s. (read_to_reads (suc (length (lex.Sign star ∷ s)))).refuses_star s;
  refuses_all = λ x s. (read_to_reads (suc (length (lex.Word ALL x ∷ s)))).refuses_all x s;
  refuses_distinct = λ x s. (read_to_reads (suc (length (lex.Word DISTINCT x ∷ s)))).refuses_distinct x s;
}

-- What other grammars cite

-- what is read derives
pub expr_sound : Sound Is read_expr
expr_sound ts = (read_expr_reads (suc (length ts))).sound ts

-- what derives is read, or more is; goes_or has the lexemes with which an expression may go on
pub expr_complete : (n : ℕ) → Complete n Is goes_or read_expr
expr_complete n y ts s le h = (read_expr_reads (suc n)).complete y ts s (omega arith) h

-- reading needs no number of lexemes
pub read_expr_is : (ts : List Lexeme) → read_expr ts ≡ or_of read_expr ts
read_expr_is ts =
    let n = suc (length ts) in
    let b = or_reads n read_expr (read_expr_reads n) in
    agree Is goes_or ts (read_expr ts) (or_of read_expr ts) (expr_sound ts) (λ y s h. expr_complete n y ts s (omega arith) h)
    (λ x r e. (b.sound ts x r e).derived) (λ y s h. b.complete y ts s (omega arith) (record { ranked = rank_le y; derived = h }))

-- the longest front that derives is read
pub expr_longest : (ts : List Lexeme) → Longest Is ts (read_expr ts)
expr_longest ts = is_longest Is goes_or ts (read_expr ts) (expr_sound ts) (λ y s h. expr_complete (length ts) y ts s (omega arith) h)

-- one tree derives at most
pub one_tree : (ts : List Lexeme) (x y : Tree) → Derives ts x → Derives ts y → x ≡ y
one_tree ts x y h k = go (expr_complete (length ts) x ts [] (omega arith) h) (expr_complete (length ts) y ts [] (omega arith) k)
  where
    go : Found (read_expr ts) goes_or x [] → Found (read_expr ts) goes_or y [] → x ≡ y
    go (exact e) (exact f) = ap (λ (z : Tree × List Lexeme). z.0) (some_is (x, []) (y, []) (sym e ∙ f))
    go (longer z r e l i) f = absurd i
    go (exact e) (longer z r f l i) = absurd i
