-- The loops over operators and commas.
use Rattle.std.proofs.Common.{◌≡◌, ℕ, suc, List, [], ◌∷◌, ◌++◌, length, Option, Some, None, refl, sym, ap, ◌∙◌}
use Rattle.gql_lexer.specs.declared.lexeme.Lexeme.{Lexeme}
use Rattle.gql_ast.specs.Tree.{Tree, Link, link}
use Rattle.gql_exprs.specs.declared.chain.Chain.{Chain}
use Rattle.gql_exprs.specs.declared.chain.Chain.TheVariants as level
use Rattle.gql_front.specs.Reading.{◌>>=◌, Reader, step, many, sequence}
use Rattle.gql_front.proofs.Loops.{with_front, loop_stops, loop_goes_on}
use Rattle.gql_front.proofs.Found.{Shrinks, step_shrinks}
use Rattle.gql_exprs.specs.Grammar.{at_signed, at_product, at_not, at_and}
use Rattle.gql_exprs.specs.Machinery.LeafReaders.{comma_op, operand, chain_or_side}
use Rattle.gql_exprs.specs.Machinery.Readers.{operator_in, chain_tree, side_of, steps_of, chain_of, list_of, read_expr, or_of, and_of, not_of, product_of, signed_of, sum_of}
use Rattle.gql_exprs.proofs.ExprChains.{at_shrinks}
use Rattle.gql_exprs.proofs.ExprLists.{shrinks}
use Rattle.gql_exprs.proofs.ExprLevels.{signed_reads, product_reads, not_reads, and_reads}
use Rattle.gql_exprs.proofs.ExprRead.{read_expr_reads}

-- how far the sides of a chain are above the atoms in the measure of the recursion
abbrev pub above : Chain → ℕ
above level.Or = 12
above level.And = 10
above level.Sum = 5
above level.Product = 3

-- the further sides of a chain
abbrev pub steps_from : Chain → List Lexeme → List Link × List Lexeme
steps_from c ts = many (step (operator_in c) (side_of c read_expr) link) (length ts) ts

-- the further items of a list
abbrev pub others_from : List Lexeme → List Tree × List Lexeme
others_from ts = many (step comma_op read_expr operand) (length ts) ts

-- a list
abbrev pub list_from : List Lexeme → Option (List Tree × List Lexeme)
list_from ts = list_of read_expr ts

-- a chain is its first side, and further ones
pub chain_is : (c : Chain) (f : Reader Tree) (ts : List Lexeme) → chain_of c f ts ≡ (side_of c f ts >>= λ x. Some (chain_or_side (chain_tree c) x.0 (steps_of c f x.1).0, (steps_of c f x.1).1))
unfolding steps_of or_of and_of sum_of product_of sequence
chain_is level.Or f ts = refl
chain_is level.And f ts = refl
chain_is level.Sum f ts = refl
chain_is level.Product f ts = refl

side_shrinks : (c : Chain) → Shrinks (side_of c read_expr)
side_shrinks level.Or ts x r e = let n = suc (length ts) in at_shrinks at_and (and_of read_expr) (and_reads n read_expr (read_expr_reads n)).sound ts x r e
side_shrinks level.And ts x r e = let n = suc (length ts) in at_shrinks at_not (not_of read_expr) (not_reads n read_expr (read_expr_reads n)).sound ts x r e
side_shrinks level.Sum ts x r e = let n = suc (length ts) in at_shrinks at_product (product_of read_expr) (product_reads n read_expr (read_expr_reads n)).sound ts x r e
side_shrinks level.Product ts x r e = let n = suc (length ts) in at_shrinks at_signed (signed_of read_expr) (signed_reads n read_expr (read_expr_reads n)).sound ts x r e

expr_shrinks : Shrinks read_expr
expr_shrinks ts x r e = shrinks 0 read_expr (read_expr_reads 0) ts x r e

-- the loop of a chain stops, or goes on
pub steps_stop : (c : Chain) (front : List Link) (ts : List Lexeme) (total : List Link × List Lexeme) → step (operator_in c) (side_of c read_expr) link ts ≡ None
    → with_front front (steps_from c ts) ≡ total → ◌≡◌ {A = List Link × List Lexeme} (front, ts) total
steps_stop c front ts total e so_far = sym (loop_stops (step (operator_in c) (side_of c read_expr) link) (step_shrinks (operator_in c) (side_of c read_expr) link (side_shrinks c)) front ts e) ∙ so_far

pub steps_next : (c : Chain) (front : List Link) (ts : List Lexeme) (l : Link) (r : List Lexeme) (total : List Link × List Lexeme) → step (operator_in c) (side_of c read_expr) link ts ≡ Some (l, r)
    → with_front front (steps_from c ts) ≡ total → with_front (front ++ l ∷ []) (steps_from c r) ≡ total
steps_next c front ts l r total e so_far = sym (loop_goes_on (step (operator_in c) (side_of c read_expr) link) (step_shrinks (operator_in c) (side_of c read_expr) link (side_shrinks c)) front ts l r e) ∙ so_far

-- the loop of a list stops, or goes on
pub others_stop : (front : List Tree) (ts : List Lexeme) (total : Option (List Tree × List Lexeme)) → step comma_op read_expr operand ts ≡ None
    → total ≡ Some (with_front front (others_from ts)) → total ≡ Some (front, ts)
others_stop front ts total e so_far = so_far ∙ ap (λ (z : List Tree × List Lexeme). Some z) (loop_stops (step comma_op read_expr operand) (step_shrinks comma_op read_expr operand expr_shrinks) front ts e)

pub others_next : (front : List Tree) (ts : List Lexeme) (x : Tree) (r : List Lexeme) (total : Option (List Tree × List Lexeme)) → step comma_op read_expr operand ts ≡ Some (x, r)
    → total ≡ Some (with_front front (others_from ts)) → total ≡ Some (with_front (front ++ x ∷ []) (others_from r))
others_next front ts x r total e so_far = so_far ∙ ap (λ (z : List Tree × List Lexeme). Some z) (loop_goes_on (step comma_op read_expr operand) (step_shrinks comma_op read_expr operand expr_shrinks) front ts x r e)
