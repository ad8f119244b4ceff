-- Lexemes derive at most one label expression: reading gives each that they derive.
use Rattle.std.proofs.Common.{◌≡◌, List, [], length, Some, sym, ap, ◌∙◌, arith}
use Rattle.gql_lexer.specs.declared.lexeme.Lexeme.{Lexeme}
use Rattle.gql_front.proofs.Found.{some_is, exact_at}
use Rattle.gql_ast.specs.Label.{Label}
use Rattle.gql_exprs.specs.LabelGrammar.{DerivesLabel}
use Rattle.gql_exprs.specs.Machinery.LabelReaders.{read_label}
use Rattle.gql_exprs.proofs.LabelLevels.{goes_label, label_complete}

pub derived_is_read : (ts : List Lexeme) (x : Label) → DerivesLabel ts x → read_label ts ≡ Some (x, [])
derived_is_read ts x h = exact_at (read_label ts) goes_label x [] (label_complete (length ts) x ts [] (omega arith) h) (λ i. i)

pub label_is_one : (ts : List Lexeme) (x y : Label) → DerivesLabel ts x → DerivesLabel ts y → x ≡ y
label_is_one ts x y h k = ap (λ (z : Label × List Lexeme). z.0) (some_is (x, []) (y, []) (sym (derived_is_read ts x h) ∙ derived_is_read ts y k))
