-- That lexemes derive a label expression rests on them alone: they do before any others, too.
use Rattle.std.proofs.Common.{ℕ, List, [], ◌∷◌, refl}
use Rattle.gql_lexer.specs.declared.lexeme.Lexeme.{Lexeme}
use Rattle.gql_lexer.specs.declared.lexeme.Lexeme.TheVariants.{Sign}
use Rattle.gql_lexer.specs.SymbolPlaces.{opening, closing, percent, ampersand, bar, bang}
use Rattle.gql_front.proofs.Fronts.{Front, Token, token, nothing, front_then, closed}
use Rattle.gql_ast.specs.Label.{Label, Labels, name, wildcard, paren, negation, conjunction, disjunction, no_labels, more_labels}
use Rattle.gql_exprs.specs.LabelGrammar.{at_factor, at_term, IsLabel, AreSides}

mutual
  pub label_front : (x : Label) (ts r : List Lexeme) → IsLabel x ts r → Front (IsLabel x) ts r
  label_front (name text) ts r h = record { front = h.0 ∷ []; whole = h.2; alone = λ s. (h.0, h.1, refl) }
  label_front wildcard ts r h = token (Sign percent) ts r h
  label_front (paren e) ts r h =
      front_then (Token (Sign opening)) (λ s u. IsLabel e s (Sign closing ∷ u)) (IsLabel (paren e)) ts h.0 r (token (Sign opening) ts h.0 h.1)
      (closed (IsLabel e) (Sign closing) h.0 r (label_front e h.0 (Sign closing ∷ r) h.2)) (λ s t u p q. (t, p, q))
  label_front (negation e) ts r h =
      front_then (Token (Sign bang)) (IsLabel e) (IsLabel (negation e)) ts h.1 r (token (Sign bang) ts h.1 h.2) (label_front e h.1 r h.3) (λ s t u p q. (h.0, t, p, q))
  label_front (conjunction e es) ts r h =
      front_then (IsLabel e) (AreSides es at_factor ampersand) (IsLabel (conjunction e es)) ts h.1 r (label_front e ts h.1 h.2) (sides_front es at_factor ampersand h.1 r h.4) (λ s t u p q. (h.0, t, p, h.3, q))
  label_front (disjunction e es) ts r h =
      front_then (IsLabel e) (AreSides es at_term bar) (IsLabel (disjunction e es)) ts h.1 r (label_front e ts h.1 h.2) (sides_front es at_term bar h.1 r h.4) (λ s t u p q. (h.0, t, p, h.3, q))

  sides_front : (es : Labels) (k place : ℕ) (ts r : List Lexeme) → AreSides es k place ts r → Front (AreSides es k place) ts r
  sides_front no_labels k place ts r h = nothing (AreSides no_labels k place) ts r h (λ s. refl)
  sides_front (more_labels e es) k place ts r h =
      front_then (Token (Sign place)) (λ s u. (m : List Lexeme) × IsLabel e s m × AreSides es k place m u) (AreSides (more_labels e es) k place) ts h.0 r (token (Sign place) ts h.0 h.2)
      (front_then (IsLabel e) (AreSides es k place) (λ s u. (m : List Lexeme) × IsLabel e s m × AreSides es k place m u) h.0 h.1 r (label_front e h.0 h.1 h.4) (sides_front es k place h.1 r h.5) (λ s t u p q. (t, p, q)))
      (λ s t u p q. (t, q.0, p, h.3, q.1, q.2))
