-- The laws of a name, a symbol and the expression whose value the name gets.
use Rattle.std.proofs.Common.{◌≡◌, ◌<◌, ℕ, List, length, Option, Some, refl, arith}
use Rattle.gql_lexer.specs.declared.lexeme.Lexeme.{Lexeme}
use Rattle.gql_ast.specs.declared.expr.Expr.{Expr}
use Rattle.gql_front.specs.Reading.{is_sign, after, op_at}
use Rattle.gql_front.proofs.Found.{Sound}
use Rattle.gql_front.proofs.TableLemmas.{begins_read, read_begins, begins_shorter}
use Rattle.gql_exprs.proofs.ExprLists.{goes_or}
use Rattle.gql_parts.specs.Values.{IsNamedValue}
use Rattle.gql_parts.specs.Machinery.PartReaders.{read_value, value_behind, named_value_of}
use Rattle.gql_parts.proofs.PartLaws.{Stops, bind_then, finish, passes_after, after_passes, passes_shorter}
use Rattle.gql_parts.proofs.ValueLaws.{value_sound, value_exact, value_shorter}

module _ (says : Lexeme → Option (List ℕ)) (sign : ℕ) where
  pub named_shorter : (x : List ℕ) (e : Expr) (ts r : List Lexeme) → IsNamedValue says sign x e ts r → length r < length ts
  named_shorter x e ts r h = omega (arith, begins_shorter says x ts h.0 h.1, passes_shorter (is_sign sign) h.0 h.2 h.3, value_shorter e h.2 r h.4)

  -- what is made of the name and the expression
  module _ {A : Type 0} (make : List ℕ → Expr → A) where
    pub named_sound : (P : A → List Lexeme → List Lexeme → Type 0) → ((x : List ℕ) (e : Expr) (ts r : List Lexeme) → IsNamedValue says sign x e ts r → P (make x e) ts r)
        → Sound P (named_value_of says sign make)
    named_sound P derived ts i r e =
        bind_then (op_at says ts) _ (i, r) e (λ x p e.
        bind_then (value_behind sign x.0 x.1) _ (i, r) e (λ v q e.
        bind_then (after (is_sign sign) x.1) _ v q (λ a k q.
        bind_then (read_value a) _ v q (λ w l q.
        finish (λ i r. P i ts r) (make v.0.0 v.0.1) v.1 i r e
        (finish (λ y r. P (make y.0 y.1) ts r) (x.0, w.0) w.1 v.0 v.1 q
        (derived x.0 w.0 ts w.1 (x.1, read_begins says ts x.0 x.1 p, a, after_passes (is_sign sign) x.1 a k, value_sound a w.0 w.1 l)))))))

    pub named_exact : (x : List ℕ) (e : Expr) (ts s : List Lexeme) → IsNamedValue says sign x e ts s → Stops goes_or s → named_value_of says sign make ts ≡ Some (make x e, s)
    named_exact x e ts s h stop = rw (begins_read says x ts h.0 h.1, passes_after (is_sign sign) h.0 h.2 h.3, value_exact e h.2 s h.4 stop) refl
