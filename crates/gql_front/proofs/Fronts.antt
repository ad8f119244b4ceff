-- A derivation that rests on its front alone.
use Rattle.std.proofs.Common.{◌≡◌, List, [], ◌∷◌, ◌++◌, refl, sym, ap, subst, ◌∙◌, append_assoc}
use Rattle.gql_lexer.specs.declared.lexeme.Lexeme.{Lexeme}

pub record Front (P : List Lexeme → List Lexeme → Type 0) (ts r : List Lexeme) : Type 0 where
  pub front : List Lexeme
  pub whole : ts ≡ front ++ r
  pub alone : (s : List Lexeme) → P (front ++ s) s

abbrev pub Token : Lexeme → List Lexeme → List Lexeme → Type 0
Token t ts r = ts ≡ t ∷ r

pub token : (t : Lexeme) (ts r : List Lexeme) → Token t ts r → Front (Token t) ts r
token t ts r h = record { front = t ∷ []; whole = h; alone = λ s. refl }

pub nothing : (P : List Lexeme → List Lexeme → Type 0) (ts r : List Lexeme) → ts ≡ r → ((s : List Lexeme) → P s s) → Front P ts r
nothing P ts r h all = record { front = []; whole = h; alone = all }

pub front_then : (P Q R : List Lexeme → List Lexeme → Type 0) (ts m r : List Lexeme) → Front P ts m → Front Q m r → ((s t u : List Lexeme) → P s t → Q t u → R s u) → Front R ts r
front_then P Q R ts m r a b join = record {
  front = a.front ++ b.front;
  whole = a.whole ∙ ap (λ z. a.front ++ z) b.whole ∙ sym (append_assoc a.front b.front r);
  alone = λ s. subst (λ z. R z s) (sym (append_assoc a.front b.front s)) (join (a.front ++ (b.front ++ s)) (b.front ++ s) s (a.alone (b.front ++ s)) (b.alone s));
}

-- behind what is read stands this sign
pub closed : (P : List Lexeme → List Lexeme → Type 0) (t : Lexeme) (ts r : List Lexeme) → Front P ts (t ∷ r) → Front (λ s u. P s (t ∷ u)) ts r
closed P t ts r a = front_then P (Token t) (λ s u. P s (t ∷ u)) ts (t ∷ r) r a (token t (t ∷ r) r refl) (λ s m u p q. subst (λ z. P s z) q p)
