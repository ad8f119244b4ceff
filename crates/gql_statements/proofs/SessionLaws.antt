-- The laws of statements about the session.
use Rattle.std.proofs.Common.{◌≡◌, true, ℕ, List, [], Option, Some, None, refl, ap, ◌∙◌}
use Rattle.gql_lexer.specs.declared.lexeme.Lexeme.{Lexeme}
use Rattle.gql_ast.specs.declared.statement.SessionStatement.{SessionStatement}
use Rattle.gql_ast.specs.declared.statement.SessionStatement.TheVariants as session
use Rattle.gql_lexer.specs.SymbolPlaces.{equal}
use Rattle.gql_lexer.specs.WordPlaces.{CLOSE, GRAPH, PROPERTY, RESET, SESSION, SET, VALUE}
use Rattle.gql_front.specs.Tables.{Begins}
use Rattle.gql_front.specs.Reading.{is_word, name_in, after, op_at}
use Rattle.gql_front.proofs.Found.{Sound}
use Rattle.gql_front.proofs.TableLemmas.{begins_read, read_begins, word_row}
use Rattle.gql_parts.specs.Parts.{Passes}
use Rattle.gql_parts.specs.Values.{IsNamedValue}
use Rattle.gql_parts.proofs.PartLaws.{bind_then, finish, passes_after, after_passes, word_apart, passes_stops}
use Rattle.gql_parts.proofs.NamedLaws.{named_sound, named_exact}
use Rattle.gql_statements.specs.declared.session_word.SessionWord.{SessionWord}
use Rattle.gql_statements.specs.declared.session_word.SessionWord.TheVariants as says
use Rattle.gql_statements.specs.PartWords.{param_in}
use Rattle.gql_statements.specs.SessionWords.{session_words, session_word}
use Rattle.gql_statements.specs.GraphGrammar.{SaysGraph}
use Rattle.gql_statements.specs.SessionGrammar.{IsSession}
use Rattle.gql_statements.specs.Machinery.GraphReaders.{after_graph}
use Rattle.gql_statements.specs.Machinery.SessionReaders.{set_graph_of, set_value_of, graph_or_value, set_of, said, session_of}
use Rattle.gql_statements.proofs.GraphWordLaws.{after_graph_sound, after_graph_exact, no_graph}
use Rattle.gql_statements.proofs.WordLaws.{word_read}

abbrev place_of : SessionWord → ℕ
place_of says.Set = SET
place_of says.Reset = RESET
place_of says.Close = CLOSE

word_passes : (w : SessionWord) (ts r : List Lexeme) → Begins session_word w ts r → Passes (is_word (place_of w)) ts r
word_passes w ts r h = (h.0, word_row (λ t w. is_word (place_of w) t ≡ true) session_words (λ x. (refl, (refl, (refl, tt)))) h.0 w h.1, h.2)

-- What stands behind SESSION SET

abbrev IsSet : SessionStatement → List Lexeme → List Lexeme → Type 0
IsSet (session.SetGraph x) ts r = (c : List Lexeme) × SaysGraph ts c × Begins name_in x c r
IsSet (session.SetValue x e) ts r =
    (c : List Lexeme) × Passes (is_word VALUE) ts c × IsNamedValue param_in equal x e c r
IsSet _ ts r = ⊥

set_graph_sound : (ts a : List Lexeme) (s : SessionStatement) (r : List Lexeme) → SaysGraph ts a → set_graph_of a ≡ Some (s, r) → IsSet s ts r
unfolding set_graph_of
set_graph_sound ts a s r p e =
    bind_then (op_at name_in a) _ (s, r) e (λ x q e.
    finish (λ s r. IsSet s ts r) (session.SetGraph x.0) x.1 s r e (a, p, read_begins name_in a x.0 x.1 q))

set_value_sound : Sound IsSet set_value_of
unfolding set_value_of
set_value_sound ts s r e =
    bind_then (after (is_word VALUE) ts) _ (s, r) e (λ a p e.
    named_sound param_in equal session.SetValue (λ s a r. Passes (is_word VALUE) ts a → IsSet s ts r) (λ x v a r h p. (a, p, h)) a s r e (after_passes (is_word VALUE) ts a p))

set_sound : Sound IsSet set_of
unfolding set_of
set_sound ts s r e = go (after_graph ts) refl e
  where
    go : (o : Option (List Lexeme)) → after_graph ts ≡ o → graph_or_value ts o ≡ Some (s, r) → IsSet s ts r
    go (Some a) p e = set_graph_sound ts a s r (after_graph_sound ts a p) e
    go None p e = set_value_sound ts s r e

set_exact : (s : SessionStatement) (ts : List Lexeme) → IsSet s ts [] → set_of ts ≡ Some (s, [])
unfolding set_of set_graph_of set_value_of
set_exact (session.SetGraph x) ts h = ap (graph_or_value ts) (after_graph_exact ts h.0 h.1) ∙ rw (begins_read name_in x h.0 [] h.2) refl
set_exact (session.SetValue x e) ts h =
    let none = no_graph ts
    (passes_stops (is_word VALUE) (is_word PROPERTY) (word_apart VALUE (is_word PROPERTY) (λ x. refl)) ts h.0 h.1)
    (passes_stops (is_word VALUE) (is_word GRAPH) (word_apart VALUE (is_word GRAPH) (λ x. refl)) ts h.0 h.1) in
    ap (graph_or_value ts) none
    ∙ rw (passes_after (is_word VALUE) ts h.0 h.1) (named_exact param_in equal session.SetValue x e h.0 [] h.2 (λ i. i))
set_exact session.Reset ts h = absurd h
set_exact session.Close ts h = absurd h

-- Statements, behind SESSION

set_session : (s : SessionStatement) (ts a b r : List Lexeme) → Passes (is_word SESSION) ts a → Passes (is_word SET) a b → IsSet s b r → IsSession s ts r
set_session (session.SetGraph x) ts a b r p q h = (a, p, b, q, h.0, h.1, h.2)
set_session (session.SetValue x e) ts a b r p q h = (a, p, b, q, h.0, h.1, h.2)
set_session _ ts a b r p q h = absurd h

pub session_sound : (ts a : List Lexeme) (s : SessionStatement) (r : List Lexeme) → Passes (is_word SESSION) ts a → session_of a ≡ Some (s, r) → IsSession s ts r
unfolding session_of
session_sound ts a s r p e =
    bind_then (op_at session_word a) _ (s, r) e (λ w q e. go w.0 w.1 (word_passes w.0 a w.1 (read_begins session_word a w.0 w.1 q)) e)
  where
    go : (w : SessionWord) (b : List Lexeme) → Passes (is_word (place_of w)) a b → said w b ≡ Some (s, r) → IsSession s ts r
    go says.Set b k e = set_session s ts a b r p k (set_sound b s r e)
    go says.Reset b k e = finish (λ s r. IsSession s ts r) session.Reset b s r e (a, p, k)
    go says.Close b k e = finish (λ s r. IsSession s ts r) session.Close b s r e (a, p, k)

set_read : (s : SessionStatement) (a b : List Lexeme) → Passes (is_word SET) a b → IsSet s b [] → session_of a ≡ Some (s, [])
unfolding session_of
set_read s a b p h = rw (word_read session_word SET says.Set (λ x. refl) a b p) (set_exact s b h)

pub session_exact : (s : SessionStatement) (ts : List Lexeme) → IsSession s ts [] → (a : List Lexeme) × Passes (is_word SESSION) ts a × (session_of a ≡ Some (s, []))
unfolding session_of
session_exact (session.SetGraph x) ts h = (h.0, h.1, set_read (session.SetGraph x) h.0 h.2 h.3 (h.4, h.5, h.6))
session_exact (session.SetValue x e) ts h = (h.0, h.1, set_read (session.SetValue x e) h.0 h.2 h.3 (h.4, h.5, h.6))
session_exact session.Reset ts h = (h.0, h.1, rw (word_read session_word RESET says.Reset (λ x. refl) h.0 [] h.2) refl)
session_exact session.Close ts h = (h.0, h.1, rw (word_read session_word CLOSE says.Close (λ x. refl) h.0 [] h.2) refl)
