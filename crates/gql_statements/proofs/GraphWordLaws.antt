-- The laws of the words that announce a graph.
use Rattle.std.proofs.Common.{◌≡◌, inl, inr, List, Option, Some, None, refl, ap, ◌∙◌}
use Rattle.gql_lexer.specs.declared.lexeme.Lexeme.{Lexeme}
use Rattle.gql_lexer.specs.WordPlaces.{GRAPH, PROPERTY}
use Rattle.gql_front.specs.Reading.{is_word, after}
use Rattle.gql_parts.specs.Machinery.PartReaders.{behind_or, past}
use Rattle.gql_parts.proofs.PartLaws.{Stops, passes_after, after_passes, stops_after, word_apart, passes_stops, past_sound, past_exact}
use Rattle.gql_statements.specs.GraphGrammar.{SaysGraph, MaySayGraph}
use Rattle.gql_statements.specs.Machinery.GraphReaders.{after_graph, past_graph}

pub after_graph_sound : (ts r : List Lexeme) → after_graph ts ≡ Some r → SaysGraph ts r
unfolding after_graph
after_graph_sound ts r e =
    (past (is_word PROPERTY) ts, past_sound (is_word PROPERTY) ts, after_passes (is_word GRAPH) (past (is_word PROPERTY) ts) r e)

pub after_graph_exact : (ts s : List Lexeme) → SaysGraph ts s → after_graph ts ≡ Some s
unfolding after_graph
after_graph_exact ts s h =
    let begins = passes_stops (is_word GRAPH) (is_word PROPERTY) (word_apart GRAPH (is_word PROPERTY) (λ x. refl)) h.0 s h.2 in
    ap (after (is_word GRAPH)) (past_exact (is_word PROPERTY) ts h.0 h.1 begins) ∙ passes_after (is_word GRAPH) h.0 s h.2

pub no_graph : (ts : List Lexeme) → Stops (is_word PROPERTY) ts → Stops (is_word GRAPH) ts → after_graph ts ≡ None
unfolding after_graph
no_graph ts property graph =
    ap (after (is_word GRAPH)) (past_exact (is_word PROPERTY) ts ts (inl refl) property) ∙ stops_after (is_word GRAPH) ts graph

pub past_graph_sound : (ts : List Lexeme) → MaySayGraph ts (past_graph ts)
unfolding past_graph
past_graph_sound ts = go (after_graph ts) refl
  where
    go : (o : Option (List Lexeme)) → after_graph ts ≡ o → MaySayGraph ts (behind_or ts o)
    go None e = inl refl
    go (Some r) e = inr (after_graph_sound ts r e)

pub past_graph_exact : (ts s : List Lexeme) → MaySayGraph ts s → Stops (is_word PROPERTY) s → Stops (is_word GRAPH) s → past_graph ts ≡ s
unfolding past_graph
past_graph_exact ts s (inl h) property graph = ap past_graph h ∙ ap (behind_or s) (no_graph s property graph)
past_graph_exact ts s (inr h) property graph = ap (behind_or ts) (after_graph_exact ts s h)
