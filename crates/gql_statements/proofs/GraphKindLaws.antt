-- The laws of what a graph may hold.
use Rattle.std.proofs.Common.{◌≡◌, inl, inr, List, Option, Some, None, refl, ap, ◌∙◌}
use Rattle.gql_lexer.specs.declared.lexeme.Lexeme.{Lexeme}
use Rattle.gql_ast.specs.declared.statement.GraphKind.{GraphKind}
use Rattle.gql_ast.specs.declared.statement.GraphKind.TheVariants as kind
use Rattle.gql_lexer.specs.WordPlaces.{ANY, GRAPH, PROPERTY}
use Rattle.gql_front.specs.Reading.{is_word, name_in, after, op_at}
use Rattle.gql_front.proofs.Found.{Sound}
use Rattle.gql_front.proofs.TableLemmas.{begins_read, read_begins}
use Rattle.gql_parts.specs.Parts.{Passes, MayPass}
use Rattle.gql_parts.proofs.PartLaws.{Stops, bind_then, finish, passes_after, after_passes, stops_after, word_apart, passes_stops}
use Rattle.gql_type.specs.TypeWords.{is_typed}
use Rattle.gql_statements.specs.GraphGrammar.{MaySayGraph}
use Rattle.gql_statements.specs.CatalogGrammar.{IsGraphKind}
use Rattle.gql_statements.specs.Machinery.GraphReaders.{past_graph}
use Rattle.gql_statements.specs.Machinery.CatalogReaders.{any_kind_of, any_or_name, typed_kind_of, typed_or_any, graph_kind_of}
use Rattle.gql_statements.proofs.GraphWordLaws.{past_graph_sound, past_graph_exact}
use Rattle.gql_statements.proofs.WordLaws.{name_stops}

-- ANY [[PROPERTY] GRAPH]

abbrev SaysAny : GraphKind → List Lexeme → List Lexeme → Type 0
SaysAny kind.Any ts r = (b : List Lexeme) × Passes (is_word ANY) ts b × MaySayGraph b r
SaysAny (kind.Typed x) ts r = ⊥

any_sound : Sound SaysAny any_kind_of
unfolding any_kind_of
any_sound ts k r e =
    bind_then (after (is_word ANY) ts) _ (k, r) e (λ a p e.
    finish (λ k r. SaysAny k ts r) kind.Any (past_graph a) k r e (a, after_passes (is_word ANY) ts a p, past_graph_sound a))

any_exact : (ts s : List Lexeme) → SaysAny kind.Any ts s → Stops (is_word PROPERTY) s → Stops (is_word GRAPH) s → any_kind_of ts ≡ Some (kind.Any, s)
unfolding any_kind_of
any_exact ts s h property graph =
    rw (passes_after (is_word ANY) ts h.0 h.1) (ap (λ (z : List Lexeme). Some (kind.Any, z)) (past_graph_exact h.0 s h.2 property graph))

no_any : (ts : List Lexeme) → Stops (is_word ANY) ts → any_kind_of ts ≡ None
unfolding any_kind_of
no_any ts stop = rw (stops_after (is_word ANY) ts stop) refl

-- The whole

any_kind : (k : GraphKind) (ts a r : List Lexeme) → MayPass is_typed ts a → SaysAny k a r → IsGraphKind k ts r
any_kind kind.Any ts a r p h = (a, p, h.0, h.1, h.2)
any_kind (kind.Typed x) ts a r p h = absurd h

typed_sound : (ts a : List Lexeme) (k : GraphKind) (r : List Lexeme) → Passes is_typed ts a → typed_kind_of a ≡ Some (k, r) → IsGraphKind k ts r
unfolding typed_kind_of
typed_sound ts a k r p e = go (any_kind_of a) refl e
  where
    go : (o : Option (GraphKind × List Lexeme)) → any_kind_of a ≡ o → any_or_name a o ≡ Some (k, r) → IsGraphKind k ts r
    go (Some x) q e = finish (λ k r. IsGraphKind k ts r) x.0 x.1 k r e (any_kind x.0 ts a x.1 (inr p) (any_sound a x.0 x.1 q))
    go None q e =
        bind_then (op_at name_in a) _ (k, r) e (λ x q e. finish (λ k r. IsGraphKind k ts r) (kind.Typed x.0) x.1 k r e (a, p, read_begins name_in a x.0 x.1 q))

pub graph_kind_sound : Sound IsGraphKind graph_kind_of
unfolding graph_kind_of
graph_kind_sound ts k r e = go (after is_typed ts) refl e
  where
    go : (o : Option (List Lexeme)) → after is_typed ts ≡ o → typed_or_any ts o ≡ Some (k, r) → IsGraphKind k ts r
    go (Some a) p e = typed_sound ts a k r (after_passes is_typed ts a p) e
    go None p e = any_kind k ts ts r (inl refl) (any_sound ts k r e)

any_kind_exact : (ts a s : List Lexeme) → MayPass is_typed ts a → SaysAny kind.Any a s → Stops (is_word PROPERTY) s → Stops (is_word GRAPH) s
    → graph_kind_of ts ≡ Some (kind.Any, s)
unfolding graph_kind_of typed_kind_of
any_kind_exact ts a s (inl p) h property graph =
    let untyped = passes_stops (is_word ANY) is_typed (word_apart ANY is_typed (λ x. refl)) a h.0 h.1 in
    ap graph_kind_of p ∙ (ap (typed_or_any a) (stops_after is_typed a untyped) ∙ any_exact a s h property graph)
any_kind_exact ts a s (inr p) h property graph =
    ap (typed_or_any ts) (passes_after is_typed ts a p) ∙ ap (any_or_name a) (any_exact a s h property graph)

pub graph_kind_exact : (k : GraphKind) (ts s : List Lexeme) → IsGraphKind k ts s → Stops (is_word PROPERTY) s → Stops (is_word GRAPH) s → graph_kind_of ts ≡ Some (k, s)
unfolding graph_kind_of typed_kind_of
graph_kind_exact kind.Any ts s h property graph = any_kind_exact ts h.0 s h.1 (h.2, h.3, h.4) property graph
graph_kind_exact (kind.Typed x) ts s h property graph =
    ap (typed_or_any ts) (passes_after is_typed ts h.0 h.1)
    ∙ (ap (any_or_name h.0) (no_any h.0 (name_stops ANY x h.0 s h.2)) ∙ rw (begins_read name_in x h.0 s h.2) refl)
