-- The laws of statements about the graphs and graph types, each behind its first word.
use Rattle.std.proofs.Common.{◌≡◌, Bool, ℕ, List, Option, Some, None, refl, ap, ◌∙◌}
use Rattle.gql_lexer.specs.declared.lexeme.Lexeme.{Lexeme}
use Rattle.gql_ast.specs.declared.graph_type.TypeBody.{TypeBody}
use Rattle.gql_ast.specs.declared.statement.CatalogStatement.{CatalogStatement}
use Rattle.gql_ast.specs.declared.statement.CatalogStatement.TheVariants as catalog
use Rattle.gql_ast.specs.declared.statement.GraphKind.{GraphKind}
use Rattle.gql_lexer.specs.SymbolPlaces.{opening_brace}
use Rattle.gql_lexer.specs.WordPlaces.{AS, CREATE, DROP, GRAPH, PROPERTY, TYPE}
use Rattle.gql_front.specs.Reading.{is_sign, is_word, after}
use Rattle.gql_front.proofs.Found.{Sound}
use Rattle.gql_parts.specs.Parts.{Passes, MayPass}
use Rattle.gql_parts.specs.Machinery.PartReaders.{past}
use Rattle.gql_parts.proofs.PartLaws.{Stops, bind_then, finish, passes_after, after_passes, stops_after, sign_apart, passes_stops, past_sound, past_exact}
use Rattle.gql_type.specs.TypeGrammar.{IsTypeBody}
use Rattle.gql_type.specs.Machinery.TypeReaders.{type_body_of}
use Rattle.gql_type.proofs.TypeLaws.{type_sound, type_exact}
use Rattle.gql_statements.specs.GraphGrammar.{SaysGraph}
use Rattle.gql_statements.specs.CatalogGrammar.{NamesCreated, NamesDropped, IsGraphKind, IsCatalog}
use Rattle.gql_statements.specs.Machinery.GraphReaders.{after_graph}
use Rattle.gql_statements.specs.Machinery.CatalogReaders.{created_name_of, dropped_name_of, graph_kind_of, create_graph_of, create_type_of, type_or_graph, create_of, type_or_graph_name, drop_of}
use Rattle.gql_statements.proofs.GraphWordLaws.{after_graph_sound, after_graph_exact}
use Rattle.gql_statements.proofs.CatalogNameLaws.{created_name_sound, created_name_exact, created_untyped, dropped_name_sound, dropped_name_exact, dropped_untyped}
use Rattle.gql_statements.proofs.GraphKindLaws.{graph_kind_sound, graph_kind_exact}

-- What stands behind CREATE [PROPERTY] GRAPH, and behind TYPE

abbrev IsGraph : CatalogStatement → List Lexeme → List Lexeme → Type 0
IsGraph (catalog.CreateGraph lenient x k) ts r = (a : List Lexeme) × NamesCreated lenient x ts a × IsGraphKind k a r
IsGraph _ ts r = ⊥

abbrev IsType : CatalogStatement → List Lexeme → List Lexeme → Type 0
IsType (catalog.CreateType lenient x body) ts r =
    (a : List Lexeme) × NamesCreated lenient x ts a × (b : List Lexeme) × MayPass (is_word AS) a b × IsTypeBody body b r
IsType _ ts r = ⊥

create_graph_sound : Sound IsGraph create_graph_of
unfolding create_graph_of
create_graph_sound ts s r e =
    bind_then (created_name_of ts) _ (s, r) e (λ n p e.
    bind_then (graph_kind_of n.1) _ (s, r) e (λ k q e.
    finish (λ s r. IsGraph s ts r) (catalog.CreateGraph n.0.0 n.0.1 k.0) k.1 s r e
    (n.1, created_name_sound ts n.0 n.1 p, graph_kind_sound n.1 k.0 k.1 q)))

create_graph_exact : (lenient : Bool) (x : List ℕ) (k : GraphKind) (ts s : List Lexeme) → IsGraph (catalog.CreateGraph lenient x k) ts s
    → Stops (is_word PROPERTY) s → Stops (is_word GRAPH) s → create_graph_of ts ≡ Some (catalog.CreateGraph lenient x k, s)
unfolding create_graph_of
create_graph_exact lenient x k ts s h property graph =
    rw (created_name_exact lenient x ts h.0 h.1, graph_kind_exact k h.0 s h.2 property graph) refl

create_type_sound : Sound IsType create_type_of
unfolding create_type_of
create_type_sound ts s r e =
    bind_then (created_name_of ts) _ (s, r) e (λ n p e.
    bind_then (type_body_of (past (is_word AS) n.1)) _ (s, r) e (λ b q e.
    finish (λ s r. IsType s ts r) (catalog.CreateType n.0.0 n.0.1 b.0) b.1 s r e
    (n.1, created_name_sound ts n.0 n.1 p, past (is_word AS) n.1, past_sound (is_word AS) n.1, type_sound (past (is_word AS) n.1) b.0 b.1 q)))

-- a body begins with a brace
body_stops : (body : TypeBody) (ts r : List Lexeme) → IsTypeBody body ts r → Stops (is_word AS) ts
body_stops body ts r h = passes_stops (is_sign opening_brace) (is_word AS) (sign_apart opening_brace (is_word AS) refl) ts h.0 h.1

create_type_exact : (lenient : Bool) (x : List ℕ) (body : TypeBody) (ts s : List Lexeme) → IsType (catalog.CreateType lenient x body) ts s
    → create_type_of ts ≡ Some (catalog.CreateType lenient x body, s)
unfolding create_type_of
create_type_exact lenient x body ts s h =
    rw (created_name_exact lenient x ts h.0 h.1, past_exact (is_word AS) h.0 h.2 h.3 (body_stops body h.2 s h.4), type_exact body h.2 s h.4) refl

-- Behind CREATE

abbrev pub Creates : CatalogStatement → List Lexeme → List Lexeme → Type 0
Creates (catalog.CreateGraph lenient x k) ts r = (a : List Lexeme) × SaysGraph ts a × IsGraph (catalog.CreateGraph lenient x k) a r
Creates (catalog.CreateType lenient x body) ts r =
    (a : List Lexeme) × SaysGraph ts a × (b : List Lexeme) × Passes (is_word TYPE) a b × IsType (catalog.CreateType lenient x body) b r
Creates _ ts r = ⊥

creates_graph : (s : CatalogStatement) (ts a r : List Lexeme) → SaysGraph ts a → IsGraph s a r → Creates s ts r
creates_graph (catalog.CreateGraph lenient x k) ts a r p h = (a, p, h)
creates_graph _ ts a r p h = absurd h

creates_type : (s : CatalogStatement) (ts a b r : List Lexeme) → SaysGraph ts a → Passes (is_word TYPE) a b → IsType s b r → Creates s ts r
creates_type (catalog.CreateType lenient x body) ts a b r p q h = (a, p, b, q, h)
creates_type _ ts a b r p q h = absurd h

pub create_sound : Sound Creates create_of
unfolding create_of
create_sound ts s r e = bind_then (after_graph ts) _ (s, r) e (λ a p e. go a (after_graph_sound ts a p) (after (is_word TYPE) a) refl e)
  where
    go : (a : List Lexeme) → SaysGraph ts a → (o : Option (List Lexeme)) → after (is_word TYPE) a ≡ o → type_or_graph a o ≡ Some (s, r) → Creates s ts r
    go a p (Some b) q e = creates_type s ts a b r p (after_passes (is_word TYPE) a b q) (create_type_sound b s r e)
    go a p None q e = creates_graph s ts a r p (create_graph_sound a s r e)

pub create_exact : (c : CatalogStatement) (ts s : List Lexeme) → Creates c ts s → Stops (is_word PROPERTY) s → Stops (is_word GRAPH) s → create_of ts ≡ Some (c, s)
unfolding create_of
create_exact (catalog.CreateGraph lenient x k) ts s h property graph =
    let i = h.2 in
    rw (after_graph_exact ts h.0 h.1)
    (ap (type_or_graph h.0) (stops_after (is_word TYPE) h.0 (created_untyped lenient x h.0 i.0 i.1)) ∙ create_graph_exact lenient x k h.0 s h.2 property graph)
create_exact (catalog.CreateType lenient x body) ts s h property graph =
    rw (after_graph_exact ts h.0 h.1) (ap (type_or_graph h.0) (passes_after (is_word TYPE) h.0 h.2 h.3) ∙ create_type_exact lenient x body h.2 s h.4)
create_exact (catalog.DropGraph lenient x) ts s h property graph = absurd h
create_exact (catalog.DropType lenient x) ts s h property graph = absurd h

pub is_created : (c : CatalogStatement) (ts a r : List Lexeme) → Passes (is_word CREATE) ts a → Creates c a r → IsCatalog c ts r
is_created (catalog.CreateGraph lenient x k) ts a r p h = let i = h.2 in (a, p, h.0, h.1, i.0, i.1, i.2)
is_created (catalog.CreateType lenient x body) ts a r p h = let i = h.4 in (a, p, h.0, h.1, h.2, h.3, i.0, i.1, i.2, i.3, i.4)
is_created _ ts a r p h = absurd h

-- Behind DROP

abbrev pub Drops : CatalogStatement → List Lexeme → List Lexeme → Type 0
Drops (catalog.DropGraph lenient x) ts r = (a : List Lexeme) × SaysGraph ts a × NamesDropped lenient x a r
Drops (catalog.DropType lenient x) ts r =
    (a : List Lexeme) × SaysGraph ts a × (b : List Lexeme) × Passes (is_word TYPE) a b × NamesDropped lenient x b r
Drops _ ts r = ⊥

pub drop_sound : Sound Drops drop_of
unfolding drop_of
drop_sound ts s r e = bind_then (after_graph ts) _ (s, r) e (λ a p e. go a (after_graph_sound ts a p) (after (is_word TYPE) a) refl e)
  where
    go : (a : List Lexeme) → SaysGraph ts a → (o : Option (List Lexeme)) → after (is_word TYPE) a ≡ o → type_or_graph_name a o ≡ Some (s, r) → Drops s ts r
    go a p (Some b) q e =
        bind_then (dropped_name_of b) _ (s, r) e (λ n k e.
        finish (λ s r. Drops s ts r) (catalog.DropType n.0.0 n.0.1) n.1 s r e (a, p, b, after_passes (is_word TYPE) a b q, dropped_name_sound b n.0 n.1 k))
    go a p None q e =
        bind_then (dropped_name_of a) _ (s, r) e (λ n k e.
        finish (λ s r. Drops s ts r) (catalog.DropGraph n.0.0 n.0.1) n.1 s r e (a, p, dropped_name_sound a n.0 n.1 k))

pub drop_exact : (c : CatalogStatement) (ts s : List Lexeme) → Drops c ts s → drop_of ts ≡ Some (c, s)
unfolding drop_of
drop_exact (catalog.DropGraph lenient x) ts s h =
    rw (after_graph_exact ts h.0 h.1)
    (ap (type_or_graph_name h.0) (stops_after (is_word TYPE) h.0 (dropped_untyped lenient x h.0 s h.2)) ∙ rw (dropped_name_exact lenient x h.0 s h.2) refl)
drop_exact (catalog.DropType lenient x) ts s h =
    rw (after_graph_exact ts h.0 h.1)
    (ap (type_or_graph_name h.0) (passes_after (is_word TYPE) h.0 h.2 h.3) ∙ rw (dropped_name_exact lenient x h.2 s h.4) refl)
drop_exact (catalog.CreateGraph lenient x k) ts s h = absurd h
drop_exact (catalog.CreateType lenient x body) ts s h = absurd h

pub is_dropped : (c : CatalogStatement) (ts a r : List Lexeme) → Passes (is_word DROP) ts a → Drops c a r → IsCatalog c ts r
is_dropped (catalog.DropGraph lenient x) ts a r p h = (a, p, h.0, h.1, h.2)
is_dropped (catalog.DropType lenient x) ts a r p h = (a, p, h.0, h.1, h.2, h.3, h.4)
is_dropped _ ts a r p h = absurd h
