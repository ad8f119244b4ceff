-- The laws of MATCH and OPTIONAL MATCH, each behind its first word. A graph pattern is read by gql_patterns.
use Rattle.std.proofs.Common.{◌≡◌, ◌<◌, Bool, true, false, List, length, Option, Some, refl, sym, ap, arith}
use Rattle.gql_lexer.specs.declared.lexeme.Lexeme.{Lexeme}
use Rattle.gql_ast.specs.declared.clause.Match.{Match}
use Rattle.gql_ast.specs.declared.path.GraphPattern.{GraphPattern}
use Rattle.gql_lexer.specs.WordPlaces.{MATCH}
use Rattle.gql_front.specs.Reading.{is_word, after}
use Rattle.gql_front.proofs.Found.{Sound}
use Rattle.gql_parts.specs.Parts.{Passes}
use Rattle.gql_parts.proofs.FillerLaws.{where_shorter}
use Rattle.gql_parts.proofs.ListLaws.{list_shorter}
use Rattle.gql_parts.proofs.PartLaws.{Stops, bind_then, finish, passes_after, after_passes, passes_shorter}
use Rattle.gql_patterns.specs.PatternGrammar.{IsPathPattern, IsGraphPattern}
use Rattle.gql_patterns.specs.Machinery.PatternReaders.{path_pattern_of, graph_pattern_of}
use Rattle.gql_patterns.proofs.PatternLaws.{path_pattern_shorter}
use Rattle.gql_patterns.proofs.GraphLaws.{goes_pattern, graph_pattern_sound, graph_pattern_exact}
use Rattle.gql_statements.specs.Machinery.MatchReaders.{match_of, optional_match_of}

pattern_shorter : (g : GraphPattern) (ts r : List Lexeme) → IsGraphPattern g ts r → length r < length ts
pattern_shorter g ts r h =
    omega (arith, list_shorter path_pattern_of IsPathPattern path_pattern_shorter g.paths ts h.1 h.2, where_shorter g.condition h.1 r h.3)

-- MATCH

abbrev pub Matched : Bool → Match → List Lexeme → List Lexeme → Type 0
Matched optional m ts r = (m.optional ≡ optional) × IsGraphPattern m.pattern ts r

pub match_sound : (optional : Bool) → Sound (Matched optional) (match_of optional)
unfolding match_of
match_sound optional ts m r e =
    bind_then (graph_pattern_of ts) _ (m, r) e (λ g p e.
    finish (λ m r. Matched optional m ts r) (record { optional = optional; pattern = g.0 }) g.1 m r e (refl, graph_pattern_sound ts g.0 g.1 p))

pub match_exact : (optional : Bool) (m : Match) (ts s : List Lexeme) → Matched optional m ts s → Stops goes_pattern s → match_of optional ts ≡ Some (m, s)
unfolding match_of
match_exact optional m ts s h stop =
    rw (graph_pattern_exact m.pattern ts s h.1 stop) (λ i. Some (record { optional = sym h.0 i; pattern = m.pattern }, s))

pub match_shorter : (optional : Bool) (m : Match) (ts r : List Lexeme) → Matched optional m ts r → length r < length ts
match_shorter optional m ts r h = pattern_shorter m.pattern ts r h.1

-- OPTIONAL MATCH

abbrev pub MatchedOptionally : Match → List Lexeme → List Lexeme → Type 0
MatchedOptionally m ts r = (a : List Lexeme) × Passes (is_word MATCH) ts a × Matched true m a r

pub optional_match_sound : Sound MatchedOptionally optional_match_of
optional_match_sound ts m r e =
    bind_then (after (is_word MATCH) ts) _ (m, r) e (λ a p e. (a, after_passes (is_word MATCH) ts a p, match_sound true a m r e))

pub optional_match_exact : (m : Match) (ts s : List Lexeme) → MatchedOptionally m ts s → Stops goes_pattern s → optional_match_of ts ≡ Some (m, s)
optional_match_exact m ts s h stop = rw (passes_after (is_word MATCH) ts h.0 h.1) (match_exact true m h.0 s h.2 stop)

pub optional_match_shorter : (m : Match) (ts r : List Lexeme) → MatchedOptionally m ts r → length r < length ts
optional_match_shorter m ts r h = omega (arith, passes_shorter (is_word MATCH) ts h.0 h.1, match_shorter true m h.0 r h.2)
