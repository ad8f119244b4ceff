-- The laws of path patterns, of lists of them, and of graph patterns.
use Rattle.std.proofs.Common.{◌≡◌, ◌<◌, ◌≤◌, inl, inr, Bool, true, false, ℕ, List, length, Option, Some, None, refl, sym, ap, subst, arith}
use Rattle.gql_lexer.specs.declared.lexeme.Lexeme.{Lexeme}
use Rattle.gql_lexer.specs.declared.lexeme.Lexeme.TheVariants as lex
use Rattle.gql_lexer.specs.SymbolPlaces.{equal}
use Rattle.gql_lexer.specs.WordPlaces.{SHORTEST}
use Rattle.gql_ast.specs.Pattern.{Pattern, items_of_patterns, node, edge, paren, repeated, optional, sequence, alternation, multiset_alternation}
use Rattle.gql_ast.specs.PatternMeaning.{pattern_of, path_expr_of}
use Rattle.gql_ast.proofs.PatternLemmas.{path_expr_of-pattern_of}
use Rattle.gql_ast.specs.declared.pattern.PathExpr.{PathExpr}
use Rattle.gql_ast.specs.declared.pattern.PathExpr.TheVariants as path
use Rattle.gql_ast.specs.declared.path.PathPattern.{PathPattern}
use Rattle.gql_ast.specs.declared.path.Prefix.{Prefix}
use Rattle.gql_front.specs.Reading.{is_sign, name_in, after, op_at, maybe}
use Rattle.gql_front.proofs.Found.{Found, exact, longer, Sound, is_there}
use Rattle.gql_front.proofs.TableLemmas.{begins_read, read_begins, begins_shorter}
use Rattle.gql_parts.specs.Parts.{IsOptional}
use Rattle.gql_parts.proofs.PartLaws.{Stops, bind_then, finish, passes_after, after_passes, passes_shorter, stops_op, optional_stops, optional_shorter, begins_stops, maybe_sound, opted_exact}
use Rattle.gql_parts.proofs.MeantLaws.{made_sound, made_is, made_found}
use Rattle.gql_parts.proofs.FillerLaws.{is_name}
use Rattle.gql_patterns.specs.PatternWords.{is_path_word, is_group_word, prefix_word}
use Rattle.gql_patterns.specs.PrefixGrammar.{IsPrefix}
use Rattle.gql_patterns.specs.PathGrammar.{IsPath}
use Rattle.gql_patterns.specs.PatternGrammar.{IsPathName, IsPathExpr, IsPathPattern}
use Rattle.gql_patterns.specs.declared.prefix_word.PrefixWord.{PrefixWord}
use Rattle.gql_patterns.specs.Machinery.PrefixReaders.{prefix_of}
use Rattle.gql_patterns.specs.Machinery.PathReaders.{read_path}
use Rattle.gql_patterns.specs.Machinery.PatternReaders.{read_path_expr, path_name_of, path_pattern_of}
use Rattle.gql_patterns.proofs.SignSets.{among_apart}
use Rattle.gql_patterns.proofs.QuantifierLaws.{is_number}
use Rattle.gql_patterns.proofs.PrefixLaws.{is_mode, Ends, prefix_sound, prefix_exact, prefix_shorter, prefix_begins}
use Rattle.gql_patterns.proofs.PathStarts.{path_signs, goes_path, before_path, path_shorter}
use Rattle.gql_patterns.proofs.PathLevels.{patterns_of-items_of_patterns}
use Rattle.gql_patterns.proofs.PathChains.{path_is_sound, path_is_found}
use Rattle.gql_front.specs.Reading.{is_word}

-- Path pattern expressions

-- what derives is the meaning of a path pattern expression
abbrev Written : Pattern → Type 0
Written x = (e : PathExpr) × (pattern_of e ≡ x)

written : (x : Pattern) (ts r : List Lexeme) → IsPath x ts r → Written x
written (node f) ts r h = (path.Node h.2.1.0, ap node h.2.1.1)
written (edge d f) ts r (inl h) = (path.Edge d h.5.0, ap (λ z. edge d z) h.5.1)
written (edge d f) ts r (inr h) = (path.Edge d (record { variable = None; labels = None; condition = None }), ap (λ z. edge d z) (sym h.0))
written (paren m x c) ts r h = (path.Paren m x h.7.0, ap (λ z. paren m x z) h.7.1)
written (repeated x q) ts r h = (path.Repeat x q, refl)
written (optional x) ts r h = (path.Optional x, refl)
written (sequence x xs) ts r h = (path.Concat x (items_of_patterns xs), ap (λ z. sequence x z) (patterns_of-items_of_patterns xs))
written (alternation x xs) ts r h = (path.Union x (items_of_patterns xs), ap (λ z. alternation x z) (patterns_of-items_of_patterns xs))
written (multiset_alternation x xs) ts r h = (path.MultisetUnion x (items_of_patterns xs), ap (λ z. multiset_alternation x z) (patterns_of-items_of_patterns xs))

meant : (x : Pattern) → Written x → pattern_of (path_expr_of x) ≡ x
meant x w = subst (λ z. pattern_of (path_expr_of z) ≡ z) w.1 (ap pattern_of (path_expr_of-pattern_of w.0))

path_expr_sound : Sound IsPathExpr read_path_expr
unfolding read_path_expr
path_expr_sound = made_sound read_path pattern_of path_expr_of IsPath path_is_sound (λ x ts r d. meant x (written x ts r d))

-- what a function of the code read
pub path_expr_is : (ts : List Lexeme) (e : PathExpr) (r : List Lexeme) → read_path ts ≡ Some (pattern_of e, r) → read_path_expr ts ≡ Some (e, r)
unfolding read_path_expr
path_expr_is = made_is read_path pattern_of path_expr_of path_expr_of-pattern_of

path_expr_found : (e : PathExpr) (ts s : List Lexeme) → IsPathExpr e ts s → Found (read_path_expr ts) goes_path e s
unfolding read_path_expr
path_expr_found e ts s h = made_found read_path pattern_of path_expr_of path_expr_of-pattern_of goes_path ts e s (path_is_found (length ts) (pattern_of e) ts s (omega arith) h)

-- what begins a path pattern expression: no name, no prefix, and nothing with which a prefix may go on

ends : (e : PathExpr) (ts r : List Lexeme) → IsPathExpr e ts r → Ends ts
ends e ts r h = record {
  number = before_path is_number (among_apart path_signs is_number refl) (pattern_of e) ts r h;
  mode = before_path is_mode (among_apart path_signs is_mode refl) (pattern_of e) ts r h;
  path = before_path is_path_word (among_apart path_signs is_path_word refl) (pattern_of e) ts r h;
  group = before_path is_group_word (among_apart path_signs is_group_word refl) (pattern_of e) ts r h;
  shortest = before_path (is_word SHORTEST) (among_apart path_signs (is_word SHORTEST) refl) (pattern_of e) ts r h;
}

abbrev begins_prefix : Lexeme → Bool
begins_prefix t = is_there (prefix_word t)

no_prefix : (e : PathExpr) (ts r : List Lexeme) → IsPathExpr e ts r → Stops begins_prefix ts
no_prefix e ts r h = before_path begins_prefix (among_apart path_signs begins_prefix refl) (pattern_of e) ts r h

no_name : (e : PathExpr) (ts r : List Lexeme) → IsPathExpr e ts r → Stops is_name ts
no_name e ts r h = before_path is_name (among_apart path_signs is_name refl) (pattern_of e) ts r h

-- Names

path_name_sound : Sound IsPathName path_name_of
unfolding path_name_of
path_name_sound ts x r e =
    bind_then (op_at name_in ts) _ (x, r) e (λ y p e.
    bind_then (after (is_sign equal) y.1) _ (x, r) e (λ a q e.
    finish (λ x r. IsPathName x ts r) y.0 a x r e (y.1, read_begins name_in ts y.0 y.1 p, after_passes (is_sign equal) y.1 a q)))

path_name_exact : (x : List ℕ) (ts s : List Lexeme) → IsPathName x ts s → path_name_of ts ≡ Some (x, s)
unfolding path_name_of
path_name_exact x ts s h = rw (begins_read name_in x ts h.0 h.1, passes_after (is_sign equal) h.0 s h.2) refl

no_path_name : (ts : List Lexeme) → Stops is_name ts → path_name_of ts ≡ None
unfolding path_name_of
no_path_name ts stop = rw (stops_op name_in ts stop) refl

path_name_shorter : (x : Option (List ℕ)) (ts r : List Lexeme) → IsOptional IsPathName x ts r → length r ≤ length ts
path_name_shorter = optional_shorter IsPathName (λ x ts r h. omega (arith, begins_shorter name_in x ts h.0 h.1, passes_shorter (is_sign equal) h.0 r h.2))

-- Path patterns

pub path_pattern_sound : Sound IsPathPattern path_pattern_of
unfolding path_pattern_of
path_pattern_sound ts x r e =
    bind_then (maybe path_name_of ts) _ (x, r) e (λ n p e.
    bind_then (maybe prefix_of n.1) _ (x, r) e (λ f q e.
    bind_then (read_path_expr f.1) _ (x, r) e (λ y k e.
    finish (λ x r. IsPathPattern x ts r) (record { name = n.0; prefix = f.0; expr = y.0 }) y.1 x r e
    (n.1, maybe_sound path_name_of IsPathName path_name_sound ts n.0 n.1 p, f.1, maybe_sound prefix_of IsPrefix prefix_sound n.1 f.0 f.1 q, path_expr_sound f.1 y.0 y.1 k))))

prefix_missing : (ts : List Lexeme) → Stops begins_prefix ts → prefix_of ts ≡ None
unfolding prefix_of
prefix_missing ts stop = rw (stops_op prefix_word ts stop) refl

prefix_read : (f : Option Prefix) (e : PathExpr) (ts b s : List Lexeme) → IsOptional IsPrefix f ts b → IsPathExpr e b s → maybe prefix_of ts ≡ Some (f, b)
unfolding maybe
prefix_read f e ts b s h k =
    ap Some (opted_exact prefix_of IsPrefix f ts b (λ x p. prefix_exact x ts b p (ends e b s k)) (prefix_missing b (no_prefix e b s k)) h)

-- a prefix begins with a reserved word
prefix_no_name : (f : Option Prefix) (e : PathExpr) (ts b s : List Lexeme) → IsOptional IsPrefix f ts b → IsPathExpr e b s → Stops is_name ts
prefix_no_name f e ts b s h k =
    optional_stops IsPrefix is_name f ts b (λ x p. let w = prefix_begins x ts b p in begins_stops prefix_word is_name word_no_name w.0 ts w.1 w.2) h (no_name e b s k)
  where
    word_no_name : (t : Lexeme) (w : PrefixWord) → prefix_word t ≡ Some w → is_name t ≡ true → ⊥
    word_no_name (lex.Word v x) w e i = let j : false ≡ true = i in cc
    word_no_name (lex.Sign m) w e i = absurd cc
    word_no_name (lex.Name x) w e i = absurd cc
    word_no_name (lex.Chars x) w e i = absurd cc
    word_no_name (lex.Number x) w e i = absurd cc
    word_no_name (lex.Param x) w e i = absurd cc

name_read : (n : Option (List ℕ)) (ts a : List Lexeme) → IsOptional IsPathName n ts a → Stops is_name a → maybe path_name_of ts ≡ Some (n, a)
unfolding maybe
name_read n ts a h stop = ap Some (opted_exact path_name_of IsPathName n ts a (λ x k. path_name_exact x ts a k) (no_path_name a stop) h)

pub path_pattern_found : (p : PathPattern) (ts s : List Lexeme) → IsPathPattern p ts s → Found (path_pattern_of ts) goes_path p s
unfolding path_pattern_of
path_pattern_found p ts s h = go (path_expr_found p.expr h.2 s h.4)
  where
    named : maybe path_name_of ts ≡ Some (p.name, h.0)
    named = name_read p.name ts h.0 h.1 (prefix_no_name p.prefix p.expr h.0 h.2 s h.3 h.4)

    prefixed : maybe prefix_of h.0 ≡ Some (p.prefix, h.2)
    prefixed = prefix_read p.prefix p.expr h.0 h.2 s h.3 h.4

    go : Found (read_path_expr h.2) goes_path p.expr s → Found (path_pattern_of ts) goes_path p s
    go (exact e) = exact (rw (named, prefixed, e) refl)
    go (longer x r e l i) = longer (record { name = p.name; prefix = p.prefix; expr = x }) r (rw (named, prefixed, e) refl) l i

pub path_pattern_shorter : (p : PathPattern) (ts r : List Lexeme) → IsPathPattern p ts r → length r < length ts
path_pattern_shorter p ts r h =
    omega (arith, path_name_shorter p.name ts h.0 h.1, optional_shorter IsPrefix prefix_shorter p.prefix h.0 h.2 h.3, path_shorter (pattern_of p.expr) h.2 r h.4)
