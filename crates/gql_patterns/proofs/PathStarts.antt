-- With which lexemes path patterns begin, that what derives one takes a lexeme at least, and with which lexemes each level
-- may go on.
use Rattle.std.proofs.Common.{◌≡◌, ◌<◌, ◌≤◌, Bool, true, false, ◌||◌, ℕ, List, [], ◌∷◌, length, Option, Some, None, refl, sym, ap, subst, arith}
use Rattle.gql_lexer.specs.declared.lexeme.Lexeme.{Lexeme}
use Rattle.gql_lexer.specs.declared.lexeme.Lexeme.TheVariants as lex
use Rattle.gql_lexer.specs.SymbolPlaces as symbol
use Rattle.gql_lexer.specs.WordPlaces.{WHERE}
use Rattle.gql_ast.specs.Tree.{Tree}
use Rattle.gql_ast.specs.Filler.{FillerTree}
use Rattle.gql_ast.specs.Pattern.{Pattern, Patterns, node, edge, paren, repeated, optional, sequence, alternation, multiset_alternation, no_patterns, more_patterns}
use Rattle.gql_ast.specs.declared.mode.Mode.{Mode}
use Rattle.gql_ast.specs.declared.pattern.Direction.{Direction}
use Rattle.gql_ast.specs.declared.pattern.Direction.TheVariants as direction
use Rattle.gql_front.specs.Reading.{is_sign, is_word, name_in}
use Rattle.gql_front.proofs.Found.{Goes, Goes-left, Goes-right, is_there}
use Rattle.gql_exprs.specs.Machinery.LabelReaders.{symbol_op}
use Rattle.gql_parts.specs.Parts.{IsOptional}
use Rattle.gql_parts.specs.FillerGrammar.{IsWhere}
use Rattle.gql_parts.proofs.PartLaws.{Stops, Apart, nothing, passes_shorter, passes_stops, sign_apart, optional_stops}
use Rattle.gql_parts.proofs.FillerLaws.{where_shorter, filler_shorter, colon_apart}
use Rattle.gql_parts.proofs.PartLaws.{word_apart}
use Rattle.gql_patterns.specs.PatternWords.{symbol_before, short_symbol}
use Rattle.gql_patterns.specs.PrefixGrammar.{IsMode}
use Rattle.gql_patterns.specs.PathGrammar.{IsNode, MayHold, IsPath, AreFactors, AreSides}
use Rattle.gql_patterns.proofs.SignSets.{Signs, among, among_apart, goes_stops, sign_goes}
use Rattle.gql_patterns.proofs.FillingLaws.{filler_stops}
use Rattle.gql_patterns.proofs.EdgeLaws.{goes_edge, edge_shorter, edge_goes}
use Rattle.gql_patterns.proofs.QuantifierLaws.{begins_repetition, quantifier_shorter}
use Rattle.gql_patterns.proofs.PrefixLaws.{is_mode, part_mode_shorter}

-- With which lexemes each level may go on

abbrev pub goes_factor : Lexeme → Bool
goes_factor t = (goes_edge t || begins_repetition t) || nothing t

-- the symbols with which a path pattern begins
abbrev pub path_signs : Signs
path_signs =
    (symbol.opening, tt) ∷ (symbol.left_arrow, tt) ∷ (symbol.tilde, tt) ∷ (symbol.right_arrow, tt) ∷ (symbol.left_tilde, tt)
    ∷ (symbol.right_tilde, tt) ∷ (symbol.left_right_arrow, tt) ∷ (symbol.minus, tt) ∷ []

abbrev pub begins_path : Lexeme → Bool
begins_path t = among path_signs t

abbrev pub goes_term : Lexeme → Bool
goes_term t = goes_factor t || begins_path t

abbrev pub goes_path : Lexeme → Bool
goes_path t = (goes_term t || is_there (symbol_op symbol.bar t)) || is_there (symbol_op symbol.multiset_bar t)

-- With which lexemes a path pattern begins

before_begins : (d : Direction) → begins_path (lex.Sign (symbol_before d)) ≡ true
before_begins direction.Left = refl
before_begins direction.Undirected = refl
before_begins direction.Right = refl
before_begins direction.LeftOrUndirected = refl
before_begins direction.UndirectedOrRight = refl
before_begins direction.LeftOrRight = refl
before_begins direction.Any = refl

short_begins : (d : Direction) → begins_path (lex.Sign (short_symbol d)) ≡ true
short_begins direction.Left = refl
short_begins direction.Undirected = refl
short_begins direction.Right = refl
short_begins direction.LeftOrUndirected = refl
short_begins direction.UndirectedOrRight = refl
short_begins direction.LeftOrRight = refl
short_begins direction.Any = refl

pub path_begins : (x : Pattern) (ts r : List Lexeme) → IsPath x ts r → Goes begins_path ts
path_begins (node f) ts r h = sign_goes symbol.opening begins_path refl ts h.0 h.1
path_begins (edge d f) ts r h = edge_goes begins_path before_begins short_begins d f ts r h
path_begins (paren m x c) ts r h = sign_goes symbol.opening begins_path refl ts h.0 h.1
path_begins (repeated x q) ts r h = path_begins x ts h.1 h.2
path_begins (optional x) ts r h = path_begins x ts h.1 h.2
path_begins (sequence x xs) ts r h = path_begins x ts h.1 h.2
path_begins (alternation x xs) ts r h = path_begins x ts h.1 h.2
path_begins (multiset_alternation x xs) ts r h = path_begins x ts h.1 h.2

-- the next lexeme begins a path pattern, so it is in no set apart from those symbols
pub before_path : (g : Lexeme → Bool) → Apart begins_path g → (x : Pattern) (ts r : List Lexeme) → IsPath x ts r → Stops g ts
before_path g apart x ts r h = goes_stops begins_path g apart ts (path_begins x ts r h)

-- no factor goes on with what begins one
pub factor_apart : Apart begins_path goes_factor
factor_apart = among_apart path_signs goes_factor refl

-- no edge goes on with what begins a repetition
pub edge_apart : Apart begins_repetition goes_edge
edge_apart = among_apart ((symbol.question, tt) ∷ (symbol.star, tt) ∷ (symbol.plus, tt) ∷ (symbol.opening_brace, tt) ∷ []) goes_edge refl

-- What derives has a lexeme at least

pub node_shorter : (f : FillerTree) (ts r : List Lexeme) → IsNode f ts r → length r < length ts
node_shorter f ts r h = omega (arith, filler_shorter h.1.0 ts h.0 h.1.2, passes_shorter (is_sign symbol.closing) h.0 r h.2)

pub hold_shorter : (c : Option Tree) (ts r : List Lexeme) → MayHold c ts r → length r ≤ length ts
hold_shorter c ts r h = where_shorter h.0 ts r h.2

mutual
  pub path_shorter : (x : Pattern) (ts r : List Lexeme) → IsPath x ts r → length r < length ts
  path_shorter (node f) ts r h = omega (arith, passes_shorter (is_sign symbol.opening) ts h.0 h.1, node_shorter f h.0 r h.2)
  path_shorter (edge d f) ts r h = edge_shorter d f ts r h
  path_shorter (paren m x c) ts r h =
      omega (
        arith,
        passes_shorter (is_sign symbol.opening) ts h.0 h.1,
        part_mode_shorter m h.0 h.2 h.3,
        path_shorter x h.2 h.4 h.5,
        hold_shorter c h.4 h.6 h.7,
        passes_shorter (is_sign symbol.closing) h.6 r h.8,
      )
  path_shorter (repeated x q) ts r h = omega (arith, path_shorter x ts h.1 h.2, quantifier_shorter q h.1 r h.3)
  path_shorter (optional x) ts r h = omega (arith, path_shorter x ts h.1 h.2, passes_shorter (is_sign symbol.question) h.1 r h.3)
  path_shorter (sequence x xs) ts r h = omega (arith, path_shorter x ts h.1 h.2, factors_shorter xs h.1 r h.4)
  path_shorter (alternation x xs) ts r h = omega (arith, path_shorter x ts h.1 h.2, sides_shorter xs symbol.bar h.1 r h.4)
  path_shorter (multiset_alternation x xs) ts r h = omega (arith, path_shorter x ts h.1 h.2, sides_shorter xs symbol.multiset_bar h.1 r h.4)

  factors_shorter : (xs : Patterns) (ts r : List Lexeme) → AreFactors xs ts r → length r ≤ length ts
  factors_shorter no_patterns ts r h = omega (arith, ap length h)
  factors_shorter (more_patterns x xs) ts r h = omega (arith, path_shorter x ts h.1 h.2, factors_shorter xs h.1 r h.3)

  sides_shorter : (xs : Patterns) (place : ℕ) (ts r : List Lexeme) → AreSides xs place ts r → length r ≤ length ts
  sides_shorter no_patterns place ts r h = omega (arith, ap length h)
  sides_shorter (more_patterns x xs) place ts r h =
      omega (arith, passes_shorter (is_sign place) ts h.0 h.1, path_shorter x h.0 h.3 h.4, sides_shorter xs place h.3 r h.5)

-- Behind an opening parenthesis: what begins a part begins no filler

abbrev pub begins_part : Lexeme → Bool
begins_part t = is_mode t || begins_path t

sign_not_name : (t : Lexeme) (x : List ℕ) → name_in t ≡ Some x → begins_part t ≡ true → ⊥
sign_not_name (lex.Name y) x e i = let j : false ≡ true = i in cc
sign_not_name (lex.Sign m) x e i = absurd cc
sign_not_name (lex.Word w y) x e i = absurd cc
sign_not_name (lex.Chars y) x e i = absurd cc
sign_not_name (lex.Number y) x e i = absurd cc
sign_not_name (lex.Param y) x e i = absurd cc

pub no_node_begins : (f : FillerTree) (ts r : List Lexeme) → IsNode f ts r → Stops begins_part ts
no_node_begins f ts r h =
    filler_stops begins_part (sign_apart symbol.opening_brace begins_part refl) (word_apart WHERE begins_part (λ x. refl)) (colon_apart begins_part refl (λ x. refl))
    sign_not_name h.1.0 ts h.0 h.1.2 (passes_stops (is_sign symbol.closing) begins_part (sign_apart symbol.closing begins_part refl) h.0 r h.2)

-- a mode that may be missing, and a path pattern
pub part_begins : (m : Option Mode) (x : Pattern) (ts b r : List Lexeme) → IsOptional IsMode m ts b → IsPath x b r → Goes begins_part ts
part_begins None x ts b r h k = subst (λ z. Goes begins_part z) (sym h) (Goes-right is_mode begins_path b (path_begins x b r k))
part_begins (Some m) x ts b r h k =
    subst (λ z. Goes begins_part z) (sym h.1.2) (Goes-left is_mode begins_path (h.1.0 ∷ h.0) (ap is_there h.1.1))

-- WHERE that may be missing
pub hold_stops : (g : Lexeme → Bool) → Apart (is_word WHERE) g → (c : Option Tree) (m s : List Lexeme) → MayHold c m s → Stops g s → Stops g m
hold_stops g word c m s h stop = optional_stops IsWhere g h.0 m s (λ x k. passes_stops (is_word WHERE) g word m k.0 k.1) h.2 stop
