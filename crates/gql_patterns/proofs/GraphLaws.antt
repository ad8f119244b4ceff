-- Reading a graph pattern finds the longest front that derives one, with its one tree.
use Rattle.std.proofs.Common.{◌≡◌, ◌≤◌, Bool, true, false, ◌||◌, List, [], ◌∷◌, length, Option, Some, None, refl, sym, ap, subst, ◌∙◌, arith}
use Rattle.gql_lexer.specs.declared.lexeme.Lexeme.{Lexeme}
use Rattle.gql_lexer.specs.SymbolPlaces.{comma}
use Rattle.gql_lexer.specs.WordPlaces.{WHERE}
use Rattle.gql_ast.specs.declared.expr.Expr.{Expr}
use Rattle.gql_ast.specs.declared.path.GraphPattern.{GraphPattern}
use Rattle.gql_ast.specs.declared.path.PathPattern.{PathPattern}
use Rattle.gql_front.specs.Longest.{Longest}
use Rattle.gql_front.specs.Reading.{is_sign, is_word, step}
use Rattle.gql_front.proofs.Agree.{is_longest}
use Rattle.gql_front.proofs.Found.{Goes, Goes-left, Goes-right, Found, exact, longer, Sound, exact_at, some_is, is_there, StepIs, step_goes, step_sound, step_complete}
use Rattle.gql_front.proofs.LexemeTests.{cond_some_is, sign_is}
use Rattle.gql_front.proofs.Chains.{operators_apart, sequence_found}
use Rattle.gql_exprs.specs.Machinery.LeafReaders.{comma_op}
use Rattle.gql_parts.specs.Parts.{IsOptional, AreOthers, IsListOf}
use Rattle.gql_parts.specs.FillerGrammar.{IsWhere}
use Rattle.gql_parts.specs.Machinery.PartReaders.{taken, listed}
use Rattle.gql_parts.specs.Machinery.FillerReaders.{where_of}
use Rattle.gql_parts.proofs.PartLaws.{Stops, bind_then, finish, word_apart, passes_stops, always_given}
use Rattle.gql_parts.proofs.ListLaws.{others_are, listed_sound}
use Rattle.gql_parts.proofs.FillerLaws.{where_sound}
use Rattle.gql_parts.proofs.LongestLaws.{goes_where, where_found}
use Rattle.gql_patterns.specs.PatternGrammar.{IsPathPattern, IsGraphPattern, Derives}
use Rattle.gql_patterns.specs.Machinery.PatternReaders.{path_pattern_of, graph_pattern_of}
use Rattle.gql_patterns.proofs.PathStarts.{goes_path}
use Rattle.gql_patterns.proofs.PatternLaws.{path_pattern_sound, path_pattern_found, path_pattern_shorter}

-- Lists

no_comma : (t : Lexeme) (o : Unit {0}) → comma_op t ≡ Some o → goes_path t ≡ true → ⊥
no_comma t o e h = let q = ap goes_path (sign_is comma t (cond_some_is (is_sign comma t) tt o e).0) in cc

-- with which lexemes a list goes on
abbrev pub goes_list : Lexeme → Bool
goes_list t = goes_path t || is_there (comma_op t)

list_found : (ps : List PathPattern) (ts s : List Lexeme) → IsListOf IsPathPattern ps ts s → Found (listed path_pattern_of ts) goes_list ps s
list_found [] ts s h = absurd h
list_found (p ∷ ps) ts s h =
    sequence_found path_pattern_of (step comma_op path_pattern_of taken) (λ x xs. x ∷ xs) IsPathPattern (StepIs comma_op IsPathPattern taken) (AreOthers IsPathPattern) (others_are path_pattern_of IsPathPattern)
    path_pattern_sound (step_sound comma_op path_pattern_of taken IsPathPattern path_pattern_sound) path_pattern_shorter
    (λ c ts r k. omega (arith, ap length k.whole, path_pattern_shorter k.item k.behind r k.derived)) (length ts) goes_path (λ t. is_there (comma_op t))
    (λ y ts s le k. path_pattern_found y ts s k) (step_complete comma_op path_pattern_of taken (length ts) IsPathPattern goes_path (λ y ts s le k. path_pattern_found y ts s k))
    (operators_apart goes_path comma_op IsPathPattern taken no_comma) (step_goes comma_op path_pattern_of taken) p ps ts h.0 s (omega arith) h.1 h.2

-- WHERE

where_given : (ts : List Lexeme) → (y : Option Expr × List Lexeme) × (where_of ts ≡ Some y) × (length y.1 ≤ length ts)
where_given ts = always_given (where_of ts) goes_where None ts (where_found None ts ts refl)

-- a list goes on with no WHERE
no_where : (c : Option Expr) (m s : List Lexeme) → IsOptional IsWhere c m s → Goes goes_list m → m ≡ s
no_where None m s h i = h
no_where (Some c) m s h i = absurd (passes_stops (is_word WHERE) goes_list (word_apart WHERE goes_list (λ x. refl)) m h.0 h.1 i)

-- Graph patterns

pub graph_pattern_sound : Sound IsGraphPattern graph_pattern_of
unfolding graph_pattern_of
graph_pattern_sound ts g r e =
    bind_then (listed path_pattern_of ts) _ (g, r) e (λ ps p e.
    bind_then (where_of ps.1) _ (g, r) e (λ w q e.
    finish (λ g r. IsGraphPattern g ts r) (record { different = false; paths = ps.0; condition = w.0 }) w.1 g r e
    (refl, ps.1, listed_sound path_pattern_of IsPathPattern path_pattern_sound ts ps.0 ps.1 p, where_sound ps.1 w.0 w.1 q)))

-- with which lexemes a graph pattern goes on
abbrev pub goes_pattern : Lexeme → Bool
goes_pattern t = goes_list t || goes_where t

module _ (g : GraphPattern) (ts s : List Lexeme) (h : IsGraphPattern g ts s) where
  same : record { different = false; paths = g.paths; condition = g.condition } ≡ g
  same = λ i. record { different = sym h.0 i; paths = g.paths; condition = g.condition }

  behind_list : listed path_pattern_of ts ≡ Some (g.paths, h.1) → Found (where_of h.1) goes_where g.condition s → Found (graph_pattern_of ts) goes_pattern g s
  unfolding graph_pattern_of
  behind_list e (exact w) = exact (rw (e, w) (ap (λ z. Some (z, s)) same))
  behind_list e (longer y r w l i) =
      longer (record { different = false; paths = g.paths; condition = y }) r (rw (e, w) refl) l (Goes-right goes_list goes_where s i)

  whole : Found (listed path_pattern_of ts) goes_list g.paths h.1 → Found (graph_pattern_of ts) goes_pattern g s
  unfolding graph_pattern_of
  whole (exact e) = behind_list e (where_found g.condition h.1 s h.3)
  whole (longer ps r e l i) =
      let last = where_given r in
      let missing = no_where g.condition h.1 s h.3 i in
      longer (record { different = false; paths = ps; condition = last.0.0 }) last.0.1 (rw (e, last.1) refl) (omega (arith, l, last.2, ap length missing))
      (Goes-left goes_list goes_where s (subst (λ z. Goes goes_list z) missing i))

-- what is derived is read, or more is, and then the next lexeme is one with which a graph pattern may go on
pub graph_pattern_found : (g : GraphPattern) (ts s : List Lexeme) → IsGraphPattern g ts s → Found (graph_pattern_of ts) goes_pattern g s
graph_pattern_found g ts s h = whole g ts s h (list_found g.paths ts h.1 h.2)

-- the same where it is read exactly
pub graph_pattern_exact : (g : GraphPattern) (ts s : List Lexeme) → IsGraphPattern g ts s → Stops goes_pattern s → graph_pattern_of ts ≡ Some (g, s)
graph_pattern_exact g ts s h stop = exact_at (graph_pattern_of ts) goes_pattern g s (graph_pattern_found g ts s h) stop

pub graph_pattern_longest : (ts : List Lexeme) → Longest IsGraphPattern ts (graph_pattern_of ts)
graph_pattern_longest ts = is_longest IsGraphPattern goes_pattern ts (graph_pattern_of ts) (graph_pattern_sound ts) (λ y s h. graph_pattern_found y ts s h)

pub one_pattern : (ts : List Lexeme) (g h : GraphPattern) → Derives ts g → Derives ts h → g ≡ h
one_pattern ts g h p q =
    ap (λ (z : GraphPattern × List Lexeme). z.0)
    (some_is (g, []) (h, []) (sym (graph_pattern_exact g ts [] p (λ i. i)) ∙ graph_pattern_exact h ts [] q (λ i. i)))
