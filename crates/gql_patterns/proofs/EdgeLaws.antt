-- The laws of edge patterns.
use Rattle.std.proofs.Common.{◌≡◌, ◌<◌, inl, inr, Bool, true, ℕ, List, [], ◌∷◌, length, Option, Some, None, refl, sym, ap, subst, ◌∙◌, arith}
use Rattle.gql_lexer.specs.declared.lexeme.Lexeme.{Lexeme}
use Rattle.gql_lexer.specs.declared.lexeme.Lexeme.TheVariants as lex
use Rattle.gql_lexer.specs.SymbolPlaces.{opening_bracket, closing_bracket, left_arrow, tilde, minus, left_tilde}
use Rattle.gql_ast.specs.Filler.{FillerTree}
use Rattle.gql_ast.specs.Pattern.{Pattern, edge}
use Rattle.gql_ast.specs.PatternMeaning as meaning
use Rattle.gql_ast.specs.declared.pattern.Direction.{Direction}
use Rattle.gql_ast.specs.declared.pattern.Direction.TheVariants as direction
use Rattle.gql_front.specs.Tables.{entry}
use Rattle.gql_front.specs.Reading.{is_sign, after, op_at, chosen, either}
use Rattle.gql_front.proofs.Found.{Goes, Found, exact, longer}
use Rattle.gql_front.proofs.TableLemmas.{entry_is, sign_row, begins_read, read_begins}
use Rattle.gql_parts.specs.Parts.{Passes}
use Rattle.gql_parts.specs.Machinery.FillerReaders.{filler_of}
use Rattle.gql_parts.proofs.PartLaws.{bind_then, finish, passes_after, after_passes, passes_goes, passes_shorter}
use Rattle.gql_parts.proofs.FillerLaws.{filler_sound, filler_shorter}
use Rattle.gql_parts.proofs.LongestLaws.{filler_exact}
use Rattle.gql_patterns.specs.EdgeGrammar.{empty_filler, IsFullEdge, IsShortEdge, IsEdge}
use Rattle.gql_patterns.specs.PatternWords.{symbol_before, symbol_behind, short_symbol}
use Rattle.gql_patterns.specs.Machinery.EdgeReaders.{sign_place, short_edges, short_edge, behind_left_arrow, behind_tilde, behind_minus, behind_left_tilde, full_edges, behind_in, direction_between, full_edge_of, short_edge_of, edge_of}
use Rattle.gql_patterns.proofs.SignSets.{sign_whole, sign_goes}

-- The symbol at the front

place_is : (t : Lexeme) (n : ℕ) → sign_place t ≡ Some n → t ≡ lex.Sign n
place_is (lex.Sign m) n e = cc
place_is (lex.Word w x) n e = absurd cc
place_is (lex.Name x) n e = absurd cc
place_is (lex.Chars x) n e = absurd cc
place_is (lex.Number x) n e = absurd cc
place_is (lex.Param x) n e = absurd cc

place_read : (n : ℕ) (ts r : List Lexeme) → Passes (is_sign n) ts r → op_at sign_place ts ≡ Some (n, r)
place_read n ts r h = ap (op_at sign_place) (sign_whole n ts r h)

read_place : (ts : List Lexeme) (n : ℕ) (r : List Lexeme) → op_at sign_place ts ≡ Some (n, r) → (m : ℕ) → n ≡ m → is_sign m (lex.Sign m) ≡ true → Passes (is_sign m) ts r
read_place ts n r e m same self =
    let h = read_begins sign_place ts n r e in
    (lex.Sign m, self, h.2 ∙ ap (λ (t : Lexeme). t ∷ r) (place_is h.0 n h.1 ∙ ap lex.Sign same))

-- The symbols of a direction

before_self : (d : Direction) → is_sign (symbol_before d) (lex.Sign (symbol_before d)) ≡ true
before_self direction.Left = refl
before_self direction.Undirected = refl
before_self direction.Right = refl
before_self direction.LeftOrUndirected = refl
before_self direction.UndirectedOrRight = refl
before_self direction.LeftOrRight = refl
before_self direction.Any = refl

behind_self : (d : Direction) → is_sign (symbol_behind d) (lex.Sign (symbol_behind d)) ≡ true
behind_self direction.Left = refl
behind_self direction.Undirected = refl
behind_self direction.Right = refl
behind_self direction.LeftOrUndirected = refl
behind_self direction.UndirectedOrRight = refl
behind_self direction.LeftOrRight = refl
behind_self direction.Any = refl

between : (d : Direction) → direction_between (symbol_before d) (symbol_behind d) ≡ Some d
unfolding direction_between
between direction.Left = refl
between direction.Undirected = refl
between direction.Right = refl
between direction.LeftOrUndirected = refl
between direction.UndirectedOrRight = refl
between direction.LeftOrRight = refl
between direction.Any = refl

-- the two symbols of a direction
abbrev Between : ℕ → ℕ → Direction → Type 0
Between first last d = (first ≡ symbol_before d) × (last ≡ symbol_behind d)

-- each row of the table
rows : (last : ℕ) (first : ℕ) (table : List (ℕ × Direction)) → entry full_edges first ≡ Some table → (d : Direction) → entry table last ≡ Some d → Between first last d
rows last first table e =
    entry_is (λ n table. (d : Direction) → entry table last ≡ Some d → Between n last d) full_edges (
      λ d p. entry_is (λ m d. Between left_arrow m d) behind_left_arrow ((refl, refl), ((refl, refl), tt)) last d p,
      (
        λ d p. entry_is (λ m d. Between tilde m d) behind_tilde ((refl, refl), ((refl, refl), tt)) last d p,
        (
          λ d p. entry_is (λ m d. Between minus m d) behind_minus ((refl, refl), ((refl, refl), tt)) last d p,
          (λ d p. entry_is (λ m d. Between left_tilde m d) behind_left_tilde ((refl, refl), tt) last d p, tt),
        ),
      ),
    ) first table e

symbols_of : (first last : ℕ) (d : Direction) → direction_between first last ≡ Some d → Between first last d
unfolding direction_between
symbols_of first last d e = go (entry full_edges first) refl e
  where
    go : (o : Option (List (ℕ × Direction))) → entry full_edges first ≡ o → behind_in last o ≡ Some d → Between first last d
    go None p k = absurd cc
    go (Some table) p k = rows last first table p d k

short_is : (t : Lexeme) (d : Direction) → short_edge t ≡ Some d → is_sign (short_symbol d) t ≡ true
short_is = sign_row (λ t d. is_sign (short_symbol d) t ≡ true) short_edges (refl, (refl, (refl, (refl, (refl, (refl, (refl, tt)))))))

short_says : (d : Direction) → short_edge (lex.Sign (short_symbol d)) ≡ Some d
short_says direction.Left = refl
short_says direction.Undirected = refl
short_says direction.Right = refl
short_says direction.LeftOrUndirected = refl
short_says direction.UndirectedOrRight = refl
short_says direction.LeftOrRight = refl
short_says direction.Any = refl

-- Full forms

-- an edge of some direction
abbrev pub SomeEdge : (Direction → FillerTree → List Lexeme → List Lexeme → Type 0) → Pattern → List Lexeme → List Lexeme → Type 0
SomeEdge P x ts r = (d : Direction) × (f : FillerTree) × (x ≡ edge d f) × P d f ts r

full_sound : (ts : List Lexeme) (x : Pattern) (r : List Lexeme) → full_edge_of ts ≡ Some (x, r) → SomeEdge IsFullEdge x ts r
unfolding full_edge_of
full_sound ts x r e =
    bind_then (op_at sign_place ts) _ (x, r) e (λ first p e.
    bind_then (after (is_sign opening_bracket) first.1) _ (x, r) e (λ a q e.
    bind_then (filler_of a) _ (x, r) e (λ f k e.
    bind_then (after (is_sign closing_bracket) f.1) _ (x, r) e (λ b l e.
    bind_then (op_at sign_place b) _ (x, r) e (λ last n e.
    bind_then (direction_between first.0 last.0) _ (x, r) e (λ d w e.
    let same = symbols_of first.0 last.0 d w in
    finish (λ x r. SomeEdge IsFullEdge x ts r) (edge d (meaning.filler_of f.0)) last.1 x r e (
      d,
      meaning.filler_of f.0,
      refl,
      (
        first.1,
        read_place ts first.0 first.1 p (symbol_before d) same.0 (before_self d),
        a,
        after_passes (is_sign opening_bracket) first.1 a q,
        f.1,
        (f.0, refl, filler_sound a f.0 f.1 k),
        b,
        after_passes (is_sign closing_bracket) f.1 b l,
        read_place b last.0 last.1 n (symbol_behind d) same.1 (behind_self d),
      ),
    )))))))

full_exact : (d : Direction) (f : FillerTree) (ts s : List Lexeme) → IsFullEdge d f ts s → full_edge_of ts ≡ Some (edge d f, s)
unfolding full_edge_of
full_exact d f ts s h =
    rw (
      place_read (symbol_before d) ts h.0 h.1,
      passes_after (is_sign opening_bracket) h.0 h.2 h.3,
      filler_exact closing_bracket refl h.5.0 h.2 h.4 h.6 h.5.2 h.7,
      passes_after (is_sign closing_bracket) h.4 h.6 h.7,
      place_read (symbol_behind d) h.6 s h.8,
      between d,
    ) (ap (λ (z : FillerTree). Some (edge d z, s)) h.5.1)

-- behind the first symbol
full_behind : (d : Direction) (f : FillerTree) (ts r : List Lexeme) (h : IsFullEdge d f ts r) → length r < length h.0
full_behind d f ts r h =
    omega (
      arith,
      passes_shorter (is_sign opening_bracket) h.0 h.2 h.3,
      filler_shorter h.5.0 h.2 h.4 h.5.2,
      passes_shorter (is_sign closing_bracket) h.4 h.6 h.7,
      passes_shorter (is_sign (symbol_behind d)) h.6 r h.8,
    )

-- Short forms

short_sound : (ts : List Lexeme) (x : Pattern) (r : List Lexeme) → short_edge_of ts ≡ Some (x, r) → SomeEdge IsShortEdge x ts r
unfolding short_edge_of
short_sound ts x r e =
    bind_then (op_at short_edge ts) _ (x, r) e (λ d p e.
    let begins = read_begins short_edge ts d.0 d.1 p in
    finish (λ x r. SomeEdge IsShortEdge x ts r) (edge d.0 empty_filler) d.1 x r e
    (d.0, empty_filler, refl, (refl, (begins.0, short_is begins.0 d.0 begins.1, begins.2))))

short_exact : (d : Direction) (f : FillerTree) (ts s : List Lexeme) → IsShortEdge d f ts s → short_edge_of ts ≡ Some (edge d f, s)
unfolding short_edge_of
short_exact d f ts s h =
    rw (begins_read short_edge d ts s (lex.Sign (short_symbol d), short_says d, sign_whole (short_symbol d) ts s h.1))
    (ap (λ (z : FillerTree). Some (edge d z, s)) (sym h.0))

-- Both

pub edge_sound : (ts : List Lexeme) (x : Pattern) (r : List Lexeme) → edge_of ts ≡ Some (x, r) → SomeEdge IsEdge x ts r
unfolding edge_of either
edge_sound ts x r e = go (full_edge_of ts) refl e
  where
    go : (o : Option (Pattern × List Lexeme)) → full_edge_of ts ≡ o → chosen o (short_edge_of ts) ≡ Some (x, r) → SomeEdge IsEdge x ts r
    go None p k = let h = short_sound ts x r k in (h.0, h.1, h.2, inr h.3)
    go (Some y) p k = let h = full_sound ts x r (p ∙ k) in (h.0, h.1, h.2, inl h.3)

-- an edge may go on with a bracket: a short form is one of the longer ones
abbrev pub goes_edge : Lexeme → Bool
goes_edge t = is_sign opening_bracket t

abbrev behind_first : List Lexeme → List Lexeme
behind_first [] = []
behind_first (t ∷ ts) = ts

-- a full form is there, where a short one was derived
more_found : (d : Direction) (f : FillerTree) (ts s : List Lexeme) → IsShortEdge d f ts s → (x : Pattern) (r : List Lexeme) → full_edge_of ts ≡ Some (x, r)
    → SomeEdge IsFullEdge x ts r → Found (edge_of ts) goes_edge (edge d f) s
unfolding edge_of either
more_found d f ts s h x r p k =
    let full = k.3 in
    let behind : full.0 ≡ s = ap behind_first (sym full.1.2 ∙ h.1.2) in
    longer x r (ap (λ o. chosen o (short_edge_of ts)) p) (omega (arith, full_behind k.0 k.1 ts r full, ap length behind))
    (subst (λ z. Goes goes_edge z) behind (passes_goes (is_sign opening_bracket) full.0 full.2 full.3))

pub edge_found : (d : Direction) (f : FillerTree) (ts s : List Lexeme) → IsEdge d f ts s → Found (edge_of ts) goes_edge (edge d f) s
unfolding edge_of either
edge_found d f ts s (inl h) = exact (ap (λ o. chosen o (short_edge_of ts)) (full_exact d f ts s h))
edge_found d f ts s (inr h) = go (full_edge_of ts) refl
  where
    go : (o : Option (Pattern × List Lexeme)) → full_edge_of ts ≡ o → Found (edge_of ts) goes_edge (edge d f) s
    go None p = exact (ap (λ o. chosen o (short_edge_of ts)) p ∙ short_exact d f ts s h)
    go (Some x) p = more_found d f ts s h x.0 x.1 p (full_sound ts x.0 x.1 p)

pub edge_shorter : (d : Direction) (f : FillerTree) (ts r : List Lexeme) → IsEdge d f ts r → length r < length ts
edge_shorter d f ts r (inl h) = omega (arith, full_behind d f ts r h, passes_shorter (is_sign (symbol_before d)) ts h.0 h.1)
edge_shorter d f ts r (inr h) = passes_shorter (is_sign (short_symbol d)) ts r h.1

-- an edge begins with one of the symbols
pub edge_goes : (g : Lexeme → Bool) → ((d : Direction) → g (lex.Sign (symbol_before d)) ≡ true) → ((d : Direction) → g (lex.Sign (short_symbol d)) ≡ true)
    → (d : Direction) (f : FillerTree) (ts r : List Lexeme) → IsEdge d f ts r → Goes g ts
edge_goes g full short d f ts r (inl h) = sign_goes (symbol_before d) g (full d) ts h.0 h.1
edge_goes g full short d f ts r (inr h) = sign_goes (short_symbol d) g (short d) ts r h.1
