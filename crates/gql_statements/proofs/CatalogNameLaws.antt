-- The laws of names that are created or dropped.
use Rattle.std.proofs.Common.{◌≡◌, Bool, true, false, ℕ, List, Option, Some, refl, sym, ap, subst, ◌∙◌}
use Rattle.gql_lexer.specs.declared.lexeme.Lexeme.{Lexeme}
use Rattle.gql_lexer.specs.WordPlaces.{EXISTS, IF, NOT, TYPE}
use Rattle.gql_front.specs.Tables.{Begins}
use Rattle.gql_front.specs.Reading.{◌>>=◌, Reader, is_word, name_in, after, op_at}
use Rattle.gql_front.proofs.TableLemmas.{begins_read, read_begins}
use Rattle.gql_parts.specs.Parts.{Passes}
use Rattle.gql_parts.proofs.PartLaws.{Stops, bind_then, finish, passes_after, after_passes, stops_after, word_apart, passes_stops}
use Rattle.gql_type.specs.Machinery.TypeReaders.{are_said}
use Rattle.gql_type.proofs.WordsLaws.{words_sound, words_exact}
use Rattle.gql_statements.specs.CatalogGrammar.{SaysIfNotExists, SaysIfExists, NamesCreated, NamesDropped}
use Rattle.gql_statements.specs.Machinery.CatalogReaders.{after_if_not_exists, if_not_exists_of, after_if_exists, if_exists_of, created_name_of, dropped_name_of}
use Rattle.gql_statements.proofs.WordLaws.{name_stops}

-- A name behind words that may stand before it, of which the first is IF

module _ (behind : List Lexeme → Option (List Lexeme)) (Says : Bool → List Lexeme → List Lexeme → Type 0) where
  abbrev said : List Lexeme → Bool × List Lexeme
  said ts = are_said ts (behind ts)

  abbrev name_behind : Reader (Bool × List ℕ)
  name_behind ts = op_at name_in (said ts).1 >>= λ x. Some (((said ts).0, x.0), x.1)

  abbrev Names : Bool → List ℕ → List Lexeme → List Lexeme → Type 0
  Names lenient x ts r = (a : List Lexeme) × Says lenient ts a × Begins name_in x a r

  name_sound : ((ts : List Lexeme) → Says (said ts).0 ts (said ts).1) → (ts : List Lexeme) (n : Bool × List ℕ) (r : List Lexeme) → name_behind ts ≡ Some (n, r) → Names n.0 n.1 ts r
  name_sound sound ts n r e =
      bind_then (op_at name_in (said ts).1) _ (n, r) e (λ x p e.
      finish (λ n r. Names n.0 n.1 ts r) ((said ts).0, x.0) x.1 n r e ((said ts).1, sound ts, read_begins name_in (said ts).1 x.0 x.1 p))

  name_exact : ((lenient : Bool) (ts s : List Lexeme) → Says lenient ts s → Stops (is_word IF) s → said ts ≡ (lenient, s)) → (lenient : Bool) (x : List ℕ) (ts s : List Lexeme)
      → Names lenient x ts s → name_behind ts ≡ Some ((lenient, x), s)
  name_exact exact lenient x ts s h =
      let told = exact lenient ts h.0 h.1 (name_stops IF x h.0 s h.2) in
      ap (λ (z : Bool × List Lexeme). op_at name_in z.1 >>= λ x. Some ((z.0, x.0), x.1)) told
      ∙ ap (λ (o : Option (List ℕ × List Lexeme)). o >>= λ x. Some ((lenient, x.0), x.1)) (begins_read name_in x h.0 s h.2)

  name_untyped : ((ts a : List Lexeme) → Says false ts a → ts ≡ a) → ((ts a : List Lexeme) → Says true ts a → (b : List Lexeme) × Passes (is_word IF) ts b) → (lenient : Bool) (x : List ℕ) (ts r : List Lexeme)
      → Names lenient x ts r → Stops (is_word TYPE) ts
  name_untyped unsaid begins false x ts r h = subst (λ z. Stops (is_word TYPE) z) (sym (unsaid ts h.0 h.1)) (name_stops TYPE x h.0 r h.2)
  name_untyped unsaid begins true x ts r h = let i = begins ts h.0 h.1 in passes_stops (is_word IF) (is_word TYPE) (word_apart IF (is_word TYPE) (λ x. refl)) ts i.0 i.1

-- [IF NOT EXISTS]

if_not_exists_sound : (ts : List Lexeme) → SaysIfNotExists (if_not_exists_of ts).0 ts (if_not_exists_of ts).1
unfolding if_not_exists_of after_if_not_exists
if_not_exists_sound =
    words_sound after_if_not_exists SaysIfNotExists (λ ts. refl) (λ ts r e.
    bind_then (after (is_word IF) ts) _ r e (λ a p e.
    bind_then (after (is_word NOT) a) _ r e (λ b q e.
    (a, after_passes (is_word IF) ts a p, b, after_passes (is_word NOT) a b q, after_passes (is_word EXISTS) b r e))))

if_not_exists_exact : (lenient : Bool) (ts s : List Lexeme) → SaysIfNotExists lenient ts s → Stops (is_word IF) s → if_not_exists_of ts ≡ (lenient, s)
unfolding if_not_exists_of after_if_not_exists
if_not_exists_exact lenient ts s h stop =
    words_exact after_if_not_exists SaysIfNotExists (λ ts r h. h)
    (λ ts r h. rw (passes_after (is_word IF) ts h.0 h.1, passes_after (is_word NOT) h.0 h.2 h.3) (passes_after (is_word EXISTS) h.2 r h.4)) lenient ts s h
    (rw (stops_after (is_word IF) s stop) refl)

-- [IF EXISTS]

if_exists_sound : (ts : List Lexeme) → SaysIfExists (if_exists_of ts).0 ts (if_exists_of ts).1
unfolding if_exists_of after_if_exists
if_exists_sound =
    words_sound after_if_exists SaysIfExists (λ ts. refl) (λ ts r e.
    bind_then (after (is_word IF) ts) _ r e (λ a p e. (a, after_passes (is_word IF) ts a p, after_passes (is_word EXISTS) a r e)))

if_exists_exact : (lenient : Bool) (ts s : List Lexeme) → SaysIfExists lenient ts s → Stops (is_word IF) s → if_exists_of ts ≡ (lenient, s)
unfolding if_exists_of after_if_exists
if_exists_exact lenient ts s h stop =
    words_exact after_if_exists SaysIfExists (λ ts r h. h) (λ ts r h. rw (passes_after (is_word IF) ts h.0 h.1) (passes_after (is_word EXISTS) h.0 r h.2)) lenient ts s h
    (rw (stops_after (is_word IF) s stop) refl)

-- Names that are created

pub created_name_sound : (ts : List Lexeme) (n : Bool × List ℕ) (r : List Lexeme) → created_name_of ts ≡ Some (n, r) → NamesCreated n.0 n.1 ts r
unfolding created_name_of if_not_exists_of
created_name_sound = name_sound after_if_not_exists SaysIfNotExists if_not_exists_sound

pub created_name_exact : (lenient : Bool) (x : List ℕ) (ts s : List Lexeme) → NamesCreated lenient x ts s → created_name_of ts ≡ Some ((lenient, x), s)
unfolding created_name_of if_not_exists_of
created_name_exact = name_exact after_if_not_exists SaysIfNotExists if_not_exists_exact

pub created_untyped : (lenient : Bool) (x : List ℕ) (ts r : List Lexeme) → NamesCreated lenient x ts r → Stops (is_word TYPE) ts
created_untyped = name_untyped after_if_not_exists SaysIfNotExists (λ ts a h. h) (λ ts a h. (h.0, h.1))

-- Names that are dropped

pub dropped_name_sound : (ts : List Lexeme) (n : Bool × List ℕ) (r : List Lexeme) → dropped_name_of ts ≡ Some (n, r) → NamesDropped n.0 n.1 ts r
unfolding dropped_name_of if_exists_of
dropped_name_sound = name_sound after_if_exists SaysIfExists if_exists_sound

pub dropped_name_exact : (lenient : Bool) (x : List ℕ) (ts s : List Lexeme) → NamesDropped lenient x ts s → dropped_name_of ts ≡ Some ((lenient, x), s)
unfolding dropped_name_of if_exists_of
dropped_name_exact = name_exact after_if_exists SaysIfExists if_exists_exact

pub dropped_untyped : (lenient : Bool) (x : List ℕ) (ts r : List Lexeme) → NamesDropped lenient x ts r → Stops (is_word TYPE) ts
dropped_untyped = name_untyped after_if_exists SaysIfExists (λ ts a h. h) (λ ts a h. (h.0, h.1))
