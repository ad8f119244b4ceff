-- The laws of modes and prefixes.
use Rattle.std.proofs.Common.{◌≡◌, ◌<◌, ◌≤◌, Bool, true, false, ◌||◌, ℕ, List, length, Option, Some, None, refl, ap, ◌∙◌, arith}
use Rattle.gql_lexer.specs.declared.lexeme.Lexeme.{Lexeme}
use Rattle.gql_lexer.specs.declared.lexeme.Lexeme.TheVariants as lex
use Rattle.gql_lexer.specs.WordPlaces.{SHORTEST, GROUP, GROUPS, PATH, PATHS}
use Rattle.gql_ast.specs.declared.mode.Mode.{Mode}
use Rattle.gql_ast.specs.declared.path.Prefix.{Prefix}
use Rattle.gql_ast.specs.declared.path.Prefix.TheVariants as prefix
use Rattle.gql_front.specs.Tables.{Begins}
use Rattle.gql_front.specs.Reading.{is_word, after, op_at, opted}
use Rattle.gql_front.proofs.Found.{Sound, is_there}
use Rattle.gql_front.proofs.TableLemmas.{word_row, begins_read, read_begins, begins_shorter}
use Rattle.gql_parts.specs.Parts.{Passes, IsOptional}
use Rattle.gql_parts.proofs.PartLaws.{Stops, Apart, bind_then, finish, passes_after, after_passes, passes_shorter, may_pass_shorter, stops_after, stops_op, word_apart, passes_stops, begins_stops, optional_stops, optional_shorter, past_sound, past_exact, may_pass_stops, either_apart, opted_sound, opted_exact, said_exact}
use Rattle.gql_patterns.specs.PatternWords.{number_in, mode_words, mode_word, is_path_word, is_group_word, prefix_word}
use Rattle.gql_patterns.specs.PrefixGrammar.{IsMode, MayHaveMode, IsPrefix}
use Rattle.gql_patterns.specs.Machinery.QuantifierReaders.{number_of}
use Rattle.gql_patterns.specs.Machinery.PrefixReaders.{past_path_word, mode_of, part_mode_of, without_path_word, mode_behind, with_mode, all_or_shortest, all_of, any_or_shortest, any_of, shortest_or_groups, shortest_of, prefix_behind, prefix_of}
use Rattle.gql_patterns.specs.declared.prefix_word.PrefixWord.{PrefixWord}
use Rattle.gql_patterns.specs.declared.prefix_word.PrefixWord.TheVariants as says
use Rattle.gql_patterns.proofs.QuantifierLaws.{is_number, IsNumber, number_sound, number_exact, number_shorter}

abbrev pub is_mode : Lexeme → Bool
is_mode t = is_there (mode_word t)

-- one of two words is in no set in which neither is
two_words_apart : (v w : ℕ) (g : Lexeme → Bool) → ((x : List ℕ) → g (lex.Word v x) ≡ false) → ((x : List ℕ) → g (lex.Word w x) ≡ false) → Apart (λ t. is_word v t || is_word w t) g
two_words_apart v w g first second = either_apart (is_word v) (is_word w) g (word_apart v g first) (word_apart w g second)

path_word_apart : (g : Lexeme → Bool) → ((x : List ℕ) → g (lex.Word PATH x) ≡ false) → ((x : List ℕ) → g (lex.Word PATHS x) ≡ false) → Apart is_path_word g
path_word_apart = two_words_apart PATH PATHS

group_word_apart : (g : Lexeme → Bool) → ((x : List ℕ) → g (lex.Word GROUP x) ≡ false) → ((x : List ℕ) → g (lex.Word GROUPS x) ≡ false) → Apart is_group_word g
group_word_apart = two_words_apart GROUP GROUPS

-- Modes in front of a part

mode_sound : Sound IsMode mode_of
unfolding mode_of
mode_sound ts m r e =
    bind_then (op_at mode_word ts) _ (m, r) e (λ x p e.
    finish (λ m r. IsMode m ts r) x.0 (past_path_word x.1) m r e (x.1, read_begins mode_word ts x.0 x.1 p, past_sound is_path_word x.1))

mode_read : (m : Mode) (ts s : List Lexeme) → IsMode m ts s → Stops is_path_word s → mode_of ts ≡ Some (m, s)
unfolding mode_of
mode_read m ts s h stop = rw (begins_read mode_word m ts h.0 h.1) (ap (λ z. Some (m, z)) (past_exact is_path_word h.0 s h.2 stop))

mode_missing : (ts : List Lexeme) → op_at mode_word ts ≡ None → mode_of ts ≡ None
unfolding mode_of
mode_missing ts e = rw e refl

pub part_mode_sound : (ts : List Lexeme) → IsOptional IsMode (part_mode_of ts).0 ts (part_mode_of ts).1
unfolding part_mode_of
part_mode_sound = opted_sound mode_of IsMode mode_sound

no_mode_at : (s : List Lexeme) → Stops is_mode s → mode_of s ≡ None
no_mode_at s stop = mode_missing s (stops_op mode_word s stop)

pub part_mode_exact : (m : Option Mode) (ts s : List Lexeme) → IsOptional IsMode m ts s → Stops is_mode s → Stops is_path_word s → part_mode_of ts ≡ (m, s)
unfolding part_mode_of
part_mode_exact m ts s h mode path = opted_exact mode_of IsMode m ts s (λ x k. mode_read x ts s k path) (no_mode_at s mode) h

pub part_mode_shorter : (m : Option Mode) (ts r : List Lexeme) → IsOptional IsMode m ts r → length r ≤ length ts
part_mode_shorter = optional_shorter IsMode (λ m ts r h. omega (arith, begins_shorter mode_word m ts h.0 h.1, may_pass_shorter is_path_word h.0 r h.2))

-- Modes behind the words of a selector

behind_sound : (ts : List Lexeme) → MayHaveMode (mode_behind ts).0 ts (mode_behind ts).1
unfolding mode_behind
behind_sound ts =
    let m : Option Mode × List Lexeme = opted ts (op_at mode_word ts) in
    (m.1, opted_sound (op_at mode_word) (Begins mode_word) (read_begins mode_word) ts, past_sound is_path_word m.1)

behind_exact : (m : Option Mode) (ts s : List Lexeme) → MayHaveMode m ts s → Stops is_mode s → Stops is_path_word s → mode_behind ts ≡ (m, s)
unfolding mode_behind
behind_exact m ts s h mode path =
    let at_path : Stops is_mode h.0 = may_pass_stops is_path_word is_mode (path_word_apart is_mode (λ x. refl) (λ x. refl)) h.0 s h.2 mode in
    ap without_path_word (said_exact mode_word m ts h.0 h.1 at_path) ∙ ap (λ (z : List Lexeme). (m, z)) (past_exact is_path_word h.0 s h.2 path)

-- with which lexemes they begin
behind_stops : (g : Lexeme → Bool) → ((t : Lexeme) (m : Mode) → mode_word t ≡ Some m → g t ≡ true → ⊥) → Apart is_path_word g → (m : Option Mode) (ts s : List Lexeme)
    → MayHaveMode m ts s → Stops g s → Stops g ts
behind_stops g mode path m ts s h stop =
    optional_stops (Begins mode_word) g m ts h.0 (λ x k. begins_stops mode_word g mode x ts h.0 k) h.1 (may_pass_stops is_path_word g path h.0 s h.2 stop)

mode_apart : (g : Lexeme → Bool) → ((t : Lexeme) (m : Mode) → mode_word t ≡ Some m → g t ≡ false) → (t : Lexeme) (m : Mode) → mode_word t ≡ Some m → g t ≡ true → ⊥
mode_apart g all t m e h = let f = all t m e in cc

mode_no_number : (t : Lexeme) (m : Mode) → mode_word t ≡ Some m → is_number t ≡ true → ⊥
mode_no_number = mode_apart is_number (word_row (λ t m. is_number t ≡ false) mode_words (λ x. (refl, (refl, (refl, (refl, tt))))))

mode_no_shortest : (t : Lexeme) (m : Mode) → mode_word t ≡ Some m → is_word SHORTEST t ≡ true → ⊥
mode_no_shortest = mode_apart (is_word SHORTEST) (word_row (λ t m. is_word SHORTEST t ≡ false) mode_words (λ x. (refl, (refl, (refl, (refl, tt))))))

number_no_shortest : (t : Lexeme) (n : List ℕ) → number_in t ≡ Some n → is_word SHORTEST t ≡ true → ⊥
number_no_shortest (lex.Number y) x e i = cc
number_no_shortest (lex.Sign m) x e i = cc
number_no_shortest (lex.Word w y) x e i = cc
number_no_shortest (lex.Name y) x e i = cc
number_no_shortest (lex.Chars y) x e i = cc
number_no_shortest (lex.Param y) x e i = cc

-- Prefixes: what is read is derived

all_sound : (ts a : List Lexeme) → Begins prefix_word says.All ts a → (o : Option (List Lexeme)) → after (is_word SHORTEST) a ≡ o
    → IsPrefix (all_or_shortest a o).0 ts (all_or_shortest a o).1
all_sound ts a h None p = (a, h, behind_sound a)
all_sound ts a h (Some b) p = (a, h, b, after_passes (is_word SHORTEST) a b p, behind_sound b)

any_sound : (ts a : List Lexeme) → Begins prefix_word says.Any ts a → (x : Prefix) (r : List Lexeme) (o : Option (List Lexeme)) → after (is_word SHORTEST) a ≡ o
    → any_or_shortest a o ≡ Some (x, r) → IsPrefix x ts r
any_sound ts a h x r None p e =
    bind_then (number_of a) _ (x, r) e (λ n k e.
    finish (λ x r. IsPrefix x ts r) (with_mode (prefix.Any n.0) n.1).0 (with_mode (prefix.Any n.0) n.1).1 x r e (a, h, n.1, number_sound a n.0 n.1 k, behind_sound n.1))
any_sound ts a h x r (Some b) p e =
    finish (λ x r. IsPrefix x ts r) (with_mode prefix.AnyShortest b).0 (with_mode prefix.AnyShortest b).1 x r e
    (a, h, b, after_passes (is_word SHORTEST) a b p, behind_sound b)

groups_sound : (ts a b c : List Lexeme) (n : Option (List ℕ)) (m : Option Mode) → Begins prefix_word says.Shortest ts a → IsOptional IsNumber n a b → MayHaveMode m b c
    → (x : Prefix) (r : List Lexeme) (o : Option (List Lexeme)) → after is_group_word c ≡ o → shortest_or_groups n m c o ≡ Some (x, r) → IsPrefix x ts r
groups_sound ts a b c n m h number mode x r (Some d) p e =
    finish (λ x r. IsPrefix x ts r) (prefix.ShortestGroups n m) d x r e (a, h, b, number, c, mode, after_passes is_group_word c d p)
groups_sound ts a b c (Some n) m h number mode x r None p e = finish (λ x r. IsPrefix x ts r) (prefix.Shortest n m) c x r e (a, h, b, number, mode)
groups_sound ts a b c None m h number mode x r None p e = absurd cc

shortest_sound : (ts a : List Lexeme) → Begins prefix_word says.Shortest ts a → (x : Prefix) (r : List Lexeme) → shortest_of a ≡ Some (x, r) → IsPrefix x ts r
unfolding shortest_of
shortest_sound ts a h x r e =
    bind_then (number_of a) _ (x, r) e (λ n k e.
    groups_sound ts a n.1 (mode_behind n.1).1 n.0 (mode_behind n.1).0 h (number_sound a n.0 n.1 k) (behind_sound n.1) x r (after is_group_word (mode_behind n.1).1) refl e)

prefix_behind_sound : (w : PrefixWord) (ts a : List Lexeme) → Begins prefix_word w ts a → (x : Prefix) (r : List Lexeme) → prefix_behind w a ≡ Some (x, r) → IsPrefix x ts r
prefix_behind_sound (says.Mode m) ts a h x r e =
    finish (λ x r. IsPrefix x ts r) (prefix.Mode m) (past_path_word a) x r e (a, h, past_sound is_path_word a)
prefix_behind_sound says.All ts a h x r e = finish (λ x r. IsPrefix x ts r) (all_of a).0 (all_of a).1 x r e (all_sound ts a h (after (is_word SHORTEST) a) refl)
prefix_behind_sound says.Any ts a h x r e = any_sound ts a h x r (after (is_word SHORTEST) a) refl e
prefix_behind_sound says.Shortest ts a h x r e = shortest_sound ts a h x r e

pub prefix_sound : Sound IsPrefix prefix_of
unfolding prefix_of
prefix_sound ts x r e =
    bind_then (op_at prefix_word ts) _ (x, r) e (λ w p e. prefix_behind_sound w.0 ts w.1 (read_begins prefix_word ts w.0 w.1 p) x r e)

-- Prefixes: what is derived is read, where no lexeme stands behind it with which it may go on

-- the next lexeme is none with which some prefix may go on
pub record Ends (s : List Lexeme) : Type 0 where
  pub number : Stops is_number s
  pub mode : Stops is_mode s
  pub path : Stops is_path_word s
  pub group : Stops is_group_word s
  pub shortest : Stops (is_word SHORTEST) s

module _ (s : List Lexeme) (end : Ends s) where
  behind_read : (m : Option Mode) (ts : List Lexeme) → MayHaveMode m ts s → mode_behind ts ≡ (m, s)
  behind_read m ts h = behind_exact m ts s h end.mode end.path

  no_shortest : (m : Option Mode) (ts : List Lexeme) → MayHaveMode m ts s → Stops (is_word SHORTEST) ts
  no_shortest m ts h = behind_stops (is_word SHORTEST) mode_no_shortest (path_word_apart (is_word SHORTEST) (λ x. refl) (λ x. refl)) m ts s h end.shortest

  no_number : (m : Option Mode) (ts : List Lexeme) → MayHaveMode m ts s → Stops is_number ts
  no_number m ts h = behind_stops is_number mode_no_number (path_word_apart is_number (λ x. refl) (λ x. refl)) m ts s h end.number

  all_exact : (m : Option Mode) (a : List Lexeme) → MayHaveMode m a s → all_of a ≡ (prefix.All m, s)
  all_exact m a h = ap (all_or_shortest a) (stops_after (is_word SHORTEST) a (no_shortest m a h)) ∙ rw (behind_read m a h) refl

  all_shortest_exact : (m : Option Mode) (a b : List Lexeme) → Passes (is_word SHORTEST) a b → MayHaveMode m b s → all_of a ≡ (prefix.AllShortest m, s)
  all_shortest_exact m a b p h = ap (all_or_shortest a) (passes_after (is_word SHORTEST) a b p) ∙ rw (behind_read m b h) refl

  any_exact : (n : Option (List ℕ)) (m : Option Mode) (a b : List Lexeme) → IsOptional IsNumber n a b → MayHaveMode m b s → any_of a ≡ Some (prefix.Any n m, s)
  any_exact n m a b number h =
      let first = optional_stops IsNumber (is_word SHORTEST) n a b (λ x k. begins_stops number_in (is_word SHORTEST) number_no_shortest x a b k) number (no_shortest m b h) in
      ap (any_or_shortest a) (stops_after (is_word SHORTEST) a first) ∙ rw (number_exact n a b number (no_number m b h), behind_read m b h) refl

  any_shortest_exact : (m : Option Mode) (a b : List Lexeme) → Passes (is_word SHORTEST) a b → MayHaveMode m b s → any_of a ≡ Some (prefix.AnyShortest m, s)
  any_shortest_exact m a b p h = ap (any_or_shortest a) (passes_after (is_word SHORTEST) a b p) ∙ rw (behind_read m b h) refl

  shortest_exact : (n : List ℕ) (m : Option Mode) (a b : List Lexeme) → IsNumber n a b → MayHaveMode m b s → shortest_of a ≡ Some (prefix.Shortest n m, s)
  unfolding shortest_of
  shortest_exact n m a b number h =
      rw (number_exact (Some n) a b number (no_number m b h), behind_read m b h, stops_after is_group_word s end.group) refl

-- before GROUP
groups_exact : (n : Option (List ℕ)) (m : Option Mode) (a b c s : List Lexeme) → IsOptional IsNumber n a b → MayHaveMode m b c → Passes is_group_word c s
    → shortest_of a ≡ Some (prefix.ShortestGroups n m, s)
unfolding shortest_of
groups_exact n m a b c s number h group =
    let stops : (g : Lexeme → Bool) → ((x : List ℕ) → g (lex.Word GROUP x) ≡ false) → ((x : List ℕ) → g (lex.Word GROUPS x) ≡ false) → Stops g c =
    λ g one many. passes_stops is_group_word g (group_word_apart g one many) c s group in
    let unnumbered : Stops is_number b = behind_stops is_number mode_no_number (path_word_apart is_number (λ x. refl) (λ x. refl)) m b c h (stops is_number (λ x. refl) (λ x. refl)) in
    rw (
      number_exact n a b number unnumbered,
      behind_exact m b c h (stops is_mode (λ x. refl) (λ x. refl)) (stops is_path_word (λ x. refl) (λ x. refl)),
      passes_after is_group_word c s group,
    ) refl

pub prefix_exact : (x : Prefix) (ts s : List Lexeme) → IsPrefix x ts s → Ends s → prefix_of ts ≡ Some (x, s)
unfolding prefix_of
prefix_exact (prefix.Mode m) ts s h end =
    rw (begins_read prefix_word (says.Mode m) ts h.0 h.1) (ap (λ z. Some (prefix.Mode m, z)) (past_exact is_path_word h.0 s h.2 end.path))
prefix_exact (prefix.All m) ts s h end = rw (begins_read prefix_word says.All ts h.0 h.1) (ap Some (all_exact s end m h.0 h.2))
prefix_exact (prefix.Any n m) ts s h end = rw (begins_read prefix_word says.Any ts h.0 h.1) (any_exact s end n m h.0 h.2 h.3 h.4)
prefix_exact (prefix.AllShortest m) ts s h end = rw (begins_read prefix_word says.All ts h.0 h.1) (ap Some (all_shortest_exact s end m h.0 h.2 h.3 h.4))
prefix_exact (prefix.AnyShortest m) ts s h end = rw (begins_read prefix_word says.Any ts h.0 h.1) (any_shortest_exact s end m h.0 h.2 h.3 h.4)
prefix_exact (prefix.Shortest n m) ts s h end = rw (begins_read prefix_word says.Shortest ts h.0 h.1) (shortest_exact s end n m h.0 h.2 h.3 h.4)
prefix_exact (prefix.ShortestGroups n m) ts s h end =
    rw (begins_read prefix_word says.Shortest ts h.0 h.1) (groups_exact n m h.0 h.2 h.4 s h.3 h.5 h.6)

behind_shorter : (m : Option Mode) (ts r : List Lexeme) → MayHaveMode m ts r → length r ≤ length ts
behind_shorter m ts r h = omega (arith, optional_shorter (Begins mode_word) (begins_shorter mode_word) m ts h.0 h.1, may_pass_shorter is_path_word h.0 r h.2)

pub prefix_shorter : (x : Prefix) (ts r : List Lexeme) → IsPrefix x ts r → length r < length ts
prefix_shorter (prefix.Mode m) ts r h = omega (arith, begins_shorter prefix_word (says.Mode m) ts h.0 h.1, may_pass_shorter is_path_word h.0 r h.2)
prefix_shorter (prefix.All m) ts r h = omega (arith, begins_shorter prefix_word says.All ts h.0 h.1, behind_shorter m h.0 r h.2)
prefix_shorter (prefix.Any n m) ts r h =
    omega (arith, begins_shorter prefix_word says.Any ts h.0 h.1, number_shorter n h.0 h.2 h.3, behind_shorter m h.2 r h.4)
prefix_shorter (prefix.AllShortest m) ts r h =
    omega (arith, begins_shorter prefix_word says.All ts h.0 h.1, passes_shorter (is_word SHORTEST) h.0 h.2 h.3, behind_shorter m h.2 r h.4)
prefix_shorter (prefix.AnyShortest m) ts r h =
    omega (arith, begins_shorter prefix_word says.Any ts h.0 h.1, passes_shorter (is_word SHORTEST) h.0 h.2 h.3, behind_shorter m h.2 r h.4)
prefix_shorter (prefix.Shortest n m) ts r h =
    omega (arith, begins_shorter prefix_word says.Shortest ts h.0 h.1, begins_shorter number_in n h.0 h.2 h.3, behind_shorter m h.2 r h.4)
prefix_shorter (prefix.ShortestGroups n m) ts r h =
    omega (
      arith,
      begins_shorter prefix_word says.Shortest ts h.0 h.1,
      number_shorter n h.0 h.2 h.3,
      behind_shorter m h.2 h.4 h.5,
      passes_shorter is_group_word h.4 r h.6,
    )

-- the word with which a prefix begins
pub prefix_begins : (x : Prefix) (ts r : List Lexeme) → IsPrefix x ts r → (w : PrefixWord) × (a : List Lexeme) × Begins prefix_word w ts a
prefix_begins (prefix.Mode m) ts r h = (says.Mode m, h.0, h.1)
prefix_begins (prefix.All m) ts r h = (says.All, h.0, h.1)
prefix_begins (prefix.Any n m) ts r h = (says.Any, h.0, h.1)
prefix_begins (prefix.AllShortest m) ts r h = (says.All, h.0, h.1)
prefix_begins (prefix.AnyShortest m) ts r h = (says.Any, h.0, h.1)
prefix_begins (prefix.Shortest n m) ts r h = (says.Shortest, h.0, h.1)
prefix_begins (prefix.ShortestGroups n m) ts r h = (says.Shortest, h.0, h.1)
