-- The laws of LET, FILTER and FOR.
use Rattle.std.proofs.Common.{◌≡◌, ◌<◌, ◌≤◌, ℕ, List, length, Option, Some, refl, ap, ◌∙◌, arith}
use Rattle.gql_lexer.specs.declared.lexeme.Lexeme.{Lexeme}
use Rattle.gql_ast.specs.declared.clause.LetItem.{LetItem}
use Rattle.gql_ast.specs.declared.clause.Counting.{Counting}
use Rattle.gql_ast.specs.declared.clause.For.{For}
use Rattle.gql_ast.specs.declared.expr.Expr.{Expr}
use Rattle.gql_lexer.specs.SymbolPlaces.{comma, equal}
use Rattle.gql_lexer.specs.WordPlaces.{IN, WHERE, WITH}
use Rattle.gql_front.specs.Tables.{Begins}
use Rattle.gql_front.specs.Reading.{is_sign, is_word, name_in, after, op_at}
use Rattle.gql_front.proofs.Found.{Sound}
use Rattle.gql_front.proofs.TableLemmas.{begins_read, read_begins, begins_shorter}
use Rattle.gql_exprs.proofs.ExprLists.{goes_or}
use Rattle.gql_parts.specs.Parts.{Passes, MayPass, IsOptional, IsListOf}
use Rattle.gql_parts.specs.Values.{IsValue}
use Rattle.gql_statements.specs.PartWords.{counting_word}
use Rattle.gql_statements.specs.LetGrammar.{IsLetItem}
use Rattle.gql_statements.specs.ForGrammar.{IsCounter}
use Rattle.gql_parts.specs.Machinery.PartReaders.{read_value, past}
use Rattle.gql_statements.specs.Machinery.ClauseReaders.{as_let_item, let_item_of, let_of, filter_of, counted_of, counter_of, for_of}
use Rattle.gql_parts.proofs.PartLaws.{Stops, Led, bind_then, finish, passes_after, after_passes, passes_shorter, may_pass_shorter, word_apart, optional_shorter, led_sound, led_exact, led_stops, past_sound, past_exact}
use Rattle.gql_parts.proofs.ListLaws.{listed_sound, listed_exact, list_shorter}
use Rattle.gql_parts.proofs.ValueLaws.{value_sound, value_exact, value_shorter, value_begins}
use Rattle.gql_parts.proofs.NamedLaws.{named_sound, named_exact, named_shorter}

-- LET

let_item_sound : Sound IsLetItem let_item_of
unfolding let_item_of
let_item_sound = named_sound name_in equal as_let_item IsLetItem (λ x e ts r h. h)

let_item_exact : (i : LetItem) (ts s : List Lexeme) → IsLetItem i ts s → Stops goes_or s → let_item_of ts ≡ Some (i, s)
unfolding let_item_of
let_item_exact i ts s h stop = named_exact name_in equal as_let_item i.name i.value ts s h stop

pub let_item_shorter : (i : LetItem) (ts r : List Lexeme) → IsLetItem i ts r → length r < length ts
let_item_shorter i ts r h = named_shorter name_in equal i.name i.value ts r h

-- what stands behind LET
abbrev pub LetList : List LetItem → List Lexeme → List Lexeme → Type 0
LetList = IsListOf IsLetItem

pub let_sound : Sound LetList let_of
unfolding let_of
let_sound = listed_sound let_item_of IsLetItem let_item_sound

pub let_exact : (is : List LetItem) (ts s : List Lexeme) → LetList is ts s → Stops goes_or s → Stops (is_sign comma) s → let_of ts ≡ Some (is, s)
unfolding let_of
let_exact = listed_exact let_item_of IsLetItem goes_or refl let_item_shorter let_item_exact

pub let_shorter : (is : List LetItem) (ts r : List Lexeme) → LetList is ts r → length r < length ts
let_shorter = list_shorter let_item_of IsLetItem let_item_shorter

-- FILTER

abbrev pub Filtered : Expr → List Lexeme → List Lexeme → Type 0
Filtered e ts r = (b : List Lexeme) × MayPass (is_word WHERE) ts b × IsValue e b r

pub filter_sound : Sound Filtered filter_of
unfolding filter_of
filter_sound ts e r h = (past (is_word WHERE) ts, past_sound (is_word WHERE) ts, value_sound (past (is_word WHERE) ts) e r h)

pub filter_exact : (e : Expr) (ts s : List Lexeme) → Filtered e ts s → Stops goes_or s → filter_of ts ≡ Some (e, s)
unfolding filter_of
filter_exact e ts s h stop = ap read_value (past_exact (is_word WHERE) ts h.0 h.1 (value_begins e h.0 s h.2).0) ∙ value_exact e h.0 s h.2 stop

pub filter_shorter : (e : Expr) (ts r : List Lexeme) → Filtered e ts r → length r < length ts
filter_shorter e ts r h = omega (arith, may_pass_shorter (is_word WHERE) ts h.0 h.1, value_shorter e h.0 r h.2)

-- FOR

-- what stands behind WITH
abbrev Counted : Counting × List ℕ → List Lexeme → List Lexeme → Type 0
Counted c ts r = (b : List Lexeme) × Begins counting_word c.0 ts b × Begins name_in c.1 b r

counted_sound : Sound Counted counted_of
unfolding counted_of
counted_sound ts c r e =
    bind_then (op_at counting_word ts) _ (c, r) e (λ w p e.
    bind_then (op_at name_in w.1) _ (c, r) e (λ x q e.
    finish (λ c r. Counted c ts r) (w.0, x.0) x.1 c r e (w.1, read_begins counting_word ts w.0 w.1 p, read_begins name_in w.1 x.0 x.1 q)))

counted_exact : (c : Counting × List ℕ) (ts s : List Lexeme) → Counted c ts s → counted_of ts ≡ Some (c, s)
unfolding counted_of
counted_exact c ts s h = rw (begins_read counting_word c.0 ts h.0 h.1, begins_read name_in c.1 h.0 s h.2) refl

counter_back : (c : Counting × List ℕ) (ts r : List Lexeme) → Led (is_word WITH) Counted c ts r → IsCounter c ts r
counter_back c ts r h = (h.0, h.1, h.2.0, h.2.1, h.2.2)

counter_forth : (c : Counting × List ℕ) (ts r : List Lexeme) → IsCounter c ts r → Led (is_word WITH) Counted c ts r
counter_forth c ts r h = (h.0, h.1, (h.2, h.3, h.4))

counter_sound : Sound (IsOptional IsCounter) counter_of
unfolding counter_of
counter_sound = led_sound (is_word WITH) counted_of IsCounter Counted counter_back counter_forth counted_sound

counter_exact : (c : Option (Counting × List ℕ)) (ts s : List Lexeme) → IsOptional IsCounter c ts s → Stops (is_word WITH) s → counter_of ts ≡ Some (c, s)
unfolding counter_of
counter_exact c ts s h stop = led_exact (is_word WITH) counted_of IsCounter Counted counter_back counter_forth c ts s (λ x a k. counted_exact x a s k) h stop

counter_shorter : (c : Option (Counting × List ℕ)) (ts r : List Lexeme) → IsOptional IsCounter c ts r → length r ≤ length ts
counter_shorter = optional_shorter IsCounter (λ c ts r h. omega (arith, passes_shorter (is_word WITH) ts h.0 h.1, begins_shorter counting_word c.0 h.0 h.2 h.3, begins_shorter name_in c.1 h.2 r h.4))

-- what stands behind FOR
abbrev pub Fors : For → List Lexeme → List Lexeme → Type 0
Fors f ts r =
    (b : List Lexeme) × Begins name_in f.name ts b × (c : List Lexeme) × Passes (is_word IN) b c
    × (d : List Lexeme) × IsValue f.list c d × IsOptional IsCounter f.counter d r

pub for_sound : Sound Fors for_of
unfolding for_of
for_sound ts f r e =
    bind_then (op_at name_in ts) _ (f, r) e (λ x p e.
    bind_then (after (is_word IN) x.1) _ (f, r) e (λ a q e.
    bind_then (read_value a) _ (f, r) e (λ v w e.
    bind_then (counter_of v.1) _ (f, r) e (λ c k e.
    finish (λ f r. Fors f ts r) (record { name = x.0; list = v.0; counter = c.0 }) c.1 f r e
    (x.1, read_begins name_in ts x.0 x.1 p, a, after_passes (is_word IN) x.1 a q, v.1, value_sound a v.0 v.1 w, counter_sound v.1 c.0 c.1 k)))))

pub for_exact : (f : For) (ts s : List Lexeme) → Fors f ts s → Stops goes_or s → Stops (is_word WITH) s → for_of ts ≡ Some (f, s)
unfolding for_of
for_exact f ts s h stop end =
    let behind = led_stops (is_word WITH) counted_of IsCounter Counted counter_back counter_forth goes_or (word_apart WITH goes_or (λ x. refl)) f.counter h.4 s h.6 stop in
    rw (begins_read name_in f.name ts h.0 h.1, passes_after (is_word IN) h.0 h.2 h.3, value_exact f.list h.2 h.4 h.5 behind, counter_exact f.counter h.4 s h.6 end) refl

pub for_shorter : (f : For) (ts r : List Lexeme) → Fors f ts r → length r < length ts
for_shorter f ts r h =
    omega (arith, begins_shorter name_in f.name ts h.0 h.1, passes_shorter (is_word IN) h.0 h.2 h.3, value_shorter f.list h.2 h.4 h.5, counter_shorter f.counter h.4 r h.6)
