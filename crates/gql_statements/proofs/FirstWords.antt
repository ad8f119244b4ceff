-- The laws of clauses: each by its first word, and what stands behind that.
use Rattle.std.proofs.Common.{◌≡◌, ◌<◌, ◌⊎◌, inl, inr, Bool, true, false, ◌||◌, ℕ, List, length, Some, refl, sym, ap, subst, ◌∙◌, arith}
use Rattle.gql_lexer.specs.declared.lexeme.Lexeme.{Lexeme}
use Rattle.gql_lexer.specs.declared.lexeme.Lexeme.TheVariants as lex
use Rattle.gql_ast.specs.declared.change.Detachment.TheVariants as detachment
use Rattle.gql_ast.specs.declared.clause.Clause.{Clause}
use Rattle.gql_ast.specs.declared.clause.Clause.TheVariants as clause
use Rattle.gql_ast.specs.declared.clause.Match.{Match}
use Rattle.gql_ast.specs.declared.page.Page.{Page}
use Rattle.gql_ast.specs.declared.page.Page.TheVariants as page
use Rattle.gql_lexer.specs.SymbolPlaces.{comma}
use Rattle.gql_lexer.specs.WordPlaces.{DELETE, DETACH, FILTER, FOR, INSERT, LET, LIMIT, MATCH, NODETACH, OFFSET, OPTIONAL, ORDER, REMOVE, SET, SKIP, WITH}
use Rattle.gql_front.specs.Tables.{Begins}
use Rattle.gql_front.specs.Reading.{is_sign, is_word, op_at}
use Rattle.gql_front.proofs.Found.{Sound}
use Rattle.gql_front.proofs.LexemeTests.{word_is}
use Rattle.gql_front.proofs.TableLemmas.{begins_read, read_begins, begins_shorter, word_row}
use Rattle.gql_exprs.proofs.ExprLists.{goes_or}
use Rattle.gql_statements.specs.declared.change_word.ChangeWord.{ChangeWord}
use Rattle.gql_statements.specs.declared.change_word.ChangeWord.TheVariants as changes
use Rattle.gql_statements.specs.declared.clause_word.ClauseWord.{ClauseWord}
use Rattle.gql_statements.specs.declared.clause_word.ClauseWord.TheVariants as begins
use Rattle.gql_parts.specs.Parts.{Passes}
use Rattle.gql_statements.specs.PartWords.{is_skip, count_in}
use Rattle.gql_statements.specs.ClauseWords.{clause_words, clause_word}
use Rattle.gql_statements.specs.MatchGrammar.{SaysOptional, IsMatch}
use Rattle.gql_statements.specs.ClauseGrammar.{IsClause}
use Rattle.gql_statements.specs.Machinery.ClauseReaders.{let_of, filter_of, for_of, clause_behind, clause_of}
use Rattle.gql_statements.specs.Machinery.PageReaders.{order_page_of, skip_page_of, limit_page_of}
use Rattle.gql_statements.specs.Machinery.MatchReaders.{match_of, optional_match_of}
use Rattle.gql_statements.specs.Machinery.ChangeReaders.{change_behind}
use Rattle.gql_parts.proofs.PartLaws.{Stops, left_stops, right_stops, bind_then, finish}
use Rattle.gql_statements.proofs.ClauseLaws.{LetList, let_sound, let_exact, let_shorter, Filtered, filter_sound, filter_exact, filter_shorter, Fors, for_sound, for_exact, for_shorter}
use Rattle.gql_statements.proofs.PageLaws.{goes_page, OrderPage, SkipPage, LimitPage, order_page_sound, order_page_exact, order_shorter, skip_page_sound, skip_page_exact, skip_shorter, limit_page_sound, limit_page_exact, limit_shorter}
use Rattle.gql_patterns.proofs.GraphLaws.{goes_pattern}
use Rattle.gql_statements.proofs.MatchLaws.{Matched, match_sound, match_exact, match_shorter, MatchedOptionally, optional_match_sound, optional_match_exact, optional_match_shorter}
use Rattle.gql_statements.proofs.ChangeLaws.{Changes, changed_sound, goes_change, change_value, change_comma, changed_exact, changed_shorter, change_test, change_parts, change_from}

-- what stands behind a word
abbrev pub Behind : ClauseWord → Clause → List Lexeme → List Lexeme → Type 0
Behind begins.Match (clause.Match m) ts r = Matched false m ts r
Behind begins.Optional (clause.Match m) ts r = MatchedOptionally m ts r
Behind begins.Let (clause.Let is) ts r = LetList is ts r
Behind begins.Filter (clause.Filter e) ts r = Filtered e ts r
Behind begins.For (clause.For f) ts r = Fors f ts r
Behind begins.Order (clause.Page p) ts r = OrderPage p ts r
Behind begins.Skip (clause.Page p) ts r = SkipPage p ts r
Behind begins.Limit (clause.Page p) ts r = LimitPage p ts r
Behind (begins.Change w) (clause.Change c) ts r = Changes w c ts r
Behind _ _ ts r = ⊥

-- the first word of a clause, and what stands behind it
pub record Parts (c : Clause) (ts r : List Lexeme) : Type 0 where
  pub first : ClauseWord
  pub behind : List Lexeme
  pub word : Begins clause_word first ts behind
  pub rest : Behind first c behind r

word_begins : (place : ℕ) (w : ClauseWord) → ((x : List ℕ) → clause_word (lex.Word place x) ≡ Some w) → (ts r : List Lexeme) → Passes (is_word place) ts r → Begins clause_word w ts r
word_begins place w says ts r h = let v = word_is place h.0 h.1 in (h.0, ap clause_word v.1 ∙ says v.0, h.2)

skip_begins : (ts r : List Lexeme) → Passes is_skip ts r → Begins clause_word begins.Skip ts r
skip_begins ts r h = go (is_word OFFSET h.0) refl h.1
  where
    go : (b : Bool) → is_word OFFSET h.0 ≡ b → (b || is_word SKIP h.0) ≡ true → Begins clause_word begins.Skip ts r
    go true e q = word_begins OFFSET begins.Skip (λ x. refl) ts r (h.0, e, h.2)
    go false e q = word_begins SKIP begins.Skip (λ x. refl) ts r (h.0, q, h.2)

change_begins : (w : ChangeWord) (ts r : List Lexeme) → Passes (change_test w) ts r → Begins clause_word (begins.Change w) ts r
change_begins changes.Insert ts r h = word_begins INSERT (begins.Change changes.Insert) (λ x. refl) ts r h
change_begins changes.Set ts r h = word_begins SET (begins.Change changes.Set) (λ x. refl) ts r h
change_begins changes.Remove ts r h = word_begins REMOVE (begins.Change changes.Remove) (λ x. refl) ts r h
change_begins changes.Delete ts r h = word_begins DELETE (begins.Change changes.Delete) (λ x. refl) ts r h
change_begins (changes.Detaching detachment.Detach) ts r h = word_begins DETACH (begins.Change (changes.Detaching detachment.Detach)) (λ x. refl) ts r h
change_begins (changes.Detaching detachment.NoDetach) ts r h = word_begins NODETACH (begins.Change (changes.Detaching detachment.NoDetach)) (λ x. refl) ts r h

match_parts : (m : Match) (ts r : List Lexeme) → IsMatch m ts r → Parts (clause.Match m) ts r
match_parts m ts r h = go m.optional refl h.1
  where
    go : (b : Bool) → m.optional ≡ b → SaysOptional b ts h.0 → Parts (clause.Match m) ts r
    go true e k = record { first = begins.Optional; behind = h.0; word = word_begins OPTIONAL begins.Optional (λ x. refl) ts h.0 k; rest = (h.2, h.3, (e, h.4)) }
    go false e k =
        record { first = begins.Match; behind = h.2; word = word_begins MATCH begins.Match (λ x. refl) ts h.2 (subst (λ z. Passes (is_word MATCH) z h.2) (sym k) h.3); rest = (e, h.4) }

pub parts_of : (c : Clause) (ts r : List Lexeme) → IsClause c ts r → Parts c ts r
parts_of (clause.Match m) ts r h = match_parts m ts r h
parts_of (clause.Let is) ts r h = record { first = begins.Let; behind = h.0; word = word_begins LET begins.Let (λ x. refl) ts h.0 h.1; rest = h.2 }
parts_of (clause.Filter e) ts r h = record { first = begins.Filter; behind = h.0; word = word_begins FILTER begins.Filter (λ x. refl) ts h.0 h.1; rest = (h.2, h.3, h.4) }
parts_of (clause.For f) ts r h = record { first = begins.For; behind = h.0; word = word_begins FOR begins.For (λ x. refl) ts h.0 h.1; rest = (h.2, h.3, h.4, h.5, h.6, h.7, h.8) }
parts_of (clause.Page (page.Order is s l)) ts r h =
    let o = h.1 in
    record { first = begins.Order; behind = o.0; word = word_begins ORDER begins.Order (λ x. refl) ts o.0 o.1; rest = (h.0, (o.2, o.3, o.4), h.2, h.3, h.4) }
parts_of (clause.Page (page.Skip c l)) ts r h = let o = h.1 in record { first = begins.Skip; behind = o.0; word = skip_begins ts o.0 o.1; rest = (h.0, o.2, h.2) }
parts_of (clause.Page (page.Limit c)) ts r h = record { first = begins.Limit; behind = h.0; word = word_begins LIMIT begins.Limit (λ x. refl) ts h.0 h.1; rest = h.2 }
parts_of (clause.Change c) ts r h = let p = change_parts c ts r h in record { first = begins.Change p.0; behind = p.1; word = change_begins p.0 ts p.1 p.2; rest = p.3 }
parts_of (clause.Return ret) ts r h = absurd h

-- which test a word passes
abbrev test_of : ClauseWord → Lexeme → Bool
test_of begins.Match = is_word MATCH
test_of begins.Optional = is_word OPTIONAL
test_of begins.Let = is_word LET
test_of begins.Filter = is_word FILTER
test_of begins.For = is_word FOR
test_of begins.Order = is_word ORDER
test_of begins.Skip = is_skip
test_of begins.Limit = is_word LIMIT
test_of (begins.Change w) = change_test w

begins_passes : (w : ClauseWord) (ts r : List Lexeme) → Begins clause_word w ts r → Passes (test_of w) ts r
begins_passes w ts r h =
    (h.0, word_row (λ t w. test_of w t ≡ true) clause_words (λ x. (refl, (refl, (refl, (refl, (refl, (refl, (refl, (refl, (refl, (refl, (refl, (refl, (refl, (refl, (refl, tt)))))))))))))))) h.0 w h.1, h.2)

clause_from : (w : ClauseWord) (c : Clause) (ts a r : List Lexeme) → Passes (test_of w) ts a → Behind w c a r → IsClause c ts r
clause_from begins.Match (clause.Match m) ts a r p h = (ts, subst (λ z. SaysOptional z ts ts) (sym h.0) refl, a, p, h.1)
clause_from begins.Optional (clause.Match m) ts a r p h = (a, subst (λ z. SaysOptional z ts a) (sym h.2.0) p, h.0, h.1, h.2.1)
clause_from begins.Let (clause.Let is) ts a r p h = (a, p, h)
clause_from begins.Filter (clause.Filter e) ts a r p h = (a, p, h.0, h.1, h.2)
clause_from begins.For (clause.For f) ts a r p h = (a, p, h.0, h.1, h.2, h.3, h.4, h.5, h.6)
clause_from begins.Order (clause.Page (page.Order is s l)) ts a r p h = let o = h.1 in (h.0, (a, p, o.0, o.1, o.2), h.2, h.3, h.4)
clause_from begins.Order (clause.Page (page.Skip c l)) ts a r p h = absurd h
clause_from begins.Order (clause.Page (page.Limit c)) ts a r p h = absurd h
clause_from begins.Skip (clause.Page (page.Order is s l)) ts a r p h = absurd h
clause_from begins.Skip (clause.Page (page.Skip c l)) ts a r p h = (h.0, (a, p, h.1), h.2)
clause_from begins.Skip (clause.Page (page.Limit c)) ts a r p h = absurd h
clause_from begins.Limit (clause.Page (page.Order is s l)) ts a r p h = absurd h
clause_from begins.Limit (clause.Page (page.Skip c l)) ts a r p h = absurd h
clause_from begins.Limit (clause.Page (page.Limit c)) ts a r p h = (a, p, h)
clause_from (begins.Change w) (clause.Change c) ts a r p h = change_from w c ts a r p h
clause_from _ _ ts a r p h = absurd h

begun_sound : (w : ClauseWord) (ts : List Lexeme) (c : Clause) (r : List Lexeme) → clause_behind w ts ≡ Some (c, r) → Behind w c ts r
begun_sound begins.Match ts c r e =
    bind_then (match_of false ts) _ (c, r) e (λ x p e. finish (λ c r. Behind begins.Match c ts r) (clause.Match x.0) x.1 c r e (match_sound false ts x.0 x.1 p))
begun_sound begins.Optional ts c r e =
    bind_then (optional_match_of ts) _ (c, r) e (λ x p e. finish (λ c r. Behind begins.Optional c ts r) (clause.Match x.0) x.1 c r e (optional_match_sound ts x.0 x.1 p))
begun_sound begins.Let ts c r e =
    bind_then (let_of ts) _ (c, r) e (λ x p e. finish (λ c r. Behind begins.Let c ts r) (clause.Let x.0) x.1 c r e (let_sound ts x.0 x.1 p))
begun_sound begins.Filter ts c r e =
    bind_then (filter_of ts) _ (c, r) e (λ x p e. finish (λ c r. Behind begins.Filter c ts r) (clause.Filter x.0) x.1 c r e (filter_sound ts x.0 x.1 p))
begun_sound begins.For ts c r e =
    bind_then (for_of ts) _ (c, r) e (λ x p e. finish (λ c r. Behind begins.For c ts r) (clause.For x.0) x.1 c r e (for_sound ts x.0 x.1 p))
begun_sound begins.Order ts c r e =
    bind_then (order_page_of ts) _ (c, r) e (λ x p e. finish (λ c r. Behind begins.Order c ts r) (clause.Page x.0) x.1 c r e (order_page_sound ts x.0 x.1 p))
begun_sound begins.Skip ts c r e =
    bind_then (skip_page_of ts) _ (c, r) e (λ x p e. finish (λ c r. Behind begins.Skip c ts r) (clause.Page x.0) x.1 c r e (skip_page_sound ts x.0 x.1 p))
begun_sound begins.Limit ts c r e =
    bind_then (limit_page_of ts) _ (c, r) e (λ x p e. finish (λ c r. Behind begins.Limit c ts r) (clause.Page x.0) x.1 c r e (limit_page_sound ts x.0 x.1 p))
begun_sound (begins.Change w) ts c r e =
    bind_then (change_behind w ts) _ (c, r) e (λ x p e. finish (λ c r. Behind (begins.Change w) c ts r) (clause.Change x.0) x.1 c r e (changed_sound w ts x.0 x.1 p))

pub clause_sound : Sound IsClause clause_of
unfolding clause_of
clause_sound ts c r e =
    bind_then (op_at clause_word ts) _ (c, r) e (λ w p e.
    clause_from w.0 c ts w.1 r (begins_passes w.0 ts w.1 (read_begins clause_word ts w.0 w.1 p)) (begun_sound w.0 w.1 c r e))

-- With which lexemes a clause may go on

abbrev pub goes_other : Lexeme → Bool
goes_other t = goes_change t || (goes_pattern t || is_word WITH t)

abbrev pub goes_of : Clause → Lexeme → Bool
goes_of (clause.Page p) = goes_page
goes_of _ = goes_other

other_value : (s : List Lexeme) → Stops goes_other s → Stops goes_or s
other_value s stop = change_value s (left_stops goes_change (λ t. goes_pattern t || is_word WITH t) s stop)

other_comma : (s : List Lexeme) → Stops goes_other s → Stops (is_sign comma) s
other_comma s stop = change_comma s (left_stops goes_change (λ t. goes_pattern t || is_word WITH t) s stop)

other_pattern : (s : List Lexeme) → Stops goes_other s → Stops goes_pattern s
other_pattern s stop = left_stops goes_pattern (is_word WITH) s (right_stops goes_change (λ t. goes_pattern t || is_word WITH t) s stop)

other_with : (s : List Lexeme) → Stops goes_other s → Stops (is_word WITH) s
other_with s stop = right_stops goes_pattern (is_word WITH) s (right_stops goes_change (λ t. goes_pattern t || is_word WITH t) s stop)

begun_exact : (w : ClauseWord) (c : Clause) (ts s : List Lexeme) → Behind w c ts s → Stops (goes_of c) s → clause_behind w ts ≡ Some (c, s)
begun_exact begins.Match (clause.Match m) ts s h stop = rw (match_exact false m ts s h (other_pattern s stop)) refl
begun_exact begins.Optional (clause.Match m) ts s h stop = rw (optional_match_exact m ts s h (other_pattern s stop)) refl
begun_exact begins.Let (clause.Let is) ts s h stop = rw (let_exact is ts s h (other_value s stop) (other_comma s stop)) refl
begun_exact begins.Filter (clause.Filter e) ts s h stop = rw (filter_exact e ts s h (other_value s stop)) refl
begun_exact begins.For (clause.For f) ts s h stop = rw (for_exact f ts s h (other_value s stop) (other_with s stop)) refl
begun_exact begins.Order (clause.Page p) ts s h stop = rw (order_page_exact p ts s h stop) refl
begun_exact begins.Skip (clause.Page p) ts s h stop = rw (skip_page_exact p ts s h stop) refl
begun_exact begins.Limit (clause.Page p) ts s h stop = rw (limit_page_exact p ts s h) refl
begun_exact (begins.Change w) (clause.Change c) ts s h stop = rw (changed_exact w c ts s h (left_stops goes_change (λ t. goes_pattern t || is_word WITH t) s stop)) refl
begun_exact _ _ ts s h stop = absurd h

pub clause_exact : (c : Clause) (ts s : List Lexeme) → IsClause c ts s → Stops (goes_of c) s → clause_of ts ≡ Some (c, s)
unfolding clause_of
clause_exact c ts s h stop =
    let p = parts_of c ts s h in
    rw (begins_read clause_word p.first ts p.behind p.word) (begun_exact p.first c p.behind s p.rest stop)

page_behind_shorter : (p : Page) (ts r : List Lexeme) → OrderPage p ts r ⊎ (SkipPage p ts r ⊎ LimitPage p ts r) → length r < length ts
page_behind_shorter (page.Order is s l) ts r (inl h) = omega (arith, order_shorter is ts h.0 h.1, skip_shorter s h.0 h.2 h.3, limit_shorter l h.2 r h.4)
page_behind_shorter (page.Order is s l) ts r (inr (inl h)) = absurd h
page_behind_shorter (page.Order is s l) ts r (inr (inr h)) = absurd h
page_behind_shorter (page.Skip c l) ts r (inl h) = absurd h
page_behind_shorter (page.Skip c l) ts r (inr (inl h)) = omega (arith, begins_shorter count_in c ts h.0 h.1, limit_shorter l h.0 r h.2)
page_behind_shorter (page.Skip c l) ts r (inr (inr h)) = absurd h
page_behind_shorter (page.Limit c) ts r (inl h) = absurd h
page_behind_shorter (page.Limit c) ts r (inr (inl h)) = absurd h
page_behind_shorter (page.Limit c) ts r (inr (inr h)) = begins_shorter count_in c ts r h

behind_shorter : (w : ClauseWord) (c : Clause) (ts r : List Lexeme) → Behind w c ts r → length r < length ts
behind_shorter begins.Match (clause.Match m) ts r h = match_shorter false m ts r h
behind_shorter begins.Optional (clause.Match m) ts r h = optional_match_shorter m ts r h
behind_shorter begins.Let (clause.Let is) ts r h = let_shorter is ts r h
behind_shorter begins.Filter (clause.Filter e) ts r h = filter_shorter e ts r h
behind_shorter begins.For (clause.For f) ts r h = for_shorter f ts r h
behind_shorter begins.Order (clause.Page p) ts r h = page_behind_shorter p ts r (inl h)
behind_shorter begins.Skip (clause.Page p) ts r h = page_behind_shorter p ts r (inr (inl h))
behind_shorter begins.Limit (clause.Page p) ts r h = page_behind_shorter p ts r (inr (inr h))
behind_shorter (begins.Change w) (clause.Change c) ts r h = changed_shorter w c ts r h
behind_shorter _ _ ts r h = absurd h

pub clause_shorter : (c : Clause) (ts r : List Lexeme) → IsClause c ts r → length r < length ts
clause_shorter c ts r h = let p = parts_of c ts r h in omega (arith, begins_shorter clause_word p.first ts p.behind p.word, behind_shorter p.first c p.behind r p.rest)
