-- The laws of queries.
use Rattle.std.proofs.Common.{◌≡◌, ◌≤◌, Bool, true, false, not, ◌&&◌, ℕ, zero, suc, List, [], ◌∷◌, ◌++◌, length, Option, Some, None, refl, sym, ap, subst, ◌∙◌, arith}
use Rattle.std.proofs.lemmas.Bool.{and_parts}
use Rattle.gql_lexer.specs.declared.lexeme.Lexeme.{Lexeme}
use Rattle.gql_lexer.specs.declared.lexeme.Lexeme.TheVariants as lex
use Rattle.gql_ast.specs.declared.change.ChangeClause.{ChangeClause}
use Rattle.gql_ast.specs.declared.clause.Clause.{Clause}
use Rattle.gql_ast.specs.declared.clause.Clause.TheVariants as clause
use Rattle.gql_ast.specs.declared.clause.Query.{Query}
use Rattle.gql_ast.specs.declared.projection.Return.{Return}
use Rattle.gql_lexer.specs.WordPlaces.{RETURN}
use Rattle.gql_front.specs.Reading.{◌>>=◌, is_word, after, op_at, many}
use Rattle.gql_front.proofs.Chains.{Many}
use Rattle.gql_front.proofs.Found.{Sound, some_is, is_there}
use Rattle.gql_front.proofs.LexemeTests.{word_is, cond_some_is}
use Rattle.gql_front.proofs.TableLemmas.{word_row}
use Rattle.gql_statements.specs.declared.clause_word.ClauseWord.{ClauseWord}
use Rattle.gql_statements.specs.declared.clause_word.ClauseWord.TheVariants as begins
use Rattle.gql_parts.specs.Parts.{Passes}
use Rattle.gql_statements.specs.ClauseWords.{clause_words, clause_word}
use Rattle.gql_statements.specs.StatementWords.{statement_word}
use Rattle.gql_statements.specs.ClauseGrammar.{IsClause, IsLast}
use Rattle.gql_statements.specs.QueryGrammar.{is_page, no_pages_meet, AreClauses, IsQuery}
use Rattle.gql_statements.specs.Machinery.ClauseReaders.{clause_behind, clause_of}
use Rattle.gql_statements.specs.Machinery.ReturnReaders.{return_of}
use Rattle.gql_ast.specs.LastClause.{is_change, ends_in_change}
use Rattle.gql_statements.specs.Machinery.QueryReaders.{clauses_of, return_or_change, with_last_clause_of, query_of}
use Rattle.gql_parts.proofs.PartLaws.{Stops, bind_then, finish, passes_after, after_passes, stops_op, word_apart, passes_stops}
use Rattle.gql_parts.proofs.ManyLaws.{many_none, many_next, many_sound}
use Rattle.gql_statements.proofs.PageLaws.{goes_page}
use Rattle.gql_statements.proofs.ReturnLaws.{return_sound, return_exact}
use Rattle.gql_statements.proofs.FirstWords.{Behind, parts_of, goes_other, goes_of, clause_sound, clause_exact, clause_shorter}

-- What stands behind a clause

abbrev is_page_word : ClauseWord → Bool
is_page_word begins.Order = true
is_page_word begins.Skip = true
is_page_word begins.Limit = true
is_page_word _ = false

page_has_word : (w : ClauseWord) (c : Clause) (ts r : List Lexeme) → Behind w c ts r → is_page_word w ≡ is_page c
page_has_word begins.Match (clause.Match m) ts r h = refl
page_has_word begins.Optional (clause.Match m) ts r h = refl
page_has_word begins.Let (clause.Let is) ts r h = refl
page_has_word begins.Filter (clause.Filter e) ts r h = refl
page_has_word begins.For (clause.For f) ts r h = refl
page_has_word begins.Order (clause.Page p) ts r h = refl
page_has_word begins.Skip (clause.Page p) ts r h = refl
page_has_word begins.Limit (clause.Page p) ts r h = refl
page_has_word (begins.Change w) (clause.Change c) ts r h = refl
page_has_word _ _ ts r h = absurd h

no_other : (t : Lexeme) (w : ClauseWord) → clause_word t ≡ Some w → goes_other t ≡ true → ⊥
no_other t w e h = let f = word_row (λ t w. goes_other t ≡ false) clause_words (λ x. (refl, (refl, (refl, (refl, (refl, (refl, (refl, (refl, (refl, (refl, (refl, (refl, (refl, (refl, (refl, tt)))))))))))))))) t w e in cc

not_both : true ≡ false → ⊥
not_both e = cc

no_page : (t : Lexeme) (w : ClauseWord) → clause_word t ≡ Some w → is_page_word w ≡ false → goes_page t ≡ true → ⊥
no_page t w e q h =
    let f = word_row (λ t w. is_page_word w ≡ false → goes_page t ≡ false) clause_words
    (λ x. (λ i. refl, (λ i. refl, (λ i. refl, (λ i. refl, (λ i. refl, (λ i. absurd (not_both i), (λ i. absurd (not_both i), (λ i. absurd (not_both i), (λ i. absurd (not_both i), (λ i. refl, (λ i. refl, (λ i. refl, (λ i. refl, (λ i. refl, (λ i. refl, tt)))))))))))))))) t w e q in
    cc

-- the first words of other statements
abbrev is_other : Lexeme → Bool
is_other t = is_there (statement_word t)

not_other : (t : Lexeme) (w : ClauseWord) → clause_word t ≡ Some w → is_other t ≡ true → ⊥
not_other t w e h = let f = word_row (λ t w. is_other t ≡ false) clause_words (λ x. (refl, (refl, (refl, (refl, (refl, (refl, (refl, (refl, (refl, (refl, (refl, (refl, (refl, (refl, (refl, tt)))))))))))))))) t w e in cc

-- no first word of the clause passes the test
abbrev NoWord : (Lexeme → Bool) → Clause → Type 0
NoWord g c = (t : Lexeme) (w : ClauseWord) → clause_word t ≡ Some w → is_page_word w ≡ is_page c → g t ≡ true → ⊥

clause_stops : (g : Lexeme → Bool) (c : Clause) (ts r : List Lexeme) → NoWord g c → IsClause c ts r → Stops g ts
clause_stops g c ts r none h =
    let p = parts_of c ts r h in
    subst (λ z. Stops g z) (sym p.word.2) (none p.word.0 p.first p.word.1 (page_has_word p.first c p.behind r p.rest))

last_stops : (g : Lexeme → Bool) → ((x : List ℕ) → g (lex.Word RETURN x) ≡ false) → (l : Clause) (ts r : List Lexeme) → NoWord g l → IsLast l ts r → Stops g ts
last_stops g end (clause.Return ret) ts r none h = passes_stops (is_word RETURN) g (word_apart RETURN g end) ts h.0 h.1
last_stops g end (clause.Change c) ts r none h = clause_stops g (clause.Change c) ts r none h
last_stops g end _ ts r none h = absurd h

-- a test that no first word passes stops before clauses
clauses_stop : (g : Lexeme → Bool) → ((x : List ℕ) → g (lex.Word RETURN x) ≡ false) → (c : Clause) (cs : List Clause) (ts r : List Lexeme) → NoWord g c → AreClauses (c ∷ cs) ts r → Stops g ts
clauses_stop g end c [] ts r none h = last_stops g end c ts r none h
clauses_stop g end c (d ∷ cs) ts r none h = clause_stops g c ts h.0 none h.1

other_stops : (d : Clause) (cs : List Clause) (m r : List Lexeme) → AreClauses (d ∷ cs) m r → Stops goes_other m
other_stops d cs m r h = clauses_stop goes_other (λ x. refl) d cs m r (λ t w e q i. no_other t w e i) h

next_stops : (c d : Clause) (cs : List Clause) (m r : List Lexeme) → not (is_page c && is_page d) ≡ true → AreClauses (d ∷ cs) m r → Stops (goes_of c) m
next_stops (clause.Page p) d cs m r ok h = clauses_stop goes_page (λ x. refl) d cs m r (λ t w e q i. no_page t w e (q ∙ go (is_page d) refl) i) h
  where
    go : (b : Bool) → is_page d ≡ b → is_page d ≡ false
    go true e = absurd cc
    go false e = e
next_stops (clause.Match m') d cs m r ok h = other_stops d cs m r h
next_stops (clause.Let is) d cs m r ok h = other_stops d cs m r h
next_stops (clause.Filter x) d cs m r ok h = other_stops d cs m r h
next_stops (clause.For f) d cs m r ok h = other_stops d cs m r h
next_stops (clause.Change c) d cs m r ok h = other_stops d cs m r h
next_stops (clause.Return ret) d cs m r ok h = other_stops d cs m r h

-- The end of a query

-- no clause begins with RETURN
no_clause : (ts a : List Lexeme) → Passes (is_word RETURN) ts a → clause_of ts ≡ None
unfolding clause_of
no_clause ts a h =
    let w = word_is RETURN h.0 h.1 in
    ap (λ z. op_at clause_word z >>= λ w. clause_behind w.0 w.1) (h.2 ∙ ap (λ (t : Lexeme). t ∷ a) w.1)

nothing_left : clause_of [] ≡ None
unfolding clause_of
nothing_left = refl

return_ends : (ret : Return) (ts : List Lexeme) → IsLast (clause.Return ret) ts [] → with_last_clause_of [] ts ≡ Some (clause.Return ret ∷ [], [])
unfolding with_last_clause_of
return_ends ret ts h =
    rw (passes_after (is_word RETURN) ts h.0 h.1, return_exact ret h.0 (h.2, h.3, h.4, h.5, h.6, h.7, h.8, h.9, h.10, h.11, h.12)) refl

change_ends : (c : ChangeClause) → with_last_clause_of (clause.Change c ∷ []) [] ≡ Some (clause.Change c ∷ [], [])
unfolding with_last_clause_of
change_ends c = refl

-- a clause more before the others
ended_cons : (c : Clause) (xs : List Clause) (ts : List Lexeme) (ys : List Clause) (s : List Lexeme) → with_last_clause_of xs ts ≡ Some (ys, s) → with_last_clause_of (c ∷ xs) ts ≡ Some (c ∷ ys, s)
unfolding with_last_clause_of
ended_cons c xs ts ys s e = go (after (is_word RETURN) ts) e
  where
    one : (zs : List Clause) (m : List Lexeme) → ◌≡◌ {A = Option (List Clause × List Lexeme)} (Some (zs, m)) (Some (ys, s)) → ◌≡◌ {A = Option (List Clause × List Lexeme)} (Some (c ∷ zs, m)) (Some (c ∷ ys, s))
    one zs m e = ap (λ (z : List Clause × List Lexeme). Some (c ∷ z.0, z.1)) (some_is (zs, m) (ys, s) e)

    still : (xs : List Clause) → ends_in_change xs ≡ true → ends_in_change (c ∷ xs) ≡ true
    still [] e = absurd cc
    still (x ∷ xs) e = e

    go : (o : Option (List Lexeme)) → return_or_change xs ts o ≡ Some (ys, s) → return_or_change (c ∷ xs) ts o ≡ Some (c ∷ ys, s)
    go (Some a) e = bind_then (return_of a) _ (ys, s) e (λ r p e. rw p (one (xs ++ clause.Return r.0 ∷ []) r.1 e))
    go None e = let k = cond_some_is (ends_in_change xs) (xs, ts) (ys, s) e in rw (still xs k.0) (one xs ts (ap (λ (z : List Clause × List Lexeme). Some z) k.1))

-- the clauses that are read one after another, and the whole with its end
record Split (b : ℕ) (ts : List Lexeme) (cs : List Clause) : Type 0 where
  first : List Clause
  middle : List Lexeme
  are_read : many clause_of b ts ≡ (first, middle)
  is_ended : with_last_clause_of first middle ≡ Some (cs, [])

last_exact : (l : Clause) (b : ℕ) (ts : List Lexeme) → length ts ≤ b → IsLast l ts [] → Split b ts (l ∷ [])
last_exact (clause.Return ret) b ts le h =
    record { first = []; middle = ts; are_read = many_none clause_of b ts (no_clause ts h.0 h.1); is_ended = return_ends ret ts h }
last_exact (clause.Change c) zero ts le h = absurd (omega (arith, clause_shorter (clause.Change c) ts [] h))
last_exact (clause.Change c) (suc b) ts le h =
    record {
      first = clause.Change c ∷ [];
      middle = [];
      are_read = many_next clause_of b ts (clause.Change c) [] [] [] (clause_exact (clause.Change c) ts [] h (λ i. i)) (many_none clause_of b [] nothing_left);
      is_ended = change_ends c;
    }
last_exact _ b ts le h = absurd h

clauses_exact : (b : ℕ) (c : Clause) (cs : List Clause) (ts : List Lexeme) → length ts ≤ b → AreClauses (c ∷ cs) ts [] → no_pages_meet (c ∷ cs) ≡ true → Split b ts (c ∷ cs)
clauses_exact b c [] ts le h ok = last_exact c b ts le h
clauses_exact zero c (d ∷ cs) ts le h ok = absurd (omega (arith, clause_shorter c ts h.0 h.1))
clauses_exact (suc b) c (d ∷ cs) ts le h ok =
    let shorter = clause_shorter c ts h.0 h.1 in
    let apart = and_parts (not (is_page c && is_page d)) (no_pages_meet (d ∷ cs)) ok in
    let rest = clauses_exact b d cs h.0 (omega arith) h.2 apart.1 in
    let stop = next_stops c d cs h.0 [] apart.0 h.2 in
    record {
      first = c ∷ rest.first;
      middle = rest.middle;
      are_read = many_next clause_of b ts c h.0 rest.first rest.middle (clause_exact c ts h.0 h.1 stop) rest.are_read;
      is_ended = ended_cons c rest.first rest.middle (d ∷ cs) [] rest.is_ended;
    }

-- {Clause}*
abbrev AreBefore : List Clause → List Lexeme → List Lexeme → Type 0
AreBefore [] ts r = ts ≡ r
AreBefore (c ∷ cs) ts r = (m : List Lexeme) × IsClause c ts m × AreBefore cs m r

before_are : Many IsClause AreBefore
before_are = record { none = λ r. refl; is_none = λ ts r h. h; more = more; is_more = is_more }
  where
    more : (c : Clause) (cs : List Clause) (ts m r : List Lexeme) → IsClause c ts m → AreBefore cs m r → AreBefore (c ∷ cs) ts r
    more c cs ts m r h k = (m, h, k)

    is_more : (c : Clause) (cs : List Clause) (ts r : List Lexeme) → AreBefore (c ∷ cs) ts r → (m : List Lexeme) × IsClause c ts m × AreBefore cs m r
    is_more c cs ts r h = h

with_last : (xs : List Clause) (l : Clause) (ts m s : List Lexeme) → AreBefore xs ts m → IsLast l m s → AreClauses (xs ++ l ∷ []) ts s
with_last [] l ts m s h k = subst (λ z. IsLast l z s) (sym h) k
with_last (x ∷ []) l ts m s h k = (h.0, h.1, with_last [] l h.0 m s h.2 k)
with_last (x ∷ y ∷ xs) l ts m s h k = (h.0, h.1, with_last (y ∷ xs) l h.0 m s h.2 k)

change_last : (c : Clause) (ts s : List Lexeme) → IsClause c ts s → is_change c ≡ true → IsLast c ts s
change_last (clause.Change c) ts s h e = h
change_last (clause.Match m) ts s h e = absurd cc
change_last (clause.Let is) ts s h e = absurd cc
change_last (clause.Filter x) ts s h e = absurd cc
change_last (clause.For f) ts s h e = absurd cc
change_last (clause.Page p) ts s h e = absurd cc
change_last (clause.Return ret) ts s h e = absurd cc

with_change : (xs : List Clause) (ts s : List Lexeme) → AreBefore xs ts s → ends_in_change xs ≡ true → AreClauses xs ts s
with_change [] ts s h e = absurd cc
with_change (x ∷ []) ts s h e = change_last x ts s (subst (λ z. IsClause x ts z) h.2 h.1) e
with_change (x ∷ y ∷ xs) ts s h e = (h.0, h.1, with_change (y ∷ xs) h.0 s h.2 e)

ended_sound : (xs : List Clause) (ts m : List Lexeme) (ys : List Clause) (s : List Lexeme) → AreBefore xs ts m → with_last_clause_of xs m ≡ Some (ys, s) → AreClauses ys ts s
unfolding with_last_clause_of
ended_sound xs ts m ys s h e = go (after (is_word RETURN) m) refl e
  where
    go : (o : Option (List Lexeme)) → after (is_word RETURN) m ≡ o → return_or_change xs m o ≡ Some (ys, s) → AreClauses ys ts s
    go (Some a) p e =
        bind_then (return_of a) _ (ys, s) e (λ r q e.
        finish (λ ys s. AreClauses ys ts s) (xs ++ clause.Return r.0 ∷ []) r.1 ys s e
        (let k = return_sound a r.0 r.1 q in
        with_last xs (clause.Return r.0) ts m r.1 h (a, after_passes (is_word RETURN) m a p, k.0, k.1, k.2, k.3, k.4, k.5, k.6, k.7, k.8, k.9, k.10)))
    go None p e =
        let k = cond_some_is (ends_in_change xs) (xs, m) (ys, s) e in
        subst (λ (z : List Clause × List Lexeme). AreClauses z.0 ts z.1) k.1 (with_change xs ts m h k.0)

pub query_sound : Sound IsQuery query_of
unfolding query_of clauses_of
query_sound ts q r e =
    let read = many clause_of (length ts) ts in
    bind_then (with_last_clause_of read.0 read.1) _ (q, r) e (λ cs p e.
    let k = cond_some_is (no_pages_meet cs.0) (record { clauses = cs.0 }, cs.1) (q, r) e in
    subst (λ (z : Query × List Lexeme). IsQuery z.0 ts z.1) k.1
    (k.0, ended_sound read.0 ts read.1 cs.0 cs.1 (many_sound clause_of IsClause AreBefore before_are clause_sound (length ts) ts) p))

split_read : (ts : List Lexeme) (cs : List Clause) → no_pages_meet cs ≡ true → Split (length ts) ts cs → query_of ts ≡ Some (record { clauses = cs }, [])
unfolding query_of clauses_of
split_read ts cs ok h = rw (h.are_read, h.is_ended, ok) refl

pub query_exact : (q : Query) (ts : List Lexeme) → IsQuery q ts [] → query_of ts ≡ Some (q, [])
query_exact q ts h = go q.clauses h.0 h.1
  where
    go : (cs : List Clause) → no_pages_meet cs ≡ true → AreClauses cs ts [] → query_of ts ≡ Some (record { clauses = cs }, [])
    go [] ok k = absurd k
    go (c ∷ cs) ok k = split_read ts (c ∷ cs) ok (clauses_exact (length ts) c cs ts (omega arith) k ok)

-- no query begins with the first word of another statement
pub query_begins : (q : Query) (ts r : List Lexeme) → IsQuery q ts r → op_at statement_word ts ≡ None
query_begins q ts r h = stops_op statement_word ts (go q.clauses h.1)
  where
    go : (cs : List Clause) → AreClauses cs ts r → Stops is_other ts
    go [] k = absurd k
    go (c ∷ cs) k = clauses_stop is_other (λ x. refl) c cs ts r (λ t w e q i. not_other t w e i) k
