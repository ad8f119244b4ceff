-- The laws of statements about transactions.
use Rattle.std.proofs.Common.{◌≡◌, inl, inr, List, Option, Some, None, refl, ap, ◌∙◌}
use Rattle.gql_lexer.specs.declared.lexeme.Lexeme.{Lexeme}
use Rattle.gql_ast.specs.declared.statement.AccessMode.{AccessMode}
use Rattle.gql_ast.specs.declared.statement.AccessMode.TheVariants as access
use Rattle.gql_ast.specs.declared.statement.TransactionStatement.{TransactionStatement}
use Rattle.gql_ast.specs.declared.statement.TransactionStatement.TheVariants as transaction
use Rattle.gql_lexer.specs.WordPlaces.{READ, START, TRANSACTION}
use Rattle.gql_front.specs.Reading.{is_word, after}
use Rattle.gql_front.proofs.Found.{Sound}
use Rattle.gql_front.proofs.TableLemmas.{begins_read, read_begins}
use Rattle.gql_parts.specs.Parts.{Passes}
use Rattle.gql_parts.proofs.PartLaws.{Stops, bind_then, finish, passes_after, after_passes, stops_after}
use Rattle.gql_statements.specs.TransactionWords.{access_word}
use Rattle.gql_statements.specs.TransactionGrammar.{StatesAccess, IsAccess, IsTransaction}
use Rattle.gql_statements.specs.Machinery.TransactionReaders.{stated_access_of, or_write, access_of, start_of}

-- [READ ONLY or READ WRITE]

stated_sound : Sound StatesAccess stated_access_of
unfolding stated_access_of
stated_sound ts m r e =
    bind_then (after (is_word READ) ts) _ (m, r) e (λ a p e. (a, after_passes (is_word READ) ts a p, read_begins access_word a m r e))

stated_exact : (m : AccessMode) (ts s : List Lexeme) → StatesAccess m ts s → stated_access_of ts ≡ Some (m, s)
unfolding stated_access_of
stated_exact m ts s h = rw (passes_after (is_word READ) ts h.0 h.1) (begins_read access_word m h.0 s h.2)

none_stated : (ts : List Lexeme) → Stops (is_word READ) ts → stated_access_of ts ≡ None
unfolding stated_access_of
none_stated ts stop = rw (stops_after (is_word READ) ts stop) refl

access_sound : (ts : List Lexeme) → IsAccess (access_of ts).0 ts (access_of ts).1
unfolding access_of
access_sound ts = go (stated_access_of ts) refl
  where
    at : (m : AccessMode) (r : List Lexeme) → StatesAccess m ts r → IsAccess m ts r
    at access.ReadOnly r h = h
    at access.ReadWrite r h = inr h

    go : (o : Option (AccessMode × List Lexeme)) → stated_access_of ts ≡ o → IsAccess (or_write ts o).0 ts (or_write ts o).1
    go None e = inl refl
    go (Some m) e = at m.0 m.1 (stated_sound ts m.0 m.1 e)

access_exact : (m : AccessMode) (ts s : List Lexeme) → IsAccess m ts s → Stops (is_word READ) s → access_of ts ≡ (m, s)
unfolding access_of
access_exact access.ReadOnly ts s h stop = ap (or_write ts) (stated_exact access.ReadOnly ts s h)
access_exact access.ReadWrite ts s (inl h) stop = ap access_of h ∙ ap (or_write s) (none_stated s stop)
access_exact access.ReadWrite ts s (inr h) stop = ap (or_write ts) (stated_exact access.ReadWrite ts s h)

-- START

-- what stands behind START
abbrev pub Started : TransactionStatement → List Lexeme → List Lexeme → Type 0
Started (transaction.Start m) ts r = (b : List Lexeme) × Passes (is_word TRANSACTION) ts b × IsAccess m b r
Started _ ts r = ⊥

pub start_sound : Sound Started start_of
unfolding start_of
start_sound ts t r e =
    bind_then (after (is_word TRANSACTION) ts) _ (t, r) e (λ a p e.
    finish (λ t r. Started t ts r) (transaction.Start (access_of a).0) (access_of a).1 t r e (a, after_passes (is_word TRANSACTION) ts a p, access_sound a))

pub start_exact : (t : TransactionStatement) (ts s : List Lexeme) → Started t ts s → Stops (is_word READ) s → start_of ts ≡ Some (t, s)
unfolding start_of
start_exact (transaction.Start m) ts s h stop =
    rw (passes_after (is_word TRANSACTION) ts h.0 h.1)
    (ap (λ (z : AccessMode × List Lexeme). Some (transaction.Start z.0, z.1)) (access_exact m h.0 s h.2 stop))
start_exact transaction.Commit ts s h stop = absurd h
start_exact transaction.Rollback ts s h stop = absurd h

pub started : (t : TransactionStatement) (ts a r : List Lexeme) → Passes (is_word START) ts a → Started t a r → IsTransaction t ts r
started (transaction.Start m) ts a r p h = (a, p, h.0, h.1, h.2)
started _ ts a r p h = absurd h
