-- The laws of statements.
use Rattle.std.proofs.Common.{◌≡◌, Bool, true, false, ℕ, List, [], ◌∷◌, length, Option, Some, None, eqb-true, refl, sym, ap, ◌∙◌, arith}
use Rattle.std.specs.Prelude.{◌==◌, Err}
use Rattle.gql_lexer.specs.declared.lexeme.Lexeme.{Lexeme}
use Rattle.gql_lexer.specs.declared.lexeme.Lexeme.TheVariants as lex
use Rattle.gql_ast.specs.declared.parse_fault.ParseFault.{ParseFault}
use Rattle.gql_ast.specs.declared.parse_fault.ParseFault.TheVariants as fault
use Rattle.gql_ast.specs.declared.statement.CatalogStatement.{CatalogStatement}
use Rattle.gql_ast.specs.declared.statement.CatalogStatement.TheVariants as catalog
use Rattle.gql_ast.specs.declared.statement.Statement.{Statement}
use Rattle.gql_ast.specs.declared.statement.Statement.TheVariants as statement
use Rattle.gql_ast.specs.declared.statement.TransactionStatement.{TransactionStatement}
use Rattle.gql_ast.specs.declared.statement.TransactionStatement.TheVariants as transaction
use Rattle.gql_lexer.specs.WordPlaces.{COMMIT, CREATE, DROP, ROLLBACK, SESSION, START}
use Rattle.gql_front.specs.Gives.{Fails, IsSyntax, IsDeep}
use Rattle.gql_front.specs.Tables.{Begins}
use Rattle.gql_front.specs.Reading.{is_word, op_at}
use Rattle.gql_front.proofs.Found.{Sound, some_is}
use Rattle.gql_front.proofs.TableLemmas.{read_begins, word_row}
use Rattle.gql_parts.specs.Parts.{Passes}
use Rattle.gql_parts.proofs.PartLaws.{bind_then, finish}
use Rattle.gql_statements.specs.declared.statement_word.StatementWord.{StatementWord}
use Rattle.gql_statements.specs.declared.statement_word.StatementWord.TheVariants as begins
use Rattle.gql_statements.specs.StatementWords.{statement_words, statement_word}
use Rattle.gql_statements.specs.TransactionGrammar.{IsTransaction}
use Rattle.gql_statements.specs.CatalogGrammar.{IsCatalog}
use Rattle.gql_statements.specs.StatementGrammar.{IsStatement, Derives}
use Rattle.gql_statements.specs.Machinery.SessionReaders.{session_of}
use Rattle.gql_statements.specs.Machinery.TransactionReaders.{start_of}
use Rattle.gql_statements.specs.Machinery.CatalogReaders.{create_of, drop_of}
use Rattle.gql_statements.specs.Machinery.QueryReaders.{query_of}
use Rattle.gql_statements.specs.Machinery.StatementReaders.{statement_behind, query_or_other, statement_of}
use Rattle.gql_statements.proofs.WordLaws.{word_read}
use Rattle.gql_statements.proofs.QueryLaws.{query_sound, query_exact, query_begins}
use Rattle.gql_statements.proofs.SessionLaws.{session_sound, session_exact}
use Rattle.gql_statements.proofs.TransactionLaws.{start_sound, start_exact, started}
use Rattle.gql_statements.proofs.CatalogLaws.{create_sound, create_exact, is_created, drop_sound, drop_exact, is_dropped}

-- Statements other than queries, by their first word

abbrev place_of : StatementWord → ℕ
place_of begins.Session = SESSION
place_of begins.Start = START
place_of begins.Commit = COMMIT
place_of begins.Rollback = ROLLBACK
place_of begins.Create = CREATE
place_of begins.Drop = DROP

word_passes : (w : StatementWord) (ts r : List Lexeme) → Begins statement_word w ts r → Passes (is_word (place_of w)) ts r
word_passes w ts r h =
    (h.0, word_row (λ t w. is_word (place_of w) t ≡ true) statement_words (λ x. (refl, (refl, (refl, (refl, (refl, (refl, tt))))))) h.0 w h.1, h.2)

behind_sound : (w : StatementWord) (ts a : List Lexeme) (s : Statement) (r : List Lexeme) → Passes (is_word (place_of w)) ts a → statement_behind w a ≡ Some (s, r) → IsStatement s ts r
behind_sound begins.Session ts a s r p e =
    bind_then (session_of a) _ (s, r) e (λ x k e. finish (λ s r. IsStatement s ts r) (statement.Session x.0) x.1 s r e (session_sound ts a x.0 x.1 p k))
behind_sound begins.Start ts a s r p e =
    bind_then (start_of a) _ (s, r) e (λ x k e. finish (λ s r. IsStatement s ts r) (statement.Transaction x.0) x.1 s r e (started x.0 ts a x.1 p (start_sound a x.0 x.1 k)))
behind_sound begins.Commit ts a s r p e = finish (λ s r. IsStatement s ts r) (statement.Transaction transaction.Commit) a s r e p
behind_sound begins.Rollback ts a s r p e = finish (λ s r. IsStatement s ts r) (statement.Transaction transaction.Rollback) a s r e p
behind_sound begins.Create ts a s r p e =
    bind_then (create_of a) _ (s, r) e (λ x k e. finish (λ s r. IsStatement s ts r) (statement.Catalog x.0) x.1 s r e (is_created x.0 ts a x.1 p (create_sound a x.0 x.1 k)))
behind_sound begins.Drop ts a s r p e =
    bind_then (drop_of a) _ (s, r) e (λ x k e. finish (λ s r. IsStatement s ts r) (statement.Catalog x.0) x.1 s r e (is_dropped x.0 ts a x.1 p (drop_sound a x.0 x.1 k)))

-- what the first word and what stands behind it give
other_exact : (place : ℕ) (w : StatementWord) → ((x : List ℕ) → statement_word (lex.Word place x) ≡ Some w) → (s : Statement) (ts a : List Lexeme)
    → Passes (is_word place) ts a → statement_behind w a ≡ Some (s, []) → statement_of ts ≡ Some (s, [])
unfolding statement_of
other_exact place w says s ts a p e = ap (query_or_other ts) (word_read statement_word place w says ts a p) ∙ e

transaction_exact : (t : TransactionStatement) (ts : List Lexeme) → IsTransaction t ts [] → statement_of ts ≡ Some (statement.Transaction t, [])
transaction_exact (transaction.Start m) ts h =
    other_exact START begins.Start (λ x. refl) (statement.Transaction (transaction.Start m)) ts h.0 h.1
    (rw (start_exact (transaction.Start m) h.0 [] (h.2, h.3, h.4) (λ i. i)) refl)
transaction_exact transaction.Commit ts h = other_exact COMMIT begins.Commit (λ x. refl) (statement.Transaction transaction.Commit) ts [] h refl
transaction_exact transaction.Rollback ts h = other_exact ROLLBACK begins.Rollback (λ x. refl) (statement.Transaction transaction.Rollback) ts [] h refl

catalog_exact : (c : CatalogStatement) (ts : List Lexeme) → IsCatalog c ts [] → statement_of ts ≡ Some (statement.Catalog c, [])
catalog_exact (catalog.CreateGraph lenient x k) ts h =
    let c : CatalogStatement = catalog.CreateGraph lenient x k in
    other_exact CREATE begins.Create (λ x. refl) (statement.Catalog c) ts h.0 h.1
    (rw (create_exact c h.0 [] (h.2, h.3, (h.4, h.5, h.6)) (λ i. i) (λ i. i)) refl)
catalog_exact (catalog.CreateType lenient x body) ts h =
    let c : CatalogStatement = catalog.CreateType lenient x body in
    other_exact CREATE begins.Create (λ x. refl) (statement.Catalog c) ts h.0 h.1
    (rw (create_exact c h.0 [] (h.2, h.3, h.4, h.5, (h.6, h.7, h.8, h.9, h.10)) (λ i. i) (λ i. i)) refl)
catalog_exact (catalog.DropGraph lenient x) ts h =
    let c : CatalogStatement = catalog.DropGraph lenient x in
    other_exact DROP begins.Drop (λ x. refl) (statement.Catalog c) ts h.0 h.1 (rw (drop_exact c h.0 [] (h.2, h.3, h.4)) refl)
catalog_exact (catalog.DropType lenient x) ts h =
    let c : CatalogStatement = catalog.DropType lenient x in
    other_exact DROP begins.Drop (λ x. refl) (statement.Catalog c) ts h.0 h.1 (rw (drop_exact c h.0 [] (h.2, h.3, h.4, h.5, h.6)) refl)

-- Statements

statement_sound : Sound IsStatement statement_of
unfolding statement_of
statement_sound ts s r e = go (op_at statement_word ts) refl e
  where
    go : (o : Option (StatementWord × List Lexeme)) → op_at statement_word ts ≡ o → query_or_other ts o ≡ Some (s, r) → IsStatement s ts r
    go None p e = bind_then (query_of ts) _ (s, r) e (λ q k e. finish (λ s r. IsStatement s ts r) (statement.Query q.0) q.1 s r e (query_sound ts q.0 q.1 k))
    go (Some w) p e = behind_sound w.0 ts w.1 s r (word_passes w.0 ts w.1 (read_begins statement_word ts w.0 w.1 p)) e

statement_exact : (s : Statement) (ts : List Lexeme) → Derives ts s → statement_of ts ≡ Some (s, [])
unfolding statement_of
statement_exact (statement.Query q) ts h = ap (query_or_other ts) (query_begins q ts [] h) ∙ rw (query_exact q ts h) refl
statement_exact (statement.Session s) ts h =
    let k = session_exact s ts h in
    other_exact SESSION begins.Session (λ x. refl) (statement.Session s) ts k.0 k.1 (rw k.2 refl)
statement_exact (statement.Transaction t) ts h = transaction_exact t ts h
statement_exact (statement.Catalog c) ts h = catalog_exact c ts h

-- What the parser cites

-- what is read to the end is derived
pub read_derives : (ts : List Lexeme) (s : Statement) → statement_of ts ≡ Some (s, []) → Derives ts s
read_derives ts s e = statement_sound ts s [] e

-- where nothing is read, or not to the end, nothing is derived
pub unread : (ts : List Lexeme) → statement_of ts ≡ None → (s : Statement) → Derives ts s → ⊥
unread ts e s h = let k = statement_exact s ts h in cc

pub left_over : (ts : List Lexeme) (s : Statement) (r : List Lexeme) → statement_of ts ≡ Some (s, r) → (r ≡ [] → ⊥) → (x : Statement) → Derives ts x → ⊥
left_over ts s r e more x h =
    let same = some_is (s, r) (x, []) (sym e ∙ statement_exact x ts h) in
    more (ap (λ (z : Statement × List Lexeme). z.1) same)

-- one statement is derived at most
pub one_statement : (ts : List Lexeme) (x y : Statement) → Derives ts x → Derives ts y → x ≡ y
one_statement ts x y h k = ap (λ (z : Statement × List Lexeme). z.0) (some_is (x, []) (y, []) (sym (statement_exact x ts h) ∙ statement_exact y ts k))

-- The two ends of the top call

pub empty_is : (r : List Lexeme) → (length r == 0) ≡ true → r ≡ []
empty_is [] e = refl
empty_is (t ∷ ts) e = let h = eqb-true (length (t ∷ ts)) 0 e in absurd (omega (arith, h))

pub not_empty : (r : List Lexeme) → (length r == 0) ≡ false → r ≡ [] → ⊥
not_empty [] e h = cc
not_empty (t ∷ ts) e h = cc

pub fault_of_syntax : (ts : List Lexeme) (X : Type 0) (f : ParseFault) → Fails f (statement_of ts) → IsSyntax {X = X} (Err f) → (s : Statement) → Derives ts s → ⊥
fault_of_syntax ts X fault.Deep h i s d = absurd i
fault_of_syntax ts X fault.OutOfMemory h i s d = absurd i
fault_of_syntax ts X fault.Syntax h i s d = unread ts h s d

pub fault_of_depth : (ts : List Lexeme) (X : Type 0) (f : ParseFault) → Fails f (statement_of ts) → IsDeep {X = X} (Err f) → ⊥
fault_of_depth ts X fault.Deep h i = absurd h
fault_of_depth ts X fault.OutOfMemory h i = absurd i
fault_of_depth ts X fault.Syntax h i = absurd i
