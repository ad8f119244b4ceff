-- No piece reads in two ways. Key idea: its lexemes decide, since they are one list.
use Rattle.std.proofs.Common.{◌≡◌, ◌≢◌, ℕ, Bool, true, false, List, [], ◌∷◌, Option, Some, None, refl, sym, ap, ◌∙◌, inl, inr, subst}
use Rattle.std.proofs.lemmas.Bool.{both_ways}
use Rattle.std.specs.Prelude.{unwrap_or}
use Rattle.gql_lexer.specs.Lexemes.{lexemes_of}
use Rattle.gql_lexer.specs.declared.lexeme.Lexeme.{Lexeme}
use Rattle.gql_ast.specs.declared.change.ChangeClause.{ChangeClause}
use Rattle.gql_ast.specs.declared.change.ChangeClause.TheVariants as change
use Rattle.gql_ast.specs.declared.change.Detachment.{Detachment}
use Rattle.gql_ast.specs.declared.change.Detachment.TheVariants as detachment
use Rattle.gql_ast.specs.declared.clause.Clause.{Clause}
use Rattle.gql_ast.specs.declared.clause.Clause.TheVariants as clause
use Rattle.gql_ast.specs.declared.page.Page.{Page}
use Rattle.gql_ast.specs.declared.page.Page.TheVariants as page
use Rattle.gql_ast.specs.declared.statement.CatalogStatement.{CatalogStatement}
use Rattle.gql_ast.specs.declared.statement.CatalogStatement.TheVariants as catalog
use Rattle.gql_ast.specs.declared.statement.SessionStatement.{SessionStatement}
use Rattle.gql_ast.specs.declared.statement.SessionStatement.TheVariants as session
use Rattle.gql_ast.specs.declared.statement.Statement.{Statement}
use Rattle.gql_ast.specs.declared.statement.Statement.TheVariants as statement
use Rattle.gql_ast.specs.declared.statement.TransactionStatement.{TransactionStatement}
use Rattle.gql_ast.specs.declared.statement.TransactionStatement.TheVariants as transaction
use Rattle.gql_exprs.specs.Depth.{too_deep}
use Rattle.gql_statements.specs.ChangeGrammar.{Detaches, IsChange}
use Rattle.gql_statements.specs.StatementGrammar.{Derives}
use Rattle.gql_parts.specs.Parts.{Passes}
use Rattle.gql_statements.specs.ClauseGrammar.{IsClause, IsLast}
use Rattle.gql_statements.specs.MatchGrammar.{SaysOptional}
use Rattle.gql_statements.specs.PageGrammar.{IsPage}
use Rattle.gql_statements.specs.QueryGrammar.{AreClauses}
use Rattle.gql_statements.specs.SessionGrammar.{IsSession}
use Rattle.gql_statements.specs.TransactionGrammar.{IsTransaction}
use Rattle.gql_statements.specs.CatalogGrammar.{IsCatalog}
use Rattle.gql_statements.proofs.StatementLaws.{one_statement}
use Rattle.gql_machine.specs.Reading.{Reading, ReadsAs, blank, bad, deep, read}
use Rattle.gql_machine.specs.Reading as reading

-- these lexemes read so
abbrev Says : List Lexeme → Reading → Type 0
Says ts blank = ts ≡ []
Says ts bad = ⊥
Says ts deep = too_deep ts ≡ true
Says ts reading.unread = (ts ≢ []) × (too_deep ts ≡ false) × ((s : Statement) → Derives ts s → ⊥)
Says ts (read s) = (too_deep ts ≡ false) × Derives ts s

one_list : (o : Option (List Lexeme)) (ts us : List Lexeme) → o ≡ Some ts → o ≡ Some us → us ≡ ts
one_list o ts us p q = ap (λ o. unwrap_or o []) (sym q ∙ p)

-- where the piece has lexemes, they read as it does
says : (piece : List ℕ) (ts : List Lexeme) (r : Reading) → lexemes_of piece ≡ Some ts → ReadsAs piece r → Says ts r
says piece ts blank p h = one_list (lexemes_of piece) [] ts h p
says piece ts bad p h = let no : Some ts ≡ None = sym p ∙ h in cc
says piece ts deep p h = ap too_deep (sym (one_list (lexemes_of piece) ts h.0 p h.1)) ∙ h.2
says piece ts reading.unread p h = let P : List Lexeme → Type 0 = λ us. Says us reading.unread in subst P (one_list (lexemes_of piece) ts h.0 p h.1) (h.2, h.3, h.4)
says piece ts (read s) p h = let P : List Lexeme → Type 0 = λ us. Says us (read s) in subst P (one_list (lexemes_of piece) ts h.0 p h.1) (h.2, h.3)

-- where it has none, it is bad
none_says : (piece : List ℕ) (r : Reading) → lexemes_of piece ≡ None → ReadsAs piece r → r ≡ bad
none_says piece blank p h = let no : Some [] ≡ None = sym h ∙ p in cc
none_says piece bad p h = refl
none_says piece deep p h = let no : Some h.0 ≡ None = sym h.1 ∙ p in cc
none_says piece reading.unread p h = let no : Some h.0 ≡ None = sym h.1 ∙ p in cc
none_says piece (read s) p h = let no : Some h.0 ≡ None = sym h.1 ∙ p in cc

-- no lexemes derive no statement, as each begins with a word

nothing_passes : (test : Lexeme → Bool) (r : List Lexeme) → Passes test [] r → ⊥
nothing_passes test r h = let no = h.2 in cc

no_page : (p : Page) (r : List Lexeme) → IsPage p [] r → ⊥
no_page (page.Order is s l) r h = nothing_passes _ h.1.0 h.1.1
no_page (page.Skip c l) r h = nothing_passes _ h.1.0 h.1.1
no_page (page.Limit c) r h = nothing_passes _ h.0 h.1

nothing_passes_from : (test : Lexeme → Bool) (ts r : List Lexeme) → ts ≡ [] → Passes test ts r → ⊥
nothing_passes_from test ts r e h =
    let P : List Lexeme → Type 0 = λ us. Passes test us r in
    nothing_passes test r (subst P e h)

no_detachment : (d : Detachment) (r : List Lexeme) → Detaches d [] r → r ≡ []
no_detachment detachment.Detach r h = absurd (nothing_passes _ r h)
no_detachment detachment.NoDetach r (inl same) = sym same
no_detachment detachment.NoDetach r (inr p) = absurd (nothing_passes _ r p)

no_change : (c : ChangeClause) (r : List Lexeme) → IsChange c [] r → ⊥
no_change (change.Insert ps) r h = nothing_passes _ h.0 h.1
no_change (change.Set is) r h = nothing_passes _ h.0 h.1
no_change (change.Remove is) r h = nothing_passes _ h.0 h.1
no_change (change.Delete d xs) r h = nothing_passes_from _ h.0 h.2 (no_detachment d h.0 h.1) h.3

no_option : (optional : Bool) (r : List Lexeme) → SaysOptional optional [] r → r ≡ []
no_option true r h = absurd (nothing_passes _ r h)
no_option false r h = sym h

no_clause : (c : Clause) (r : List Lexeme) → IsClause c [] r → ⊥
no_clause (clause.Match m) r h = nothing_passes_from _ h.0 h.2 (no_option m.optional h.0 h.1) h.3
no_clause (clause.Let is) r h = nothing_passes _ h.0 h.1
no_clause (clause.Filter e) r h = nothing_passes _ h.0 h.1
no_clause (clause.For f) r h = nothing_passes _ h.0 h.1
no_clause (clause.Page p) r h = no_page p r h
no_clause (clause.Change c) r h = no_change c r h
no_clause (clause.Return ret) r h = h

no_last : (c : Clause) (r : List Lexeme) → IsLast c [] r → ⊥
no_last (clause.Match m) r h = h
no_last (clause.Let is) r h = h
no_last (clause.Filter e) r h = h
no_last (clause.For f) r h = h
no_last (clause.Page p) r h = h
no_last (clause.Change c) r h = no_change c r h
no_last (clause.Return ret) r h = nothing_passes _ h.0 h.1

no_clauses : (cs : List Clause) (r : List Lexeme) → AreClauses cs [] r → ⊥
no_clauses [] r h = h
no_clauses (c ∷ []) r h = no_last c r h
no_clauses (c ∷ d ∷ cs) r h = no_clause c h.0 h.1

no_session : (s : SessionStatement) (r : List Lexeme) → IsSession s [] r → ⊥
no_session (session.SetValue x e) r h = nothing_passes _ h.0 h.1
no_session session.Reset r h = nothing_passes _ h.0 h.1
no_session session.Close r h = nothing_passes _ h.0 h.1
no_session (session.SetGraph x) r h = nothing_passes _ h.0 h.1

no_transaction : (t : TransactionStatement) (r : List Lexeme) → IsTransaction t [] r → ⊥
no_transaction (transaction.Start m) r h = nothing_passes _ h.0 h.1
no_transaction transaction.Commit r h = nothing_passes _ r h
no_transaction transaction.Rollback r h = nothing_passes _ r h

no_catalog : (c : CatalogStatement) (r : List Lexeme) → IsCatalog c [] r → ⊥
no_catalog (catalog.CreateGraph lenient x k) r h = nothing_passes _ h.0 h.1
no_catalog (catalog.DropGraph lenient x) r h = nothing_passes _ h.0 h.1
no_catalog (catalog.CreateType lenient x body) r h = nothing_passes _ h.0 h.1
no_catalog (catalog.DropType lenient x) r h = nothing_passes _ h.0 h.1

nothing_derives : (s : Statement) → Derives [] s → ⊥
nothing_derives (statement.Query q) h = no_clauses q.clauses [] h.1
nothing_derives (statement.Session s) h = no_session s [] h
nothing_derives (statement.Transaction t) h = no_transaction t [] h
nothing_derives (statement.Catalog c) h = no_catalog c [] h

empty_says : (r : Reading) → Says [] r → r ≡ blank
empty_says blank h = refl
empty_says bad h = absurd h
empty_says deep h = cc
empty_says reading.unread h = absurd (h.0 refl)
empty_says (read s) h = absurd (nothing_derives s h.1)

some_differs : (t : Lexeme) (ts : List Lexeme) → t ∷ ts ≡ [] → ⊥
some_differs t ts p = cc

deep_says : (t : Lexeme) (ts : List Lexeme) (r : Reading) → too_deep (t ∷ ts) ≡ true → Says (t ∷ ts) r → r ≡ deep
deep_says t ts blank p h = absurd (some_differs t ts h)
deep_says t ts bad p h = absurd h
deep_says t ts deep p h = refl
deep_says t ts reading.unread p h = absurd (both_ways (too_deep (t ∷ ts)) h.1 p)
deep_says t ts (read s) p h = absurd (both_ways (too_deep (t ∷ ts)) h.0 p)

-- a statement derived, or none
flat_says : (t : Lexeme) (ts : List Lexeme) (a b : Reading) → too_deep (t ∷ ts) ≡ false → Says (t ∷ ts) a → Says (t ∷ ts) b → a ≡ b
flat_says t ts blank b p h k = absurd (some_differs t ts h)
flat_says t ts bad b p h k = absurd h
flat_says t ts deep b p h k = absurd (both_ways (too_deep (t ∷ ts)) p h)
flat_says t ts a blank p h k = absurd (some_differs t ts k)
flat_says t ts a bad p h k = absurd k
flat_says t ts a deep p h k = absurd (both_ways (too_deep (t ∷ ts)) p k)
flat_says t ts reading.unread reading.unread p h k = refl
flat_says t ts reading.unread (read s) p h k = absurd (h.2 s k.1)
flat_says t ts (read s) reading.unread p h k = absurd (k.2 s h.1)
flat_says t ts (read s) (read u) p h k = ap read (one_statement (t ∷ ts) s u h.1 k.1)

some_says : (ts : List Lexeme) (a b : Reading) → Says ts a → Says ts b → a ≡ b
some_says [] a b h k = empty_says a h ∙ sym (empty_says b k)
some_says (t ∷ ts) a b h k = go (too_deep (t ∷ ts)) refl
  where
    go : (d : Bool) → too_deep (t ∷ ts) ≡ d → a ≡ b
    go true p = deep_says t ts a p h ∙ sym (deep_says t ts b p k)
    go false p = flat_says t ts a b p h k

pub one_reading : (piece : List ℕ) (a b : Reading) → ReadsAs piece a → ReadsAs piece b → a ≡ b
one_reading piece a b h k = go (lexemes_of piece) refl
  where
    go : (o : Option (List Lexeme)) → lexemes_of piece ≡ o → a ≡ b
    go None p = none_says piece a p h ∙ sym (none_says piece b p k)
    go (Some ts) p = some_says ts a b (says piece ts a p h) (says piece ts b p k)
