-- From one start the session machine has one run over pieces that leave no choice, where the store refuses nothing. Key idea: two runs over the same
-- pieces take the same last step from one state.
use Rattle.std.proofs.Common.{◌≡◌, ℕ, zero, suc, ◌+◌, Bool, true, false, List, [], ◌∷◌, ◌++◌, length, take, Option, Some, None, refl, sym, ap, subst, ◌∙◌, inl, inr, arith, length-append}
use Rattle.std.specs.Prelude.{if◌then◌else◌}
use Rattle.gql_ast.specs.declared.refusal.Outcome.{Outcome}
use Rattle.gql_ast.specs.declared.refusal.Refusal.{Refusal}
use Rattle.gql_ast.specs.declared.statement.Statement.{Statement}
use Rattle.gql_ast.specs.declared.statement.Statement.TheVariants as statement
use Rattle.gql_norm.specs.Selection.{Each}
use Rattle.gql_linear.specs.QueryRun.{beginning}
use Rattle.gql_linear.proofs.OneWayLemmas.{runs_one_way}
use Rattle.gql_machine.specs.Outcomes.{is_store_refusal, store_refusals}
use Rattle.gql_machine.specs.Reading.{Reading, ReadsAs, blank, bad, deep, unread, read}
use Rattle.gql_machine.specs.Choices.{StatementHasNoChoice, PieceHasNoChoice}
use Rattle.gql_machine.specs.SessionState.{SessionState, statement_graph}
use Rattle.gql_machine.specs.StatementRun.{StatementEnd, query_end, RefusedOrExecuted, first_refusal}
use Rattle.gql_machine.specs.SessionRun.{is_commit_point, SettlesAt, MayBeAnswered, MayAnswer, Step, RunsSession, no_pieces, one_more}
use Rattle.gql_machine.proofs.ReadsLemmas.{one_reading}

-- Lists that end in one element

nothing_differs : (xs : List (List ℕ)) (x : List ℕ) → [] ≡ xs ++ x ∷ [] → ⊥
nothing_differs xs x p = omega (arith, ap length p, length-append xs (x ∷ []))

same_ends : (xs ys : List (List ℕ)) (x y : List ℕ) → xs ++ x ∷ [] ≡ ys ++ y ∷ [] → (xs ≡ ys) × (x ≡ y)
same_ends [] [] x y p = (refl, cc)
same_ends [] (b ∷ ys) x y p = let q : [] ≡ ys ++ y ∷ [] = cc in absurd (nothing_differs ys y q)
same_ends (a ∷ xs) [] x y p = let q : [] ≡ xs ++ x ∷ [] = cc in absurd (nothing_differs xs x q)
same_ends (a ∷ xs) (b ∷ ys) x y p =
    let q : xs ++ x ∷ [] ≡ ys ++ y ∷ [] = cc in
    let head : a ≡ b = cc in
    let rest = same_ends xs ys x y q in
    ((λ i. head i ∷ rest.0 i), rest.1)

-- What holds of each piece

each_front : (P : List ℕ → Type 0) (xs : List (List ℕ)) (x : List ℕ) → Each P (xs ++ x ∷ []) → Each P xs
each_front P [] x h = tt
each_front P (y ∷ ys) x h = (h.0, each_front P ys x h.1)

each_last : (P : List ℕ → Type 0) (xs : List (List ℕ)) (x : List ℕ) → Each P (xs ++ x ∷ []) → P x
each_last P [] x h = h.0
each_last P (y ∷ ys) x h = each_last P ys x h.1

each_take : (P : List ℕ → Type 0) (n : ℕ) (xs : List (List ℕ)) → Each P xs → Each P (take n xs)
each_take P zero xs h = tt
each_take P (suc n) [] h = tt
each_take P (suc n) (x ∷ xs) h = (h.0, each_take P n xs h.1)

-- Two runs over the same pieces

one_end : (s : SessionState) (t : Statement) (r : Option Refusal) (d e : StatementEnd) → StatementHasNoChoice t → RefusedOrExecuted s t r d → RefusedOrExecuted s t r e → d ≡ e
one_end s t (Some r) d e none h k = h ∙ sym k
one_end s (statement.Query q) None d e none h k =
    h.ends ∙ ap (query_end s q) (runs_one_way s.parameters (beginning (statement_graph s)) q.clauses h.result k.result none h.runs k.runs) ∙ sym k.ends
one_end s (statement.Session t) None d e none h k = h ∙ sym k
one_end s (statement.Transaction t) None d e none h k = h ∙ sym k
one_end s (statement.Catalog c) None d e none h k = h ∙ sym k

-- where it reads as a statement, this leaves no choice
abbrev ReadingHasNoChoice : Reading → Type 0
ReadingHasNoChoice (read s) = StatementHasNoChoice s
ReadingHasNoChoice _ = Unit {0}

read_without_choice : (piece : List ℕ) (r : Reading) → PieceHasNoChoice piece → ReadsAs piece r → ReadingHasNoChoice r
read_without_choice piece blank none h = tt
read_without_choice piece bad none h = tt
read_without_choice piece deep none h = tt
read_without_choice piece unread none h = tt
read_without_choice piece (read s) none h = none s h

-- An outcome that is not the store's

counted : (b : Bool) (n : ℕ) → (if b then suc n else n) ≡ 0 → (b ≡ false) × (n ≡ 0)
counted true n h = absurd (omega (arith, h))
counted false n h = (refl, h)

store_refusals-append : (os us : List Outcome) → store_refusals (os ++ us) ≡ 0 → (store_refusals os ≡ 0) × (store_refusals us ≡ 0)
store_refusals-append [] us h = (refl, h)
store_refusals-append (o ∷ os) us h =
    let here = counted (is_store_refusal o) (store_refusals (os ++ us)) h in
    let rest = store_refusals-append os us here.1 in
    ((λ i. if here.0 i then suc (rest.0 i) else rest.0 i), rest.1)

-- at a commit point
same_point : (d e : StatementEnd) (made others : Outcome) (a c : SessionState) → is_store_refusal made ≡ false → is_store_refusal others ≡ false → d ≡ e → SettlesAt true d made a
    → SettlesAt true e others c → (made ≡ others) × (a ≡ c)
same_point d e made others a c clean other_clean p (inl h) (inl k) =
    (h.0 ∙ ap (λ (x : StatementEnd). x.outcome) p ∙ sym k.0, h.1 ∙ ap (λ (x : StatementEnd). record x.after { kept = x.after.catalog }) p ∙ sym k.1)
same_point d e made others a c clean other_clean p (inr h) k = absurd (let x = ap is_store_refusal h.outcome in cc)
same_point d e made others a c clean other_clean p (inl h) (inr k) = absurd (let x = ap is_store_refusal k.outcome in cc)

same_settled : (d e : StatementEnd) (b : Bool) (made others : Outcome) (a c : SessionState) → is_store_refusal made ≡ false → is_store_refusal others ≡ false → d ≡ e
    → SettlesAt b d made a → SettlesAt b e others c → (made ≡ others) × (a ≡ c)
same_settled d e true made others a c clean other_clean p h k = same_point d e made others a c clean other_clean p h k
same_settled d e false made others a c clean other_clean p h k = (h.0 ∙ ap (λ (x : StatementEnd). x.outcome) p ∙ sym k.0, h.1 ∙ ap (λ (x : StatementEnd). x.after) p ∙ sym k.1)

same_answer : (s : SessionState) (t : Statement) (a b : SessionState) (made others : List Outcome) → StatementHasNoChoice t → store_refusals made ≡ 0 → store_refusals others ≡ 0
    → MayBeAnswered s t made a → MayBeAnswered s t others b → (made ≡ others) × (a ≡ b)
same_answer s t a b made others none clean other_clean h k =
    let same : h.end ≡ k.end = one_end s t (first_refusal s t) h.end k.end none h.runs k.runs in
    let here = counted (is_store_refusal h.answer) 0 (ap store_refusals (sym h.made_is) ∙ clean) in
    let there = counted (is_store_refusal k.answer) 0 (ap store_refusals (sym k.made_is) ∙ other_clean) in
    let Other : Bool → Type 0 = λ p. SettlesAt p k.end k.answer b in
    let settled = same_settled h.end k.end (is_commit_point h.end) h.answer k.answer a b here.0 there.0 same h.settles (subst Other (sym (ap is_commit_point same)) k.settles) in
    (h.made_is ∙ ap (λ o. o ∷ []) settled.0 ∙ sym k.made_is, settled.1)

one_answer : (s : SessionState) (r : Reading) (a b : SessionState) (made others : List Outcome) → ReadingHasNoChoice r → store_refusals made ≡ 0 → store_refusals others ≡ 0
    → MayAnswer s r made a → MayAnswer s r others b → (made ≡ others) × (a ≡ b)
one_answer s blank a b made others none p q h k = (h.0 ∙ sym k.0, h.1 ∙ sym k.1)
one_answer s bad a b made others none p q h k = (h.0 ∙ sym k.0, h.1 ∙ sym k.1)
one_answer s deep a b made others none p q h k = (h.0 ∙ sym k.0, h.1 ∙ sym k.1)
one_answer s unread a b made others none p q h k = (h.0 ∙ sym k.0, h.1 ∙ sym k.1)
one_answer s (read t) a b made others none p q h k = same_answer s t a b made others none p q h k

same_step : (m n a b : SessionState) (x y : List ℕ) (made others : List Outcome) → PieceHasNoChoice x → store_refusals made ≡ 0 → store_refusals others ≡ 0 → m ≡ n → x ≡ y → Step m x made a → Step n y others b
    → (made ≡ others) × (a ≡ b)
same_step m n a b x y made others none clean other_clean p q s t =
    let Reads : List ℕ → Type 0 = λ z. ReadsAs z t.reading in
    let reads : ReadsAs x t.reading = subst Reads (sym q) t.reads in
    let reading : s.reading ≡ t.reading = one_reading x s.reading t.reading s.reads reads in
    let Here : Reading → Type 0 = λ r. MayAnswer m r made a in
    let There : SessionState → Type 0 = λ z. MayAnswer z t.reading others b in
    one_answer m t.reading a b made others (read_without_choice x t.reading none reads) clean other_clean (subst Here reading s.answers) (subst There (sym p) t.answers)

same_runs : {start end other : SessionState} {ps qs : List (List ℕ)} {os us : List Outcome} → RunsSession start ps os end → RunsSession start qs us other → Each PieceHasNoChoice ps → ps ≡ qs
    → store_refusals os ≡ 0 → store_refusals us ≡ 0 → (os ≡ us) × (end ≡ other)
same_runs no_pieces no_pieces none p clean other_clean = (refl, refl)
same_runs no_pieces (one_more {pieces = qs} {piece = y} runs step) none p clean other_clean = absurd (nothing_differs qs y p)
same_runs (one_more {pieces = ps} {piece = x} runs step) no_pieces none p clean other_clean = absurd (nothing_differs ps x (sym p))
same_runs (one_more {pieces = ps} {outcomes = os} {middle = m} {after = a} {piece = x} {made = made} runs step) (one_more {pieces = qs} {outcomes = us} {middle = n} {after = b} {piece = y} {made = others} other_runs other_step) none p clean other_clean =
    let parts = same_ends ps qs x y p in
    let first = store_refusals-append os made clean in
    let second = store_refusals-append us others other_clean in
    let before = same_runs runs other_runs (each_front PieceHasNoChoice ps x none) parts.0 first.0 second.0 in
    let here = same_step m n a b x y made others (each_last PieceHasNoChoice ps x none) first.1 second.1 before.1 parts.1 step other_step in
    ((λ i. before.0 i ++ here.0 i), here.1)

pub one_run : (start end other_end : SessionState) (pieces : List (List ℕ)) (outcomes others : List Outcome) → Each PieceHasNoChoice pieces → store_refusals outcomes ≡ 0
    → store_refusals others ≡ 0 → RunsSession start pieces outcomes end → RunsSession start pieces others other_end → (outcomes ≡ others) × (end ≡ other_end)
one_run start end other_end pieces outcomes others none clean other_clean run other = same_runs run other none refl clean other_clean
