-- In a run from a start, where no transaction is open the catalog is the one that is kept.
use Rattle.std.proofs.Common.{◌≡◌, ℕ, Bool, true, false, not, ◌&&◌, List, None, refl, ap, sym, ◌∙◌, inl, inr, subst}
use Rattle.std.specs.Prelude.{is_some}
use Rattle.gql_graph.specs.Catalog.{CatalogData}
use Rattle.gql_ast.specs.declared.refusal.Outcome.{Outcome}
use Rattle.gql_machine.specs.Outcomes.{is_refusal}
use Rattle.gql_machine.specs.Reading.{Reading, blank, bad, deep, unread, read}
use Rattle.gql_machine.specs.SessionState.{SessionState, starting}
use Rattle.gql_machine.specs.StatementRun.{StatementEnd}
use Rattle.gql_machine.specs.SessionRun.{is_commit_point, SettlesAt, MayAnswer, RunsSession, no_pieces, one_more}
use Rattle.gql_machine.proofs.KeptLemmas.{Leaves, statement_leaves}

-- no transaction is open only where nothing is changed
abbrev Settled : SessionState → Type 0
Settled s = s.access ≡ None → s.catalog ≡ s.kept

at_state : (s t : SessionState) → s ≡ t → Settled t → Settled s
at_state s t p k = subst Settled (sym p) k

-- no commit point is behind it: it was refused, or a transaction is open
no_point : (s : SessionState) (e : StatementEnd) (refused : Bool) → is_refusal e.outcome ≡ refused → (not refused && not (is_some e.after.access)) ≡ false → Leaves s e → Settled s → Settled e.after
no_point s e true is p leaves h = at_state e.after s (leaves.refused is) h
no_point s e false is p leaves h = λ none. absurd (let no : true ≡ false = ap (λ o. not (is_some o)) (sym none) ∙ p in cc)

settled : (s : SessionState) (e : StatementEnd) (b : Bool) (o : Outcome) (t : SessionState) → is_commit_point e ≡ b
    → SettlesAt b e o t → Leaves s e → Settled s → Settled t
settled s e true o t is (inl k) leaves h = at_state t _ k.1 (λ none. refl)
settled s e true o t is (inr r) leaves h = at_state t _ r.undone (λ none. refl)
settled s e false o t is k leaves h = at_state t e.after k.1 (no_point s e (is_refusal e.outcome) refl is leaves h)

answer_settled : (s t : SessionState) (r : Reading) (made : List Outcome) → Settled s → MayAnswer s r made t → Settled t
answer_settled s t blank made h k = at_state t s k.1 h
answer_settled s t bad made h k = at_state t s k.1 h
answer_settled s t deep made h k = at_state t s k.1 h
answer_settled s t unread made h k = at_state t s k.1 h
answer_settled s t (read u) made h k = settled s k.end (is_commit_point k.end) k.answer t refl k.settles (statement_leaves s u k.end k.runs) h

run_settled : {start end : SessionState} {ps : List (List ℕ)} {os : List Outcome} → RunsSession start ps os end → Settled start → Settled end
run_settled no_pieces h = h
run_settled (one_more {middle = m} {after = a} {made = made} runs step) h = answer_settled m a step.reading made (run_settled runs h) step.answers

pub unopened : (c : CatalogData) (end : SessionState) (pieces : List (List ℕ)) (outcomes : List Outcome) → RunsSession (starting c) pieces outcomes end → end.access ≡ None → end.catalog ≡ end.kept
unopened c end pieces outcomes runs = run_settled runs (λ none. refl)
