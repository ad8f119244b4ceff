-- The texts of outcomes, which outcomes are refusals, and which of these are the store's.
use Rattle.std.specs.Prelude.{ℕ, suc, Bool, true, false, List, [], ◌∷◌, if◌then◌else◌}
use Rattle.std.specs.List.{flat_map}
use Rattle.gql_ast.specs.declared.refusal.Outcome.{Outcome}
use Rattle.gql_ast.specs.declared.refusal.Outcome.TheVariants as outcome
use Rattle.gql_ast.specs.declared.refusal.Refusal.TheVariants as refusal
use Rattle.gql_text.specs.OutcomeText.{outcome_text}

-- a refusal, whatever its code; `ok` and a table are none
abbrev pub is_refusal : Outcome → Bool
is_refusal outcome.Done = false
is_refusal (outcome.Table t) = false
is_refusal (outcome.Refused r) = true

-- one after the other
abbrev pub outcome_texts : List Outcome → List ℕ
outcome_texts outcomes = flat_map outcome_text outcomes

-- E22
abbrev pub is_store_refusal : Outcome → Bool
is_store_refusal (outcome.Refused refusal.Store) = true
is_store_refusal _ = false

-- how many of them are
abbrev pub store_refusals : List Outcome → ℕ
store_refusals [] = 0
store_refusals (o ∷ os) = if is_store_refusal o then suc (store_refusals os) else store_refusals os
