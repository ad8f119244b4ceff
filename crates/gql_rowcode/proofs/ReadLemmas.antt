-- The clauses of reading: what was read, or the first fault.
use Rattle.std.proofs.Common.{◌≡◌, ◌≢◌, ◌∙◌, ℕ, ◌<◌, eqb, true, false, List, [], ◌∷◌, length, Some, Ok, Err, refl, sym, ap, subst, arith, inl, inr, ◌⊎◌}
use Rattle.std.specs.Prelude.{slice_get, MatchResult, Result}
use Rattle.std.proofs.lemmas.Bool.{cases_order}
use Rattle.gql_graph.specs.Catalog.{CatalogData, initial_catalog}
use Rattle.gql_ports.specs.declared.stored.Record.{Record}
use Rattle.gql_rowcode.specs.StandFor.{StandFor}
use Rattle.gql_rowcode.specs.FirstBad.{FirstBad}
use Rattle.gql_rowcode.specs.declared.fault.ReadFault.{ReadFault}
use Rattle.gql_rowcode.specs.declared.fault.ReadFault.TheVariants as faults
use Rattle.gql_rowcode.proofs.KnownLemmas.{stand_known}
use Rattle.gql_rowcode.proofs.WalkLemmas.{there_is}

-- no records stand for two catalogs
pub stand_for_one : (rs : List Record) (c d : CatalogData) → StandFor rs c → StandFor rs d → c ≡ d
stand_for_one [] c d one other = one ∙ sym other
stand_for_one (r ∷ rs) c d one other =
    let a = stand_known r rs c one in
    let b = stand_known r rs d other in
    sym (a.one a.known) ∙ b.one a.known

-- records of a catalog have no fault
pub stand_no_fault : (rs : List Record) (c : CatalogData) → StandFor rs c → (i : ℕ) → FirstBad rs i → ⊥
stand_no_fault [] c stands i bad = let lt = bad.there in omega arith
stand_no_fault (r ∷ rs) c stands i bad =
    let a = stand_known r rs c stands in
    let s = there_is (r ∷ rs) i bad.there in
    bad.fault s.0 s.1 (a.good i s.0 s.1)

-- there is one first fault
pub first_bad_same : (rs : List Record) (i j : ℕ) → FirstBad rs i → FirstBad rs j → i ≡ j
first_bad_same rs i j one other =
    elim (cases_order i j) [
      | inl same ↦ same
      | inr (inl less) ↦ let r = there_is rs i one.there in absurd (one.fault r.0 r.1 (other.earlier i r.0 less r.1))
      | inr (inr more) ↦ let r = there_is rs j other.there in absurd (other.fault r.0 r.1 (one.earlier j r.0 more r.1))
    ]

abbrev pub failed : {A : Type 0} → ReadFault → Result A ReadFault
failed e = Err e

abbrev IsToldAt : ReadFault → ℕ → Type 0
IsToldAt e i = (e ≡ faults.BadRecord i) ⊎ (e ≡ faults.OutOfMemory)

-- a fault that is told is the first, and the first is told, unless there is no memory
pub fault_told : (rs : List Record) (e : ReadFault) → ((i : ℕ) → failed {A = ℕ} e ≡ failed (faults.BadRecord i) → FirstBad rs i) → (i : ℕ) → FirstBad rs i → IsToldAt e i
fault_told rs faults.OutOfMemory tells i bad = inr refl
fault_told rs (faults.BadRecord at) tells i bad = inl (ap (λ (n : ℕ). faults.BadRecord n) (first_bad_same rs at i (tells at refl) bad))

-- over the records of a catalog only memory fails
pub fault_complete : (rs : List Record) (e : ReadFault) (c : CatalogData) → ((i : ℕ) → failed {A = ℕ} e ≡ failed (faults.BadRecord i) → FirstBad rs i) → StandFor rs c → e ≡ faults.OutOfMemory
fault_complete rs faults.OutOfMemory c tells stands = refl
fault_complete rs (faults.BadRecord at) c tells stands = absurd (stand_no_fault rs c stands at (tells at refl))

-- a result at the fault that it tells
pub err_at : {A : Type 0} (a b : ReadFault) → failed {A = A} a ≡ failed b → a ≡ b
err_at a b e = cc

pub fault_as : {A B : Type 0} (a b : ReadFault) → failed {A = A} a ≡ failed b → failed {A = B} a ≡ failed b
fault_as a b e = ap (λ (x : ReadFault). Err x) (err_at a b e)

-- records that are some
pub some_records : (rs : List Record) → eqb (length rs) 0 ≡ false → rs ≢ []
some_records rs e none = both (ap (λ (xs : List Record). eqb (length xs) 0) none)
  where
    both : eqb (length rs) 0 ≡ true → ⊥
    both h = cc
