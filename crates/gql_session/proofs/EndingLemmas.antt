-- How a run ends, from how the run of its text did.
use Rattle.std.proofs.Common.{◌≡◌, ◌⊎◌, ℕ, ◌+◌, ◌-◌, ◌^◌, min, ◌≤◌, ◌<◌, Bool, true, false, List, [], ◌∷◌, ◌++◌, length, Option, Some, None, Result, Ok, Err, refl, sym, ap, ◌∙◌, subst, inl, inr, IsTrue, append-nil, arith}
use Rattle.std.specs.Prelude.{unwrap_or}
use Rattle.gql_ports.specs.Causes.{Rose}
use Rattle.gql_ports.specs.Told.{Content}
use Rattle.gql_ports.specs.Held.{Holding}
use Rattle.gql_ports.specs.declared.stored.Record.{Record}
use Rattle.gql_graph.specs.Catalog.{CatalogData}
use Rattle.gql_rowcode.specs.StandFor.{StandFor}
use Rattle.gql_rowcode.specs.FirstBad.{FirstBad}
use Rattle.gql_txn.specs.Keeps.{Keeps, IsSameStore}
use Rattle.gql_txn.specs.declared.load.LoadFault.TheVariants as load
use Rattle.gql_machine.specs.SessionState.{SessionState, starting}
use Rattle.gql_session.specs.Endings.{FaultCounts}
use Rattle.gql_session.specs.RunEnds.{most_bytes, EndsAs, HoldsCatalog, NothingRan, IsTaken, SourceEndsAs, is_before_reading, is_before_running, is_complete, source_count, sink_count, store_count}
use Rattle.gql_session.specs.declared.run_pieces.RunFault.{RunFault}
use Rattle.gql_session.specs.declared.run_pieces.RunFault.TheVariants as fault
use Rattle.gql_session.specs.declared.status.Status.{Status}
use Rattle.gql_session.specs.declared.status.Status.TheVariants as status
use Rattle.gql_session.specs.Machinery.TextEndings.{TextEnding, status_of, after_running, LoadedEndsAs}
use Rattle.gql_session.proofs.CommandLemmas.{holding}

-- the text was read and run
pub loaded_ends : (start : SessionState) (text before : List ℕ) (faults : FaultCounts) (held : Option Holding) (ran : Result Bool RunFault) (after : Option (List ℕ)) (held_after : Option Holding) → length text ≤ most_bytes
    → TextEnding start text before faults held ran after held_after → LoadedEndsAs start text before faults held (status_of ran) after held_after
loaded_ends start text before faults held (Ok false) after held_after h e = (h, e)
loaded_ends start text before faults held (Ok true) after held_after h e = (h, e)
loaded_ends start text before faults held (Err fault.Sink) after held_after h e = (h, e)
loaded_ends start text before faults held (Err fault.OutOfMemory) after held_after h e = inr (h, e)

-- The store

-- it still tells, and its records stand for what is kept
holds : (before after : Option Holding) (h : Holding) (c d : CatalogData) → before ≡ Some h → IsSameStore before after → StandFor h.records c → (Keeps before c → Keeps after d) → HoldsCatalog after d
holds None after h c d e same stands kept = absurd (let x = e in cc)
holds (Some k) None h c d e same stands kept = absurd same
holds (Some k) (Some m) h c d e same stands kept =
    let it : k ≡ h = ap (λ o. unwrap_or o k) e in
    let P : Holding → Type 0 = λ x. StandFor x.records c in
    record { holding = m; told = refl; stand = kept (subst P (sym it) stands) }

pub nothing_ran : (records : List Record) (name : Option (List ℕ)) (before : List ℕ) (after : Option (List ℕ)) (held held_after : Option Holding) → held ≡ Some (holding name records) → after ≡ Some before
    → held_after ≡ held → NothingRan records before after held_after
nothing_ran records name before after held held_after k p q = record { written = p; holding = holding name records; told = q ∙ k; same = refl }

-- the catalog is that for which the records stand
pub ends_as : (records : List Record) (name : Option (List ℕ)) (d : CatalogData) (text before : List ℕ) (faults : FaultCounts) (s : Status) (after : Option (List ℕ)) (held held_after : Option Holding)
    → held ≡ Some (holding name records) → StandFor records d → IsSameStore held held_after → LoadedEndsAs (starting d) text before faults held s after held_after
    → EndsAs records text before faults s after held_after
ends_as records name d text before faults status.Answered after held held_after k stands same e =
    record { catalog = d; stands = stands; within = e.0; ran = e.1.0; kept = holds held held_after (holding name records) d _ k same stands e.1.1 }
ends_as records name d text before faults status.Refused after held held_after k stands same e =
    record { catalog = d; stands = stands; within = e.0; ran = e.1.0; kept = holds held held_after (holding name records) d _ k same stands e.1.1 }
ends_as records name d text before faults status.Usage after held held_after k stands same e = absurd e
ends_as records name d text before faults status.SourceFault after held held_after k stands same e = nothing_ran records name before after held held_after k e.0 e.1
ends_as records name d text before faults status.SinkFault after held held_after k stands same e =
    record { catalog = d; stands = stands; within = e.0; ran = e.1.0; kept = holds held held_after (holding name records) d _ k same stands e.1.1 }
ends_as records name d text before faults status.StoreFault after held held_after k stands same e = absurd e
ends_as records name d text before faults status.NoMemory after held held_after k stands same (inl e) = inl (e.0, nothing_ran records name before after held held_after k e.1.0 e.1.1)
ends_as records name d text before faults status.NoMemory after held held_after k stands same (inr e) =
    inr (record { catalog = d; stands = stands; within = e.0; ran = e.1.0; kept = holds held held_after (holding name records) d _ k same stands e.1.1 })
ends_as records name d text before faults status.TooLong after held held_after k stands same e = (e.0, nothing_ran records name before after held held_after k e.1.0 e.1.1)
ends_as records name d text before faults (status.BadStore i) after held held_after k stands same e = absurd e

-- A record at fault

-- the record at fault is the one told
pub same_index : (j i : ℕ) → (load.BadRecord j ≡ load.BadRecord i) ⊎ IsTrue false → j ≡ i
same_index j i (inl p) = cc
same_index j i (inr p) = cc

pub first_bad : (records : List Record) (j i : ℕ) → FirstBad records j → status.BadStore j ≡ status.BadStore i → FirstBad records i
first_bad records j i bad p = let same : j ≡ i = cc in let P : ℕ → Type 0 = λ n. FirstBad records n in subst P same bad

-- a record at fault is no lack of the store or of memory
pub not_lacking : IsTrue false → ⊥
not_lacking p = cc

-- Which endings come

-- a run of a text doesn't end before it runs, nor at a text that is too long
pub is_past_reading : (r : Result Bool RunFault) → is_before_running (status_of r) ≡ false
is_past_reading (Ok false) = refl
is_past_reading (Ok true) = refl
is_past_reading (Err fault.Sink) = refl
is_past_reading (Err fault.OutOfMemory) = refl

pub is_later : (s : Status) (r : Result Bool RunFault) → s ≡ status_of r → is_before_running s ≡ false
is_later s r p = ap is_before_running p ∙ is_past_reading r

pub not_before : {A : Type 0} (s : Status) → is_before_running s ≡ false → is_before_running s ≡ true → A
not_before s h p = absurd (let q = sym h ∙ p in cc)

pub not_too_long : (s : Status) → is_before_running s ≡ false → ¬ (s ≡ status.TooLong)
not_too_long s h p = let q = ap is_before_running p in cc

pub not_source_fault : (s : Status) → is_before_running s ≡ false → ¬ (s ≡ status.SourceFault)
not_source_fault s h p = let q = ap is_before_running p in cc

pub not_bad_store : (s : Status) (i : ℕ) → is_before_reading s ≡ false → ¬ (s ≡ status.BadStore i)
not_bad_store s i h p = let q = ap is_before_reading p in cc

-- The source, and the counts of faults

-- the whole text was read before it was run
pub source_ends : (c : Content) (r : Result Bool RunFault) (source : Option Content) → IsTaken c.name source → SourceEndsAs c (status_of r) source
source_ends c (Ok false) source t = t
source_ends c (Ok true) source t = t
source_ends c (Err fault.Sink) source t = t
source_ends c (Err fault.OutOfMemory) source t = inr (record { taken = c.left; rest = []; source_is = t; text_is = sym (append-nil c.left) })

-- the run of a text is no fault of the source
pub source_uncounted : (r : Result Bool RunFault) (n : ℕ) → source_count (status_of r) n ≡ n
source_uncounted (Ok false) n = refl
source_uncounted (Ok true) n = refl
source_uncounted (Err fault.Sink) n = refl
source_uncounted (Err fault.OutOfMemory) n = refl

pub sink_counted : (r : Result Bool RunFault) (n : ℕ) → after_running r n ≡ sink_count (status_of r) n
sink_counted (Ok false) n = refl
sink_counted (Ok true) n = refl
sink_counted (Err fault.Sink) n = refl
sink_counted (Err fault.OutOfMemory) n = refl

-- once a catalog is loaded no ending is the store's fault
pub store_uncounted : (s : Status) (n : ℕ) → is_before_reading s ≡ false → store_count s n ≡ n
store_uncounted status.Answered n h = refl
store_uncounted status.Refused n h = refl
store_uncounted status.Usage n h = refl
store_uncounted status.SourceFault n h = refl
store_uncounted status.SinkFault n h = refl
store_uncounted status.StoreFault n h = absurd (let no : true ≡ false = h in cc)
store_uncounted status.NoMemory n h = refl
store_uncounted status.TooLong n h = refl
store_uncounted (status.BadStore i) n h = refl

-- at its ending a port's count rose
pub source_rose : (s : Status) (old new : ℕ) → new ≡ source_count s old → s ≡ status.SourceFault → Rose old new
source_rose s old new h p = let risen : new ≡ min (old + 1) (2 ^ 64 - 1) = h ∙ ap (λ x. source_count x old) p in omega (arith, risen)

pub sink_rose : (s : Status) (old new : ℕ) → new ≡ sink_count s old → s ≡ status.SinkFault → Rose old new
sink_rose s old new h p = let risen : new ≡ min (old + 1) (2 ^ 64 - 1) = h ∙ ap (λ x. sink_count x old) p in omega (arith, risen)

pub store_rose : (s : Status) (old new : ℕ) → (is_before_running s ≡ true → new ≡ store_count s old) → s ≡ status.StoreFault → Rose old new
store_rose s old new h p =
    let risen : new ≡ min (old + 1) (2 ^ 64 - 1) = h (ap is_before_running p) ∙ ap (λ x. store_count x old) p in omega (arith, risen)

-- where nothing fails, the text is within its limit and no record is at fault
pub completed : (text : List ℕ) (s : Status) (A B C : Type 0) → length text ≤ most_bytes → ¬ (s ≡ status.Usage) → (s ≡ status.TooLong → most_bytes < length text)
    → ((i : ℕ) → ¬ (s ≡ status.BadStore i)) → (s ≡ status.SourceFault → A) → (s ≡ status.SinkFault → B) → (s ≡ status.StoreFault → C) → ¬ A → ¬ B → ¬ C → is_complete s ≡ true
completed text status.Answered A B C h usage long bad a b c na nb nc = refl
completed text status.Refused A B C h usage long bad a b c na nb nc = refl
completed text status.Usage A B C h usage long bad a b c na nb nc = absurd (usage refl)
completed text status.SourceFault A B C h usage long bad a b c na nb nc = absurd (na (a refl))
completed text status.SinkFault A B C h usage long bad a b c na nb nc = absurd (nb (b refl))
completed text status.StoreFault A B C h usage long bad a b c na nb nc = absurd (nc (c refl))
completed text status.NoMemory A B C h usage long bad a b c na nb nc = refl
completed text status.TooLong A B C h usage long bad a b c na nb nc = let over = long refl in absurd (omega arith)
completed text (status.BadStore i) A B C h usage long bad a b c na nb nc = absurd (bad i refl)
