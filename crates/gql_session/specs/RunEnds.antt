-- What the top call promises: what its ports tell as it begins, and the table of its endings.
use Rattle.std.specs.Prelude.{◌≡◌, ℕ, ◌+◌, ◌-◌, ◌^◌, ◌≤◌, ◌<◌, ◌⊎◌, min, Bool, true, false, List, [], ◌++◌, length, Option, Some}
use Rattle.gql_ports.specs.Told.{Content}
use Rattle.gql_ports.specs.Held.{Holding}
use Rattle.gql_ports.specs.declared.stored.Record.{Record}
use Rattle.gql_graph.specs.Catalog.{CatalogData}
use Rattle.gql_rowcode.specs.StandFor.{StandFor}
use Rattle.gql_rowcode.specs.FirstBad.{FirstBad}
use Rattle.gql_machine.specs.SessionState.{starting}
use Rattle.gql_session.specs.Words.{Command, run, selftest, command_of, store_of, session_of}
use Rattle.gql_session.specs.GeneratedText.{generated}
use Rattle.gql_session.specs.Endings.{FaultCounts, RanWhole, RanFirst, RanAndFailed}
use Rattle.gql_session.specs.declared.status.Status.{Status}
use Rattle.gql_session.specs.declared.status.Status.TheVariants as status

-- the source tells that it bears this name and holds the text
pub record HoldsText (name : List ℕ) (source : Option Content) (text : List ℕ) : Type 0 where
  pub ready : Bool
  pub source_is : source ≡ Some (record { name = name; ready = ready; left = text })

-- the text of a command's session: that of the file of its name, or the generated one
abbrev pub IsTextOf : Command → Option Content → List ℕ → Type 0
IsTextOf (run session store workers) source text = HoldsText session source text
IsTextOf (selftest n) source text = text ≡ generated n

-- The words are a command, and its session has the text.
pub record SessionTells (words : List (List ℕ)) (source : Option Content) (text : List ℕ) : Type 0 where
  pub command : Command
  pub is_command : command_of words ≡ Some command
  pub text_is : IsTextOf command source text

-- The words are a command, and the keeper tells that it is its store and holds the records.
pub record StoreTells (words : List (List ℕ)) (keeper : Option Holding) (records : List Record) : Type 0 where
  pub command : Command
  pub is_command : command_of words ≡ Some command
  pub keeper_is : keeper ≡ Some (record { name = store_of command; records = records })

-- The words are a command to run a session, and the source tells that it bears the session's name, and its content.
pub record SourceTells (words : List (List ℕ)) (source : Option Content) (c : Content) : Type 0 where
  pub command : Command
  pub is_command : command_of words ≡ Some command
  pub name_is : session_of command ≡ Some c.name
  pub source_is : source ≡ Some c

-- All ports tell what they hold; before is what the sink holds.
pub record PortsTell (words : List (List ℕ)) (source : Option Content) (sink : Option (List ℕ)) (keeper : Option Holding) (text before : List ℕ) (records : List Record) : Type 0 where
  pub text_is : SessionTells words source text
  pub sink_is : sink ≡ Some before
  pub records_are : StoreTells words keeper records

-- the most bytes that a session's text may have
abbrev pub most_bytes : ℕ
most_bytes = 67108864

-- What the keeper holds: records of its store, which stand for the catalog.
pub record HoldsCatalog (held : Option Holding) (c : CatalogData) : Type 0 where
  pub holding : Holding
  pub told : held ≡ Some holding
  pub stand : StandFor holding.records c

-- The records stand for a catalog, the text is within the limit, all of it was run over that catalog, and what the keeper holds then
-- stands for the catalog that the run keeps.
pub record WholeRun (records : List Record) (text before : List ℕ) (faults : FaultCounts) (any_refused : Bool) (after : Option (List ℕ)) (held : Option Holding) : Type 0 where
  pub catalog : CatalogData
  pub stands : StandFor records catalog
  pub within : length text ≤ most_bytes
  pub ran : RanWhole (starting catalog) text before faults any_refused after
  pub kept : HoldsCatalog held ran.end.kept

-- The same, but the run ended at a text that could not be written.
pub record FailedRun (records : List Record) (text before : List ℕ) (faults : FaultCounts) (after : Option (List ℕ)) (held : Option Holding) : Type 0 where
  pub catalog : CatalogData
  pub stands : StandFor records catalog
  pub within : length text ≤ most_bytes
  pub ran : RanAndFailed (starting catalog) text before faults after
  pub kept : HoldsCatalog held ran.end.kept

-- The same, but the run ended for want of memory.
pub record PartRun (records : List Record) (text before : List ℕ) (faults : FaultCounts) (after : Option (List ℕ)) (held : Option Holding) : Type 0 where
  pub catalog : CatalogData
  pub stands : StandFor records catalog
  pub within : length text ≤ most_bytes
  pub ran : RanFirst (starting catalog) text before faults after
  pub kept : HoldsCatalog held ran.end.kept

-- nothing is written, and the keeper's records are as they were
pub record NothingRan (records : List Record) (before : List ℕ) (after : Option (List ℕ)) (held : Option Holding) : Type 0 where
  pub written : after ≡ Some before
  pub holding : Holding
  pub told : held ≡ Some holding
  pub same : holding.records ≡ records

-- What stands at each ending. Usage doesn't come where the words are a command. Where memory ran out before anything was run, the
-- store has not failed.
abbrev pub EndsAs : List Record → List ℕ → List ℕ → FaultCounts → Status → Option (List ℕ) → Option Holding → Type 0
EndsAs records text before faults status.Answered after held = WholeRun records text before faults false after held
EndsAs records text before faults status.Refused after held = WholeRun records text before faults true after held
EndsAs records text before faults status.Usage after held = ⊥
EndsAs records text before faults status.SourceFault after held = NothingRan records before after held
EndsAs records text before faults status.SinkFault after held = FailedRun records text before faults after held
EndsAs records text before faults status.StoreFault after held = NothingRan records before after held
EndsAs records text before faults status.NoMemory after held = ((faults.after ≡ faults.before) × NothingRan records before after held) ⊎ PartRun records text before faults after held
EndsAs records text before faults status.TooLong after held = (most_bytes < length text) × NothingRan records before after held
EndsAs records text before faults (status.BadStore i) after held = FirstBad records i × NothingRan records before after held

-- ---- what is left of the source

-- the whole text was taken from the source, which is ready
abbrev pub IsTaken : List ℕ → Option Content → Type 0
IsTaken name source = source ≡ Some (record { name = name; ready = true; left = [] })

-- A first part of the text was taken from the source, which is ready, and the rest is left.
pub record IsPartTaken (name text : List ℕ) (source : Option Content) : Type 0 where
  pub taken : List ℕ
  pub rest : List ℕ
  pub source_is : source ≡ Some (record { name = name; ready = true; left = rest })
  pub text_is : text ≡ taken ++ rest

-- the source could not be opened: no byte was taken, and it isn't ready
abbrev pub IsUnopened : List ℕ → List ℕ → Option Content → Type 0
IsUnopened name text source = source ≡ Some (record { name = name; ready = false; left = text })

-- What the source of that content tells at each ending.
abbrev pub SourceEndsAs : Content → Status → Option Content → Type 0
SourceEndsAs c status.Answered source = IsTaken c.name source
SourceEndsAs c status.Refused source = IsTaken c.name source
SourceEndsAs c status.Usage source = source ≡ Some c
SourceEndsAs c status.SourceFault source = IsUnopened c.name c.left source ⊎ IsPartTaken c.name c.left source
SourceEndsAs c status.SinkFault source = IsTaken c.name source
SourceEndsAs c status.StoreFault source = source ≡ Some c
SourceEndsAs c status.NoMemory source = (source ≡ Some c) ⊎ IsPartTaken c.name c.left source
SourceEndsAs c status.TooLong source = IsPartTaken c.name c.left source
SourceEndsAs c (status.BadStore i) source = source ≡ Some c

-- ---- the counts of faults at the end: one more at the ending that names the port, up to the last value of a u64, and else the same

-- of the source
abbrev pub source_count : Status → ℕ → ℕ
source_count status.SourceFault count = min (count + 1) (2 ^ 64 - 1)
source_count _ count = count

-- of the sink
abbrev pub sink_count : Status → ℕ → ℕ
sink_count status.SinkFault count = min (count + 1) (2 ^ 64 - 1)
sink_count _ count = count

-- of the keeper, where nothing was run
abbrev pub store_count : Status → ℕ → ℕ
store_count status.StoreFault count = min (count + 1) (2 ^ 64 - 1)
store_count _ count = count

-- ---- which endings come

-- Where that record is the first at fault, a run of a command ends so.
abbrev pub EndsAtFault : ℕ → Status → Type 0
EndsAtFault i (status.BadStore j) = j ≡ i
EndsAtFault i status.StoreFault = Unit {0}
EndsAtFault i status.NoMemory = Unit {0}
EndsAtFault i status.Answered = ⊥
EndsAtFault i status.Refused = ⊥
EndsAtFault i status.Usage = ⊥
EndsAtFault i status.SourceFault = ⊥
EndsAtFault i status.SinkFault = ⊥
EndsAtFault i status.TooLong = ⊥

-- the run went through the whole text, or there was no memory
abbrev pub is_complete : Status → Bool
is_complete status.Answered = true
is_complete status.Refused = true
is_complete status.NoMemory = true
is_complete _ = false

-- the source wasn't opened
abbrev pub is_before_reading : Status → Bool
is_before_reading status.Usage = true
is_before_reading status.StoreFault = true
is_before_reading (status.BadStore i) = true
is_before_reading _ = false

-- nothing was run, so nothing was written, and the store stays
abbrev pub is_before_running : Status → Bool
is_before_running status.Usage = true
is_before_running status.SourceFault = true
is_before_running status.StoreFault = true
is_before_running status.TooLong = true
is_before_running (status.BadStore i) = true
is_before_running _ = false
