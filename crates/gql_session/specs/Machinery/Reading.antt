-- How the reading of a text ends, as the calls below `run` tell it.
use Rattle.std.specs.Prelude.{ℕ, ◌+◌, ◌-◌, ◌^◌, ◌⊎◌, min, List, Result, Ok, Err, Option}
use Rattle.gql_ports.specs.Told.{Content}
use Rattle.gql_session.specs.RunEnds.{IsTaken, IsPartTaken, IsUnopened}
use Rattle.gql_session.specs.declared.read_text.TextFault.{TextFault}
use Rattle.gql_session.specs.declared.read_text.TextFault.TheVariants as fault

-- the count of the source's faults behind it
abbrev pub after_reading : {T : Type 0} → Result T TextFault → ℕ → ℕ
after_reading (Ok value) count = count
after_reading (Err fault.Failed) count = min (count + 1) (2 ^ 64 - 1)
after_reading (Err fault.TooLong) count = count
after_reading (Err fault.OutOfMemory) count = count

-- what the source of that name and text tells behind it
abbrev pub ReadingLeaves : {T : Type 0} → List ℕ → List ℕ → Result T TextFault → Option Content → Type 0
ReadingLeaves name text (Ok value) source = IsTaken name source
ReadingLeaves name text (Err fault.Failed) source = IsUnopened name text source ⊎ IsPartTaken name text source
ReadingLeaves name text (Err fault.TooLong) source = IsPartTaken name text source
ReadingLeaves name text (Err fault.OutOfMemory) source = IsPartTaken name text source
