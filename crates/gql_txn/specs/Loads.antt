-- Why no catalog was loaded.
use Rattle.std.specs.Prelude.{◌≡◌, Bool, true, false, List}
use Rattle.gql_ports.specs.declared.stored.Record.{Record}
use Rattle.gql_ports.specs.declared.fault.KeepFault.{KeepFault}
use Rattle.gql_ports.specs.declared.fault.KeepFault.TheVariants as keep
use Rattle.gql_rowcode.specs.FirstBad.{FirstBad}
use Rattle.gql_txn.specs.declared.load.LoadFault.{LoadFault}
use Rattle.gql_txn.specs.declared.load.LoadFault.TheVariants as load

-- what each fault says of the records
abbrev pub LoadCause : List Record → LoadFault → Type 0
LoadCause records load.Failed = Unit {0}
LoadCause records (load.BadRecord i) = FirstBad records i
LoadCause records load.OutOfMemory = Unit {0}

-- the store or the memory lacked, and nothing is said of the records
abbrev pub is_lack : LoadFault → Bool
is_lack load.Failed = true
is_lack (load.BadRecord i) = false
is_lack load.OutOfMemory = true

-- a keeper's fault as one of loading
abbrev pub keep_fault_gives : KeepFault → LoadFault → Type 0
keep_fault_gives keep.Failed e = e ≡ load.Failed
keep_fault_gives keep.OutOfMemory e = e ≡ load.OutOfMemory
