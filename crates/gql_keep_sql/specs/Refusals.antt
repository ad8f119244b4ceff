-- When a call goes well, and why it fails. Want of memory may come at any time, and asks for no reason.
use Rattle.std.specs.Prelude.{◌≡◌, ◌≢◌, Bool, true, false, Result, Ok, Err, IfErr}
use Rattle.sqlite.specs.declared.error.ErrorCode.TheVariants.{OutOfMemory}
use Rattle.sqlite.specs.declared.error.Error.{Error}
use Rattle.sqlite.specs.declared.error.Error.TheVariants.{SqliteFailure}
use Rattle.gql_ports.specs.declared.fault.KeepFault.{KeepFault}
use Rattle.gql_ports.specs.declared.fault.KeepFault.TheVariants.{Failed}

-- want of memory, as SQLite tells it
abbrev pub no_memory : Error
no_memory = SqliteFailure OutOfMemory

-- it goes well where the test passes, and fails where it does not
abbrev pub SucceedsIff : {T : Type 0} → Result T Error → Bool → Type 0
SucceedsIff (Ok x) test = test ≡ true
SucceedsIff (Err e) test = e ≢ no_memory → test ≡ false

-- it fails with no error but one of these
abbrev pub FailsOnlyBy : {T : Type 0} → Result T Error → (Error → Type 0) → Type 0
FailsOnlyBy result Cause = IfErr result (λ e. e ≢ no_memory → Cause e)

-- where a keeper answers that it failed, the error behind that is one of these, and is no want of memory
abbrev pub FailedBy : {T : Type 0} → Result T KeepFault → (Error → Type 0) → Type 0
FailedBy result Cause = result ≡ Err Failed → (e : Error) × (e ≢ no_memory) × Cause e
