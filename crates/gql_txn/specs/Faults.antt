-- How a commit and a loading change the count of the store's faults: one more where the store failed, up to the last value of a u64,
-- and else, want of memory too, the same.
use Rattle.std.specs.Prelude.{ℕ, ◌+◌, ◌-◌, ◌^◌, min, Result, Ok, Err}
use Rattle.gql_txn.specs.declared.commit.CommitFault.{CommitFault}
use Rattle.gql_txn.specs.declared.commit.CommitFault.TheVariants as commit
use Rattle.gql_txn.specs.declared.load.LoadFault.{LoadFault}
use Rattle.gql_txn.specs.declared.load.LoadFault.TheVariants as load

-- the count behind a commit
abbrev pub after_commit : {T : Type 0} → Result T CommitFault → ℕ → ℕ
after_commit (Ok value) count = count
after_commit (Err commit.Store) count = min (count + 1) (2 ^ 64 - 1)
after_commit (Err commit.OutOfMemory) count = count

-- the count behind a loading; records at fault are no fault of the store
abbrev pub after_loading : {T : Type 0} → Result T LoadFault → ℕ → ℕ
after_loading (Ok value) count = count
after_loading (Err load.Failed) count = min (count + 1) (2 ^ 64 - 1)
after_loading (Err (load.BadRecord i)) count = count
after_loading (Err load.OutOfMemory) count = count
