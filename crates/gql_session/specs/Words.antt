-- The command line: which words are a command, and which one. The first word is the program's name, whatever it is; the second tells
-- the command; what stands behind is read as the crate `clap` reads a simple command, help and version switched off.
use Rattle.std.specs.Prelude.{ℕ, ◌&&◌, Bool, true, false, nat_le, List, [], ◌∷◌, length, Option, Some, None, codes, if◌then◌else◌}
use Rattle.std.specs.Str.{all_ascii_digits}
use Rattle.clap.specs.Words.{App, Kinds, Row, Rule, first_of, fault_of, matches_of, new_app, new_rule, with_rule}
use Rattle.clap.specs.declared.builder.ArgAction.TheVariants.{Set}
use Rattle.gql_values3.specs.Integers.{value_of_digits}
use Rattle.gql_values3.specs.Texts.{same_text}

-- a command
pub data Command : Type 0 where
  -- run a session file, by its name, over the store of a name, or one in memory, with so many workers
  run : List ℕ → Option (List ℕ) → ℕ → Command
  -- run the generated session of this size over a store in memory
  selftest : ℕ → Command

-- the name of the store, where it is in a file
abbrev pub store_of : Command → Option (List ℕ)
store_of (run session store workers) = store
store_of (selftest n) = None

-- the name of the session's file, where it is in one
abbrev pub session_of : Command → Option (List ℕ)
session_of (run session store workers) = Some session
session_of (selftest n) = None

-- ---- what clap is told

-- a required argument of this name
abbrev pub argument_rule : List ℕ → Rule
argument_rule name = record (new_rule name) { required = true; action = Some Set }

-- an option of this name, which takes a value
abbrev pub option_rule : List ℕ → Rule
option_rule name = record (new_rule name) { long = Some name; action = Some Set }

-- `gql` without arguments: there are no words for help and version, and no word for the program stands in front
abbrev pub bare_app : App
bare_app = record (new_app (codes "gql")) {
  top = record (new_app (codes "gql")).top { disable_help_flag = true; disable_version_flag = true; no_binary_name = true };
}

-- <session> [--store <path>] [--workers <n>]
abbrev pub run_app : App
run_app = with_rule (with_rule (with_rule bare_app (argument_rule (codes "session"))) (option_rule (codes "store"))) (option_rule (codes "workers"))

-- <n>
abbrev pub selftest_app : App
selftest_app = with_rule bare_app (argument_rule (codes "n"))

-- no kind of fault is among them
abbrev pub has_none : Kinds → Bool
has_none [] = true
has_none (k ∷ ks) = false

-- what clap finds, where it finds no fault
abbrev pub rows_of : App → List (List ℕ) → Option (List Row)
rows_of app words = if has_none (fault_of app words) then Some (matches_of app words) else None

-- ---- which command

-- a number of one to five decimal digits, from 1 to a limit
abbrev pub number_up_to : ℕ → List ℕ → Option ℕ
number_up_to most digits =
    if nat_le 1 (length digits) && nat_le (length digits) 5 && all_ascii_digits digits && nat_le 1 (value_of_digits digits) && nat_le (value_of_digits digits) most
    then Some (value_of_digits digits) else None

-- 1 to 64 workers, and one where the option isn't there
abbrev pub workers_in : Option (List ℕ) → Option ℕ
workers_in None = Some 1
workers_in (Some digits) = number_up_to 64 digits

-- run, where a session is named and the number of workers is in order
abbrev pub run_with : Option (List ℕ) → Option (List ℕ) → Option ℕ → Option Command
run_with (Some session) store (Some workers) = Some (run session store workers)
run_with _ _ _ = None

-- the same of what clap found
abbrev pub run_in : Option (List Row) → Option Command
run_in None = None
run_in (Some rows) = run_with (first_of (codes "session") rows) (first_of (codes "store") rows) (workers_in (first_of (codes "workers") rows))

-- selftest, where the size is in order
abbrev pub selftest_with : Option ℕ → Option Command
selftest_with (Some n) = Some (selftest n)
selftest_with None = None

-- 1 to 5,000
abbrev pub size_in : Option (List ℕ) → Option ℕ
size_in None = None
size_in (Some digits) = number_up_to 5000 digits

-- the same of what clap found
abbrev pub selftest_in : Option (List Row) → Option Command
selftest_in None = None
selftest_in (Some rows) = selftest_with (size_in (first_of (codes "n") rows))

-- the command that the words are, if they are one
abbrev pub command_of : List (List ℕ) → Option Command
command_of [] = None
command_of (program ∷ []) = None
command_of (program ∷ second ∷ words) =
    if same_text second (codes "run") then run_in (rows_of run_app words)
    else if same_text second (codes "selftest") then selftest_in (rows_of selftest_app words)
    else None
