-- What the code's commands mean, and which words it reads as numbers.
use Rattle.std.specs.Prelude.{ℕ, ◌&&◌, Bool, nat_le, List, length}
use Rattle.std.specs.Option.{option_copied}
use Rattle.std.specs.Str.{all_ascii_digits}
use Rattle.gql_session.specs.Words.{Command, run, selftest}
use Rattle.gql_session.specs.declared.words.Command.{Command as CommandWords}
use Rattle.gql_session.specs.declared.words.Command.TheVariants as command

abbrev pub seen : CommandWords → Command
seen (command.Run w) = run w.session.now (option_copied w.store) w.workers
seen (command.Selftest n) = selftest n

-- one to five digits
abbrev pub is_short : List ℕ → Bool
is_short digits = nat_le 1 (length digits) && nat_le (length digits) 5 && all_ascii_digits digits
