-- Records as they are made one after the other, and how they are put in order.
use Rattle.std.specs.Prelude.{◌≡◌, ℕ, Bool, List, ◌++◌, map}
use Rattle.std.specs.List.{AllByRecursion}
use Rattle.std.specs.declared.cmp.Ordering.{Ordering}
use Rattle.std.specs.Ordering.{is_lt, nat_cmp}
use Rattle.std.specs.Cmp.Lexicographic.{slice_cmp}
use Rattle.gql_ports.specs.declared.stored.Record.{Record}
use Rattle.gql_rowcode.specs.Records.{Form, record_of, IsForm}

-- behind the records before, there are those that say these
abbrev pub SayAlso : List Form → List Record → List Record → Type 0
SayAlso forms before after = AllByRecursion IsForm forms × (after ≡ before ++ map record_of forms)

-- the order of texts by bytes
abbrev pub text_cmp : List ℕ → List ℕ → Ordering
text_cmp a b = slice_cmp nat_cmp a b

-- the order of records by key
abbrev pub key_before : Record → Record → Bool
key_before a b = is_lt (text_cmp a.key b.key)
