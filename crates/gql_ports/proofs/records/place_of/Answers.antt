use Rattle.std.proofs.Common.{rules}
use Rattle.std.specs.Ordering.{nat_cmp}
use Rattle.std.specs.Cmp.Lexicographic.{slice_cmp}
use Rattle.std.proofs.lemmas.Fn.{always_returns_same}
use Rattle.gql_ports.proofs.RecordLemmas.{searched}
use Rattle.gql_ports.specs.declared.stored.Record.{Record}
use Rattle.gql_ports.proofs.records.place_of.Goals as goal

-- the closure compares a record's key with the key, and the keys ascend
pub returns : goal.returns
returns c =
    let facts = c.binary_search_by.ensures in
    let by_key = facts.position (λ (r : Record). slice_cmp nat_cmp r.key c.args.key.now) (always_returns_same _ _ _ (λ a r g called. (search rules, search rules))) in
    searched c.args.items.now c.requires c.args.key.now _ facts.bound by_key
