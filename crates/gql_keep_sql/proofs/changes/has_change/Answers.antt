-- The closure compares a change's key with the key, and the keys ascend.
use Rattle.std.proofs.Common.{◌∙◌, rules}
use Rattle.std.specs.Ordering.{nat_cmp}
use Rattle.std.specs.Cmp.Lexicographic.{slice_cmp}
use Rattle.std.proofs.lemmas.Fn.{always_returns_same}
use Rattle.gql_keep_sql.proofs.SearchLemmas.{searched}
use Rattle.gql_keep_sql.specs.declared.changes.Change.{Change}
use Rattle.gql_keep_sql.proofs.changes.has_change.Goals as goal

pub returns : goal.returns
returns c =
    let facts = c.binary_search_by-found.ensures in
    let by_key = facts.position (λ (change : Change). slice_cmp nat_cmp change.key c.args.key.now) (always_returns_same _ _ _ (λ a r g called. (search rules, search rules))) in
    c.is_ok.ensures.value ∙ searched c.args.items.now c.requires c.args.key.now _ facts.bound by_key
