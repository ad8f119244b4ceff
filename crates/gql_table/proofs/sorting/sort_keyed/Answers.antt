use Rattle.std.proofs.Common.{List, Bool, rules}
use Rattle.std.specs.Ordering.{is_lt}
use Rattle.std.proofs.lemmas.Fn.{always_returns_same}
use Rattle.gql_values3.specs.Datum.{Datum}
use Rattle.gql_table.specs.Sorting.{keys_cmp}
use Rattle.gql_eval.proofs.StableSort.{is_sorted}
use Rattle.gql_table.proofs.KeyLemmas.{keyed_order}
use Rattle.gql_table.proofs.sorting.sort_keyed.Goals as goal

pub returns : goal.returns
returns c =
    let items = c.args.items.now in
    let lt : List Datum × List Datum → List Datum × List Datum → Bool = λ a b. is_lt (keys_cmp items a.0 b.0) in
    let facts = c.in_ok-sort_by.ensures in
    is_sorted lt (keyed_order items) c.args.keyed.items c.sort_by.new.self.items
    (facts.sorted lt (keyed_order items) (always_returns_same _ _ _ (λ a r g called. (search rules, search rules))))
    (facts.stable lt (keyed_order items) (always_returns_same _ _ _ (λ a r g called. (search rules, search rules))))
