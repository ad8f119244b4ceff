use Rattle.std.proofs.lemmas.List.Filters.{dedup_is}
use Rattle.gql_change.proofs.RisingLemmas.{once_rises, once_same}
use Rattle.gql_change.proofs.deleted_numbers.each_once.Goals as goal

pub returns-clause-rising : goal.returns-clause-rising
returns-clause-rising c =
    once_rises _ _ _ c.sort_unstable.ensures.permutation c.sort_unstable.ensures.sorted (dedup_is _ _ _ c.dedup.ensures.filtered)

pub returns-clause-same : goal.returns-clause-same
returns-clause-same c = once_same _ _ _ c.sort_unstable.ensures.permutation c.sort_unstable.ensures.sorted (dedup_is _ _ _ c.dedup.ensures.filtered)
