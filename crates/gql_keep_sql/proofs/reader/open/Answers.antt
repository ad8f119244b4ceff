-- The records of all rows are read ahead, since nothing was asked behind their query.
use Rattle.std.proofs.lemmas.List.Sorted.{IsPermutation-trans}
use Rattle.gql_keep_sql.proofs.HeldLemmas.{all_held, all_keys}
use Rattle.gql_keep_sql.proofs.reader.open.Goals as goal

pub invariant_of-reader : goal.invariant_of-reader
invariant_of-reader g c =
    let same = IsPermutation-trans _ _ _ c.in_ok-keys.ensures.same c.reverse.ensures.permutation in
    record { held = ∣ all_held _ _ _ c.reverse.new.self.items c.in_ok-place.place c.in_ok-place.ensures.all same ∣₁ }

pub returns-clause-listed : goal.returns-clause-listed
returns-clause-listed g c = all_keys _ _ _ _ _ c.in_ok-place.place c.in_ok-place.ensures.all c.in_ok-keys.ensures.same c.in_ok-keys.ensures.keys
