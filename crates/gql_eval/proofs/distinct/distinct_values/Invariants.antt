use Rattle.std.proofs.Common.{◌≡◌, map, drop, ◌++◌}
use Rattle.std.specs.List.{list_any}
use Rattle.std.specs.Ordering.{is_eq, on}
use Rattle.std.specs.Borrow.{Bor}
use Rattle.std.specs.BTreeSet.{contains}
use Rattle.gql_values3.specs.Meaning.{datum_of}
use Rattle.gql_values3.specs.ValueOrder.{datum_cmp}
use Rattle.gql_values3.specs.declared.value.Value.{Value}
use Rattle.gql_ast.specs.Aggregates.{distinct}
use Rattle.gql_eval.specs.Machinery.Ranked.{ranked_datum}
use Rattle.gql_eval.specs.declared.ranked.Ranked.{Ranked}
use Rattle.gql_eval.proofs.AggregateLemmas.{news}
use Rattle.gql_eval.proofs.distinct.distinct_values.Given as goal

abbrev pub invariant-loop-i : goal.invariant-loop-i
invariant-loop-i l =
    let kept = map (λ (v : Bor Value). datum_of v.now) l.left.items in
    record {
      so_far : kept ++ news kept (distinct (map (λ (v : Bor Value). datum_of v.now) (drop l.i l.values)))
          ≡ distinct (map (λ (v : Bor Value). datum_of v.now) l.values);
      same : (q : Ranked) → contains (on ranked_datum datum_cmp) l.seen q ≡ list_any (λ (v : Bor Value). is_eq (datum_cmp (datum_of v.now) (ranked_datum q))) l.left.items;
    }
