use Rattle.std.proofs.Common.{◌≡◌, map, take}
use Rattle.gql_ast.specs.RowAggregates.{RowAggregate}
use Rattle.gql_table.specs.Machinery.AggregateMeaning.{aggregate_meant}
use Rattle.gql_table.specs.Machinery.Preparations.{prepared_under}
use Rattle.gql_table.proofs.prepared_items.prepare_arguments.Given as goal

abbrev pub invariant-loop-i : goal.invariant-loop-i
invariant-loop-i l = l.noted.items ≡ map (prepared_under l.columns l.params) (map (λ (a : RowAggregate). a.argument) (map aggregate_meant (take l.i l.aggregates)))
