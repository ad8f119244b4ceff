-- What the structs of grouping mean.
use Rattle.std.specs.Prelude.{map}
use Rattle.gql_ast.specs.Meaning.{tree_of}
use Rattle.gql_table.specs.Machinery.AggregateMeaning.{aggregate_meant}
use Rattle.gql_table.specs.Machinery.GroupPlan.{ItemPlan}
use Rattle.gql_table.specs.Machinery.Running.{Stood}
use Rattle.gql_table.specs.Machinery.StandingMeaning.{standing_of}
use Rattle.gql_table.specs.declared.group_items.GroupItem.{GroupItem}
use Rattle.gql_table.specs.declared.new_group.Group.{Group}

abbrev pub item_meant : GroupItem → ItemPlan
item_meant i = record {
  tree = tree_of i.expr.now;
  aggregates = map aggregate_meant i.aggregates.items;
  names = i.names;
  whole = tree_of i.whole;
}

abbrev pub group_meant : Group → Stood
group_meant g = (g.key, map standing_of g.states.items)
