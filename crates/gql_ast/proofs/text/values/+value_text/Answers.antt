use Rattle.std.proofs.Common.{◌<◌, length, arith}
use Rattle.gql_values3.specs.Meaning.{datum_of}
use Rattle.gql_values3.proofs.ItemLemmas.{depth_le-depth_all}
use Rattle.gql_ast.proofs.text.values.+value_text.Goals as goal

pub push_more_items-push_value-requires : goal.push_more_items-push_value-requires
push_more_items-push_value-requires t c =
    let below : c.loop-i.i < length c.args.items.now = omega arith in
    (omega (arith, depth_le-depth_all datum_of c.args.items.now c.loop-i.i c.index-items-i.result below c.index-items-i.is), tt)
