use Rattle.std.proofs.Common.{◌<◌, length, arith}
use Rattle.gql_ast.specs.LabelMeaning.{label_of}
use Rattle.gql_ast.proofs.HeightLemmas.{label_height_of_le-highest_label}
use Rattle.gql_ast.proofs.text.labels.+label_text.Goals as goal

pub push_more_labels-push_label-requires : goal.push_more_labels-push_label-requires
push_more_labels-push_label-requires t c =
    let below : c.loop-i.i < length c.args.labels.now = omega arith in
    (omega (arith, label_height_of_le-highest_label label_of c.args.labels.now c.loop-i.i c.index-labels-i.result below c.index-labels-i.is), tt)
