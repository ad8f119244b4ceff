-- EndingMeaning: what an ending that a function read means.
use Rattle.gql_ast.specs.LabelMeaning.{label_of}
use Rattle.gql_exprs.specs.declared.ending.TestEnding.{TestEnding}
use Rattle.gql_exprs.specs.declared.ending.TestEnding.TheVariants as read
use Rattle.gql_exprs.specs.Grammar.{Ending, has_quality, has_labels, is_end}

abbrev pub ending_of : TestEnding → Ending
ending_of (read.HasQuality s q) = has_quality s q
ending_of (read.HasLabels s l) = has_labels s (label_of l)
ending_of (read.IsEnd s end v) = is_end s end v
