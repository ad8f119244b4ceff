use Rattle.gql_parts.proofs.LongestLaws.{filler_longest, where_longest, value_longest, labels_longest}
use Rattle.gql_parts.proofs.laws.the_longest_part_is_read.Goals as goal

pub returns : goal.returns
returns c = record { filler = filler_longest; held = where_longest; value = value_longest; labels = labels_longest }
