use Rattle.std.proofs.Common.{◌∙◌, ap}
use Rattle.gql_change.specs.Machinery.DeletionSteps.{has_number}
use Rattle.gql_change.proofs.DeletedNumbers.{nodes_are_going}
use Rattle.gql_change.proofs.deleted_numbers.deleted_nodes.Goals as goal

pub returns : goal.returns
returns g c =
    nodes_are_going (g.V.View.graph c.args.view.now) c.node_count-count.ensures.graph c.args.named.now c.each_once.result.items c.each_once.ensures.rising
    (λ n. c.each_once.ensures.same n ∙ ap (λ l. has_number l n) c.in_ok-nodes.ensures)
