use Rattle.std.proofs.Common.{◌++◌, ◌∙◌, ap, List, ℕ, sym}
use Rattle.std.specs.List.{flat_map}
use Rattle.gql_change.specs.Machinery.DeletionSteps.{has_number, edge_there, touching_numbers, deleted_edges}
use Rattle.gql_change.proofs.DeletedNumbers.{edges_are_going, all_are_going}
use Rattle.gql_change.proofs.deleted_numbers.deleted_edges.Goals as goal
use Rattle.gql_change.proofs.deleted_numbers.deleted_edges.Goals.{in-NoDetach+in_ok-edges-in-NoDetach, in-Detach+in_ok-edges-in-Detach}

pub returns-clause-edges : goal.returns-clause-edges
returns-clause-edges g c =
    let graph = g.V.View.graph c.args.view.now in
    let named = c.args.named.now in
    let once = c.each_once.ensures in
    elim c.match-detachment.branch [
      | in-NoDetach+in_ok-edges-in-NoDetach w ↦
          edges_are_going graph c.node_count-count.ensures.graph named c.each_once.result.items once.rising
          (λ n. once.same n ∙ ap (λ l. has_number l n) (ap (λ v. v.items) w.edges-is ∙ w.in_ok-edges-in-NoDetach.ensures)) ∙ ap (λ d. deleted_edges d named graph) (sym w.in-NoDetach.is)
      | in-Detach+in_ok-edges-in-Detach w ↦
          all_are_going graph c.node_count-count.ensures.graph named c.each_once.result.items once.rising
          (λ n. once.same n ∙ ap (λ l. has_number l n) (ap (λ v. v.items) w.edges-is ∙ w.in_ok-edges-in-Detach.ensures
          ∙ ap (λ (l : List ℕ). flat_map (edge_there graph) named ++ flat_map (touching_numbers graph) l) c.requires)) ∙ ap (λ d. deleted_edges d named graph) (sym w.in-Detach.is)
    ]
