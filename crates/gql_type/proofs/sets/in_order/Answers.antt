use Rattle.std.proofs.Common.{ap, ◌∙◌, rules}
use Rattle.std.specs.Cmp.{IsStrictWeakOrder}
use Rattle.std.proofs.lemmas.Cmp.{nat_list_cmp_total}
use Rattle.std.proofs.lemmas.Fn.{always_returns_same}
use Rattle.std.proofs.lemmas.List.Sorted.{ranks_by}
use Rattle.gql_graph.specs.declared.graph_type.PropType.{PropType}
use Rattle.gql_eval.specs.StableSort.{stably_sorted}
use Rattle.gql_eval.proofs.StableSort.{is_sorted}
use Rattle.gql_type.specs.BodyMeaning.{name_before}
use Rattle.gql_type.proofs.sets.in_order.Goals as goal

by_name : IsStrictWeakOrder name_before
by_name = ranks_by nat_list_cmp_total (λ (t : PropType). t.name)

pub returns : goal.returns
returns c =
    let facts = c.in_ok-sort_by.ensures in
    c.from_vec.ensures
    ∙ is_sorted name_before by_name c.in_ok-kinds.kinds.items c.sort_by.new.self.items
    (facts.sorted name_before by_name (always_returns_same _ _ _ (λ a r g called. (search rules, search rules))))
    (facts.stable name_before by_name (always_returns_same _ _ _ (λ a r g called. (search rules, search rules))))
    ∙ ap (stably_sorted name_before) c.in_ok-kinds.ensures
