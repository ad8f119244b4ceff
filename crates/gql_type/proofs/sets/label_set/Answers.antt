use Rattle.std.proofs.Common.{◌≡◌, ℕ, List, ap, ◌∙◌, rules}
use Rattle.std.specs.List.{dedup}
use Rattle.std.specs.Cmp.{IsStrictWeakOrder}
use Rattle.std.proofs.lemmas.Cmp.{nat_list_cmp_total}
use Rattle.std.proofs.lemmas.Fn.{always_returns_same, dedup_same}
use Rattle.std.proofs.lemmas.List.Sorted.{ranks_by}
use Rattle.gql_values3.specs.Texts.{same_text}
use Rattle.gql_eval.specs.StableSort.{stably_sorted}
use Rattle.gql_eval.proofs.StableSort.{is_sorted}
use Rattle.gql_graph.specs.Catalog.{is_before}
use Rattle.gql_type.proofs.sets.label_set.Goals as goal

by_bytes : IsStrictWeakOrder is_before
by_bytes = ranks_by nat_list_cmp_total (λ (t : List ℕ). t)

pub returns : goal.returns
returns c =
    let facts = c.in_ok-sort_by.ensures in
    let once : c.dedup_by.new.self.items ≡ dedup same_text c.sort_by.new.self.items =
    dedup_same _ same_text _ (λ x y b f x' y' k. search rules) c.sort_by.new.self.items c.dedup_by.new.self.items c.dedup_by.ensures.filtered in
    c.from_vec.ensures ∙ once
    ∙ ap (dedup same_text)
    (is_sorted is_before by_bytes c.in_ok-set.set.items c.sort_by.new.self.items
    (facts.sorted is_before by_bytes (always_returns_same _ _ _ (λ a r g called. (search rules, search rules))))
    (facts.stable is_before by_bytes (always_returns_same _ _ _ (λ a r g called. (search rules, search rules))))
    ∙ ap (stably_sorted is_before) c.in_ok-set.ensures)
