-- The sort puts the changes into another order, in which they change the same keys, and which strictly ascends where these differ.
use Rattle.std.proofs.Common.{◌++◌, ◌∙◌, List, map, ap, subst, IsPermutation, is_some, rules}
use Rattle.std.proofs.lemmas.Cmp.{nat_list_cmp_total}
use Rattle.std.proofs.lemmas.Fn.{always_returns_same}
use Rattle.std.proofs.lemmas.List.MinMax.{ranks_by}
use Rattle.gql_values3.specs.Texts.{texts_differ}
use Rattle.gql_keep_sql.specs.declared.changes.Change.{Change}
use Rattle.gql_keep_sql.specs.Machinery.Merge.{put_of, drop_of, changes_ascend}
use Rattle.gql_keep_sql.proofs.ChangeLemmas.{put_by, changed_by, let_through, changes_keys, is_let_through}
use Rattle.gql_keep_sql.proofs.DifferLemmas.{ascend_where_differ}
use Rattle.gql_keep_sql.proofs.MergeLemmas.{key_of}
use Rattle.gql_keep_sql.proofs.changes.Changes.of.Goals as goal

pub returns-clause-differ : goal.returns-clause-differ
returns-clause-differ c =
    let sorted = c.sort_by.new.self.items in
    let puts = map put_of c.args.puts.now in
    let drops = map drop_of c.args.drops.now in
    let made = c.in_ok-push_drops.ensures ∙ ap (λ (xs : List Change). xs ++ drops) (c.in_ok-push_puts.ensures ∙ ap (λ (xs : List Change). xs ++ puts) c.in_ok-items.ensures.items) in
    let same = subst (λ xs. IsPermutation xs sorted) made c.sort_by.ensures.permutation in
    let ascends = c.in_ok-sort_by.ensures.sorted _ (ranks_by nat_list_cmp_total key_of) (always_returns_same _ _ _ (λ a r g called. (search rules, search rules))) in
    ap is_some c.ascending.ensures ∙ is_let_through (changes_ascend sorted) sorted
    ∙ ascend_where_differ key_of (puts ++ drops) sorted same ascends
    ∙ ap texts_differ (changes_keys c.args.puts.now c.args.drops.now)

pub returns-clause-put : goal.returns-clause-put
returns-clause-put c =
    let sorted = c.sort_by.new.self.items in
    let puts = map put_of c.args.puts.now in
    let drops = map drop_of c.args.drops.now in
    let made = c.in_ok-push_drops.ensures ∙ ap (λ (xs : List Change). xs ++ drops) (c.in_ok-push_puts.ensures ∙ ap (λ (xs : List Change). xs ++ puts) c.in_ok-items.ensures.items) in
    let same = subst (λ xs. IsPermutation xs sorted) made c.sort_by.ensures.permutation in
    let_through _ (changes_ascend sorted) sorted c.ascending.result c.ascending.ensures (put_by c.args.puts.now c.args.drops.now sorted same)

pub returns-clause-changed : goal.returns-clause-changed
returns-clause-changed c =
    let sorted = c.sort_by.new.self.items in
    let puts = map put_of c.args.puts.now in
    let drops = map drop_of c.args.drops.now in
    let made = c.in_ok-push_drops.ensures ∙ ap (λ (xs : List Change). xs ++ drops) (c.in_ok-push_puts.ensures ∙ ap (λ (xs : List Change). xs ++ puts) c.in_ok-items.ensures.items) in
    let same = subst (λ xs. IsPermutation xs sorted) made c.sort_by.ensures.permutation in
    let_through _ (changes_ascend sorted) sorted c.ascending.result c.ascending.ensures (changed_by c.args.puts.now c.args.drops.now sorted same)
