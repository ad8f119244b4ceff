-- What the query for the objects was answered by says which of the three it is.
use Rattle.std.proofs.Common.{◌≡◌, [], ◌∷◌, ◌∙◌, true, false, inl, inr, sym, subst, arith, rules}
use Rattle.sqlite.specs.Order.{column}
use Rattle.gql_keep_sql.specs.Established.{table, is_text, are_ours}
use Rattle.gql_keep_sql.proofs.ObjectLemmas.{no_item, one_item, not_ours}
use Rattle.gql_keep_sql.proofs.RefusalLemmas.{ok_then, errs_where}
use Rattle.gql_keep_sql.proofs.store.establish.Goals as goal
use Rattle.gql_keep_sql.proofs.store.establish.Goals.{in_default-2, in_default}

pub returns-in-empty-clause-made : goal.returns-in-empty-clause-made
returns-in-empty-clause-made g c clean =
    let none = sym c.as_slice.ensures.value ∙ no_item c.as_slice.result.now (omega (arith, c.in-empty.len_below)) in
    let shown = rw none at c.in_ok-objects.ensures.ok (c.make.ensures.clean clean) in
    ok_then c.make.result (c.make.ensures.made clean) (λ ran. inr (c.query_all.new.self, shown, ran.0, ran.1))

pub returns-in-empty-clause-refused : goal.returns-in-empty-clause-refused
returns-in-empty-clause-refused g c =
    let none = sym c.as_slice.ensures.value ∙ no_item c.as_slice.result.now (omega (arith, c.in-empty.len_below)) in
    errs_where c.make.result _ _ c.make.ensures.refused
    (λ e ran clean. inr (inl (c.query_all.new.self, rw none at c.in_ok-objects.ensures.ok (c.make.ensures.clean clean), ran clean)))

pub returns-in-len1-clause-made : goal.returns-in-len1-clause-made
returns-in-len1-clause-made g c clean =
    let one = sym c.as_slice.ensures.value ∙ one_item c.as_slice.result.now c.only-item.result (omega (arith, c.in-len1.len_at_least)) (omega (arith, c.in-len1.len_below)) c.only-item.is in
    let ours : is_text table (column c.only-item.result 0) ≡ true = search rules in
    inl (c.only-item.result, rw one at c.in_ok-objects.ensures.ok clean, ours)

pub returns-in-empty-clause-clean : goal.returns-in-empty-clause-clean
returns-in-empty-clause-clean g c clean = let mid = c.make.ensures.clean clean in omega (arith, mid, c.query_all.ensures.survives.clean)

pub returns-clause-refused : goal.returns-clause-refused
returns-clause-refused g c =
    elim c.if-this-lt2.branch [
      | in_default-2 w ↦
          let one = sym c.as_slice.ensures.value ∙ one_item c.as_slice.result.now w.only-item.result (omega (arith, w.in-len1.len_at_least)) (omega (arith, w.in-len1.len_below)) w.only-item.is in
          let other : is_text table (column w.only-item.result 0) ≡ false = search rules in
          rw w.result-is (λ _ clean. inr (inr (w.only-item.result ∷ [], rw one at c.in_ok-objects.ensures.ok clean, other)))
      | in_default w ↦
          let other = subst (λ rows. are_ours rows ≡ false) c.as_slice.ensures.value (not_ours c.as_slice.result.now w.in_default.len_at_least) in
          rw w.result-is (λ _ clean. inr (inr (c.in_ok-objects.objects.items, c.in_ok-objects.ensures.ok clean, other)))
    ]
