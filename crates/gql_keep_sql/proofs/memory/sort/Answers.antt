use Rattle.std.proofs.Common.{rules}
use Rattle.std.specs.Cmp.{IsStrictWeakOrder}
use Rattle.std.proofs.lemmas.Cmp.{nat_list_cmp_total}
use Rattle.std.proofs.lemmas.Fn.{always_returns_same}
use Rattle.std.proofs.lemmas.List.MinMax.{ranks_by}
use Rattle.gql_ports.specs.declared.stored.Record.{Record}
use Rattle.gql_keep_sql.specs.Written.{is_key_below}
use Rattle.gql_keep_sql.proofs.memory.sort.Goals as goal

order : IsStrictWeakOrder is_key_below
order = ranks_by nat_list_cmp_total (λ (r : Record). r.key)

pub returns-in-Ok-clause-ordered : goal.returns-in-Ok-clause-ordered
returns-in-Ok-clause-ordered c = c.in-Ok.ensures.sorted is_key_below order (always_returns_same _ _ _ (λ a r g called. (search rules, search rules)))

pub returns-in-Err-clause-ordered : goal.returns-in-Err-clause-ordered
returns-in-Err-clause-ordered c = c.sort_unstable_by.ensures.sorted is_key_below order (always_returns_same _ _ _ (λ a r g called. (search rules, search rules)))
