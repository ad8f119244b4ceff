use Rattle.std.proofs.Common.{◌≡◌, ◌∷◌, ◌++◌, [], rules, ap, sym, subst, ◌∙◌}
use Rattle.gql_runs.specs.Kept.{Keep, keep, same_keep}
use Rattle.gql_memo.specs.Table.{Table}
use Rattle.gql_memo.specs.Machinery.TableKeys.{key_data, keys_data}
use Rattle.gql_memo.specs.Machinery.TableParts.{IsMissing, entry_keep}
use Rattle.gql_memo.proofs.KeyLemmas.{keys_push}
use Rattle.gql_memo.proofs.entries.push_key.Goals as goal

pub returns-clause-ok : goal.returns-clause-ok
returns-clause-ok c =
    let k = entry_keep c.args.entry.now in
    let here : key_data c.in_ok-key.key ≡ k = c.in_ok-key.ensures ∙ (λ i. keep (c.as_str.ensures i) (c.as_slice.ensures i)) in
    let seen : keys_data c.reserve.new.self.keys ≡ keys_data c.args.keys.now.keys = ap keys_data c.reserve.ensures.keys in
    let missing : IsMissing k (keys_data c.reserve.new.self.keys) = subst (λ (t : Table). IsMissing k t) (sym seen) c.requires in
    keys_push k (λ x. same_keep (key_data c.in_ok-key.key) (key_data x)) c.reserve.new.self.keys c.insert.new.self.keys c.in_ok-key.key
    (λ x. ap (λ (z : Keep). same_keep z (key_data x)) here) here missing (search rules) ∙ ap (λ (t : Table). t ++ k ∷ []) seen
