use Rattle.std.proofs.Common.{◌≡◌, ◌∷◌, ◌++◌, ◌∙◌, [], List, map, sym, ap, length, arith, Some, None, cond}
use Rattle.std.proofs.lemmas.List.{map_push}
use Rattle.gql_values3.specs.Datum.{Datum}
use Rattle.gql_eval.specs.RowLists.{RowList}
use Rattle.gql_table.specs.Machinery.Places.{found_place}
use Rattle.gql_table.specs.Machinery.Running.{Standing, Stood, all_at_start, stood_keys}
use Rattle.gql_table.specs.Machinery.GroupMeaning.{group_meant}
use Rattle.gql_table.specs.Machinery.RowKeys.{key_row}
use Rattle.gql_table.specs.declared.row_key.RowKey.{RowKey}
use Rattle.gql_table.proofs.ReturnLemmas.{map_long}
use Rattle.gql_table.proofs.RowOrder.{same_row_is}
use Rattle.gql_table.proofs.PlaceLemmas.{found_some, found_none, found_more, place_new}
use Rattle.gql_table.proofs.StoodLemmas.{with_there, with_new, last_key}
use Rattle.gql_table.proofs.groups.group_number.Goals as goal

pub returns-in-Some : goal.returns-in-Some
returns-in-Some c =
    let gs : List Stood = map group_meant c.args.groups.now.items in
    let fresh : List Standing = all_at_start c.args.items.now in
    let key : RowKey = record { row = c.args.key } in
    let found : found_place (stood_keys gs) c.args.key ≡ Some c.in-Some.number.now = sym (c.requires key) ∙ sym c.in-Some.ensures.value in
    let there = found_some (stood_keys gs) c.args.key c.in-Some.number.now found in
    record {
      number = there.1;
      groups = sym (with_there fresh gs c.args.key there.0);
      seen = c.requires;
    }

pub returns-in_ok-insert-in-None : goal.returns-in_ok-insert-in-None
returns-in_ok-insert-in-None c =
    let items = c.args.groups.now.items in
    let gs : List Stood = map group_meant items in
    let ks : RowList = stood_keys gs in
    let fresh : List Standing = all_at_start c.args.items.now in
    let k : List Datum = c.args.key in
    let key : RowKey = record { row = k } in
    let missing : found_place ks k ≡ None = sym (c.requires key) ∙ sym c.in-None.ensures.value in
    let new = found_none ks k missing in
    let grown : map group_meant c.push.new.self.items ≡ gs ++ (k, fresh) ∷ [] =
    ap (map group_meant) c.in_ok-push-in-None.ensures.items ∙ map_push group_meant items c.in_ok-new_group-in-None.field-0 ∙ ap (λ s. gs ++ s ∷ []) c.in_ok-new_group-in-None.ensures in
    let keys : stood_keys (map group_meant c.push.new.self.items) ≡ ks ++ k ∷ [] = ap stood_keys grown ∙ last_key gs (k, fresh) in
    let count : c.len-number.result ≡ length ks = omega (arith, c.len-number.ensures, c.args.groups.now.ok.0, map_long group_meant items, map_long (λ (s : Stood). s.0) gs) in
    record {
      number = count ∙ sym (place_new ks k new);
      groups = grown ∙ sym (with_new fresh gs k new);
      seen = λ q.
          c.in_ok-insert-in-None.ensures.updates.0 q
          ∙ (λ i. cond (same_row_is k (key_row q) i) (Some (count i)) (c.requires q i))
          ∙ sym (found_more ks k (key_row q) new) ∙ ap (λ l. found_place l (key_row q)) (sym keys);
    }
