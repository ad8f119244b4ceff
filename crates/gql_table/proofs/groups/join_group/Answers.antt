use Rattle.std.proofs.Common.{◌≡◌, ◌∙◌, ◌<◌, List, map, length, set, get_or, sym, ap, subst, arith}
use Rattle.std.proofs.lemmas.List.{map-set, get_or-map}
use Rattle.gql_values3.specs.Datum.{Datum}
use Rattle.gql_values3.specs.Meaning.{datum_of}
use Rattle.gql_table.specs.Machinery.Running.{Standing, Stood, all_at_start, row_past, stood_keys, with_stood}
use Rattle.gql_table.specs.Machinery.GroupMeaning.{group_meant}
use Rattle.gql_table.specs.Machinery.StandingMeaning.{standing_of}
use Rattle.gql_table.specs.Machinery.RowKeys.{HasKeys}
use Rattle.gql_table.specs.declared.new_group.Group.{Group}
use Rattle.gql_table.proofs.ReturnLemmas.{map_long}
use Rattle.gql_table.proofs.StoodLemmas.{below_opened, joined_set, keys_stay}
use Rattle.gql_table.proofs.groups.join_group.Goals as goal

pub index_mut-requires : goal.index_mut-requires
index_mut-requires c =
    let gs : List Stood = map group_meant c.args.groups.now.items in
    let fresh : List Standing = all_at_start c.args.items.now in
    let items = c.group_number.new.groups.items in
    let long : length items ≡ length (with_stood fresh gs c.args.key) = sym (map_long group_meant items) ∙ ap length c.in_ok-number.ensures.groups in
    omega (arith, c.group_number.new.groups.ok.0, long, below_opened fresh gs c.args.key, c.in_ok-number.ensures.number)

pub returns : goal.returns
returns c =
    let gs : List Stood = map group_meant c.args.groups.now.items in
    let fresh : List Standing = all_at_start c.args.items.now in
    let key : List Datum = c.args.key in
    let row : List Datum = map datum_of c.args.arguments.now in
    let n = c.in_ok-number.number in
    let items = c.group_number.new.groups.items in
    let now : List Stood = map group_meant items in
    let old : Group = c.index_mut.result.now in
    let new : Group = record { key = old.key; states = c.go_on_by_row.new.states } in
    let long : length items ≡ length (with_stood fresh gs key) = sym (map_long group_meant items) ∙ ap length c.in_ok-number.ensures.groups in
    let below : n < length items = omega (arith, long, below_opened fresh gs key, c.in_ok-number.ensures.number) in
    let within : n < length now = omega (arith, below, map_long group_meant items) in
    let there : get_or now n (group_meant old) ≡ group_meant old = get_or-map group_meant items n old (group_meant old) below ∙ ap group_meant (sym c.index_mut.ensures.value) in
    let opened : get_or (with_stood fresh gs key) n (group_meant old) ≡ group_meant old = ap (λ (l : List Stood). get_or l n (group_meant old)) (sym c.in_ok-number.ensures.groups) ∙ there in
    let more : map standing_of new.states.items ≡ row_past (group_meant old).1 row = c.in_ok-go_on_by_row.ensures in
    let keys : stood_keys (map group_meant (set items n new)) ≡ stood_keys now =
    ap stood_keys (map-set group_meant items n new ∙ ap (λ (s : Stood). set now n (s.0, map standing_of new.states.items)) (sym there)) ∙ keys_stay now n (group_meant old) (map standing_of new.states.items) within in
    record {
      groups = map-set group_meant items n new
          ∙ (λ i. set (c.in_ok-number.ensures.groups i) n ((group_meant old).0, more i))
          ∙ ap (λ (s : Stood). set (with_stood fresh gs key) n (s.0, row_past s.1 row)) (sym opened)
          ∙ sym (joined_set fresh gs key row n (group_meant old) c.in_ok-number.ensures.number);
      seen = subst (HasKeys c.group_number.new.seen) (sym keys) c.in_ok-number.ensures.seen;
    }
