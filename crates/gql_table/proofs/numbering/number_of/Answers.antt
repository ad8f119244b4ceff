use Rattle.std.proofs.Common.{◌≡◌, ◌∷◌, ◌++◌, ◌∙◌, [], List, map, sym, ap, length, arith, Some, None, cond}
use Rattle.std.proofs.lemmas.List.{map_push}
use Rattle.std.specs.Borrow.{Bor}
use Rattle.gql_values3.specs.Datum.{Datum}
use Rattle.gql_table.specs.Machinery.Places.{found_place}
use Rattle.gql_table.specs.Machinery.Ranked.{ranked_row}
use Rattle.gql_table.specs.declared.ranked.Ranked.{Ranked}
use Rattle.gql_table.proofs.ReturnLemmas.{map_long}
use Rattle.gql_table.proofs.RowOrder.{same_row_is}
use Rattle.gql_table.proofs.PlaceLemmas.{found_some, found_none, found_more, added_there, added_fresh, place_new}
use Rattle.gql_table.proofs.numbering.number_of.Goals as goal

pub returns-in-Some : goal.returns-in-Some
returns-in-Some c =
    let ks = map (λ (r : Bor (List Datum)). r.now) c.args.firsts.now.items in
    let key : Ranked = record { row = c.args.row } in
    let found : found_place ks c.args.row.now ≡ Some c.in-Some.number.now = sym (c.requires key) ∙ sym c.in-Some.ensures.value in
    let there = found_some ks c.args.row.now c.in-Some.number.now found in
    record {
      number = there.1;
      firsts = sym (added_there ks c.args.row.now there.0);
      seen = c.requires;
    }

pub returns-in_ok-push-in-None : goal.returns-in_ok-push-in-None
returns-in_ok-push-in-None c =
    let now : Bor (List Datum) → List Datum = λ r. r.now in
    let items = c.args.firsts.now.items in
    let ks = map now items in
    let row : List Datum = c.args.row.now in
    let key : Ranked = record { row = c.args.row } in
    let missing : found_place ks row ≡ None = sym (c.requires key) ∙ sym c.in-None.ensures.value in
    let fresh = found_none ks row missing in
    let grown : map now c.push.new.self.items ≡ ks ++ row ∷ [] = ap (map now) c.in_ok-push-in-None.ensures.items ∙ map_push now items c.args.row in
    let count : c.len-number.result ≡ length ks = omega (arith, c.len-number.ensures, c.args.firsts.now.ok.0, map_long now items) in
    record {
      number = count ∙ sym (place_new ks row fresh);
      firsts = grown ∙ sym (added_fresh ks row fresh);
      seen = λ q.
          c.in_ok-insert-in-None.ensures.updates.0 q
          ∙ (λ i. cond (same_row_is row (ranked_row q) i) (Some (count i)) (c.requires q i))
          ∙ sym (found_more ks row (ranked_row q) fresh) ∙ ap (λ l. found_place l (ranked_row q)) (sym grown);
    }
