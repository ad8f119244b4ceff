use Rattle.std.proofs.Common.{◌≡◌, ◌++◌, ◌∙◌, ◌<◌, ◌≤◌, ◌+◌, List, map, length, take, drop, get_or, sym, ap, arith}
use Rattle.std.proofs.lemmas.List.{map-set, get_or-map, length-set}
use Rattle.gql_values3.specs.Datum.{Datum}
use Rattle.gql_values3.specs.Meaning.{datum_of}
use Rattle.gql_table.specs.Sorting.{first_key}
use Rattle.gql_table.specs.Machinery.Running.{Standing, past, row_past}
use Rattle.gql_table.specs.Machinery.StandingMeaning.{standing_of}
use Rattle.gql_table.proofs.ReturnLemmas.{map_long}
use Rattle.gql_table.proofs.StoodLemmas.{row_step, row_end}
use Rattle.gql_table.proofs.running.go_on_by_row.Goals as goal

pub loop-i-preserved : goal.loop-i-preserved
loop-i-preserved c =
    let at = c.loop-i in
    let items = at.states.items in
    let states : List Standing = map standing_of items in
    let row : List Datum = map datum_of c.args.row.now in
    let old = c.index_mut.result.now in
    let new = c.go_on.new.running in
    let below : at.i < length items = omega (arith, at.invariant.long, c.args.states.now.ok.0) in
    let within : at.i < length states = omega (arith, below, map_long standing_of items) in
    let here : get_or states at.i (standing_of old) ≡ standing_of old = get_or-map standing_of items at.i old (standing_of old) below ∙ ap standing_of (sym c.index_mut.ensures.value) in
    let gone : standing_of new ≡ past (standing_of old) (first_key (drop at.i row)) = c.in_ok-go_on.ensures ∙ ap (past (standing_of old)) c.value_at.ensures in
    record {
      whole = (λ i. take (at.i + 1) (map-set standing_of items at.i new i) ++ row_past (drop (at.i + 1) (map-set standing_of items at.i new i)) (drop (at.i + 1) row))
          ∙ row_step states at.i (standing_of old) (standing_of new) row within here gone ∙ at.invariant.whole;
      long = length-set items at.i new ∙ at.invariant.long;
      none = at.invariant.none;
    }

pub returns : goal.returns
returns c =
    let at = c.loop-i in
    let items = at.states.items in
    let past_all : length (map standing_of items) ≤ at.i = omega (arith, at.invariant.long, c.args.states.now.ok.0, map_long standing_of items) in
    sym (row_end (map standing_of items) at.i (map datum_of c.args.row.now) past_all) ∙ at.invariant.whole
