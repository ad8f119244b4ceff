use Rattle.std.proofs.Common.{◌≡◌, ◌++◌, ◌∙◌, ◌<◌, fold, length, sym, ap, take_all, rules, arith}
use Rattle.std.proofs.hash.Loops.{each_more}
use Rattle.std.proofs.lemmas.List.Folds.{flat_map-map}
use Rattle.std.specs.Hash as fed
use Rattle.std.specs.Hash.{fed_then}
use Rattle.gql_values3.specs.Datum.{PathData}
use Rattle.gql_values3.specs.Meaning.{datum_of}
use Rattle.gql_values3.proofs.ItemLemmas.{depth_le-depth_all}
use Rattle.gql_table.specs.Machinery.RowKeys.{hashed, hashed_step}
use Rattle.gql_table.proofs.KeyHashes.{hashed_data, hashed_pairs}
use Rattle.gql_table.proofs.row_key.+hashing.Goals as goal

pub hash_values-hash_value-requires : goal.hash_values-hash_value-requires
hash_values-hash_value-requires g t c κs within =
    let values = c.args.values.now in
    let below : c.loop-value.value-index < length values = omega arith in
    (omega (arith, depth_le-depth_all datum_of values c.loop-value.value-index c.value-item.result below c.value-item.is), search rules)

pub hash_values-loop-value-preserved : goal.hash_values-loop-value-preserved
hash_values-loop-value-preserved g t c = search (rules, each_more g.H.Hasher.write (λ v. hashed (datum_of v)))

pub hash_values-returns : goal.hash_values-returns
hash_values-returns g t c = search (rules, take_all, flat_map-map)

pub hash_value-returns-in-List : goal.hash_value-returns-in-List
hash_value-returns-in-List g t c = rw (c.in-List.is, hashed_data c.in-List.list) (rw c.as_slice.ensures at c.hash_values.ensures)

pub hash_value-returns-in-Path : goal.hash_value-returns-in-Path
hash_value-returns-in-Path g t c =
    let write = g.H.Hasher.write in
    let way : PathData = c.in-Path.path in
    let steps : fed.slice hashed_step way.steps ≡ fed.slice (λ s. fed.u32 s.0.0 ++ fed.u32 s.1.0) c.steps.result.now = ap (fed.slice hashed_step) (sym c.steps.ensures) ∙ sym (hashed_pairs c.steps.result.now) in
    let first : c.write_u32-in-Path.new.self ≡ fold write c.args.state.now (fed.u32 way.start) = rw c.start.ensures at c.write_u32-in-Path.ensures in
    rw c.in-Path.is (fed_then write c.args.state.now c.write_u32-in-Path.new.self _ (fed.u32 way.start) (fed.slice hashed_step way.steps) first (c.hash-in-Path.ensures ∙ ap (fold write c.write_u32-in-Path.new.self) (sym steps)))
