use Rattle.std.proofs.Common.{◌<◌, ◌∙◌, length, ap, subst, arith}
use Rattle.std.specs.Prelude.{ℕ, List, ◌++◌}
use Rattle.std.specs.List.{AllByRecursion}
use Rattle.gql_values3.specs.Meaning.{datum_of}
use Rattle.gql_values3.proofs.ItemLemmas.{depth_le-depth_all}
use Rattle.gql_fields.specs.Spelling.{value_spelled}
use Rattle.gql_fields.specs.Kept.{IsKeptValue}
use Rattle.gql_fields.proofs.ValueLemmas.{list_content, list_kept}
use Rattle.gql_fields.proofs.PutLemmas.{on_ok, counted_written, all_map}
use Rattle.gql_fields.proofs.value_writing.+put.Goals as goal

pub put_items-put_value-requires : goal.put_items-put_value-requires
put_items-put_value-requires t c =
    let within : c.loop-i.i < length c.args.items.now = omega arith in
    (omega (arith, depth_le-depth_all datum_of c.args.items.now c.loop-i.i c.index-items-i.result within c.index-items-i.is), tt)

pub put_list-returns-clause-written : goal.put_list-returns-clause-written
put_list-returns-clause-written t c =
    on_ok c.put_items.result
    (λ h. counted_written datum_of value_spelled c.args.out.now c.put_u64.new.out c.put_items.new.out c.len.result c.as_slice.result.now c.args.items.now c.as_slice.ensures c.len.ensures c.in_ok-put_u64.ensures.written h
    ∙ ap (λ (bytes : List ℕ). c.args.out.now ++ bytes) (list_content c.args.items.now))
    c.put_items.ensures.written

pub put_list-returns-clause-kept : goal.put_list-returns-clause-kept
put_list-returns-clause-kept t c =
    on_ok c.put_items.result
    (λ h. list_kept c.args.items.now (omega (arith, c.len.ensures, c.in_ok-put_u64.ensures.kept)) (subst (AllByRecursion IsKeptValue) c.as_slice.ensures (all_map datum_of IsKeptValue c.as_slice.result.now h)))
    c.put_items.ensures.kept
