use Rattle.std.proofs.Common.{subst, arith}
use Rattle.std.specs.List.{AllByRecursion}
use Rattle.gql_fields.specs.Spelling.{property_spelled}
use Rattle.gql_fields.specs.Kept.{IsKeptProperty}
use Rattle.gql_fields.specs.Machinery.Reading.{pair_of}
use Rattle.gql_fields.proofs.PutLemmas.{on_ok, counted_written, all_map}
use Rattle.gql_fields.proofs.property_writing.put_properties.Goals as goal

pub returns-clause-written : goal.returns-clause-written
returns-clause-written c =
    on_ok c.put_pairs.result
    (λ h. counted_written pair_of property_spelled c.args.out.now c.put_u64.new.out c.put_pairs.new.out c.len.result c.as_slice.result.now c.args.properties.now c.as_slice.ensures c.len.ensures c.in_ok-put_u64.ensures.written h)
    c.put_pairs.ensures.written

pub returns-clause-kept : goal.returns-clause-kept
returns-clause-kept c =
    on_ok c.put_pairs.result
    (λ h. record {
      few = omega (arith, c.len.ensures, c.in_ok-put_u64.ensures.kept);
      fit = c.requires;
      kept = subst (AllByRecursion IsKeptProperty) c.as_slice.ensures (all_map pair_of IsKeptProperty c.as_slice.result.now h);
    })
    c.put_pairs.ensures.kept
