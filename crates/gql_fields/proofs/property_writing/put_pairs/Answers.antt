use Rattle.std.proofs.Common.{◌<◌, ◌∙◌, length, arith}
use Rattle.gql_fields.specs.Spelling.{property_spelled}
use Rattle.gql_fields.specs.Kept.{IsKeptProperty}
use Rattle.gql_fields.specs.Machinery.Reading.{pair_of}
use Rattle.gql_fields.proofs.PutLemmas.{put_more, kept_more}
use Rattle.gql_fields.proofs.property_writing.put_pairs.Goals as goal

pub loop-i-preserved : goal.loop-i-preserved
loop-i-preserved c =
    let within : c.loop-i.i < length c.args.pairs.now = omega arith in
    record {
      written = c.in_ok-put_property.ensures.written
          ∙ put_more (λ p. property_spelled (pair_of p)) c.args.out.now c.loop-i.out c.args.pairs.now c.loop-i.i c.index-pairs-i.result within c.index-pairs-i.is c.loop-i.invariant.written;
      kept = kept_more (λ p. IsKeptProperty (pair_of p)) c.args.pairs.now c.loop-i.i c.index-pairs-i.result within c.index-pairs-i.is c.loop-i.invariant.kept c.in_ok-put_property.ensures.kept;
    }
