use Rattle.std.proofs.Common.{◌≡◌, ℕ, not, List, [], ◌∷◌, OnOk, subst}
use Rattle.std.specs.Int.{w64, to_be_bytes}
use Rattle.gql_fields.specs.Spelling.{flag_spelled}
use Rattle.gql_typecode.proofs.WritingLemmas.{three_parts}
use Rattle.gql_typecode.proofs.edge_type.put_ends.Goals as goal

pub returns-clause-written : goal.returns-clause-written
returns-clause-written c =
    let one = c.args.one.now in
    let whole = three_parts c.args.out.now c.put_flag.new.out c.put_u64.new.out (flag_spelled (not one.directed) ∷ []) (to_be_bytes w64 one.first) (to_be_bytes w64 one.second) c.in_ok-put_flag.ensures c.in_ok-put_u64.ensures.written in
    subst (λ (after : List ℕ). OnOk c.put_u64-2.result (c.put_u64-2.new.out ≡ after)) whole c.put_u64-2.ensures.written
