use Rattle.std.proofs.Common.{◌≡◌, map, drop}
use Rattle.gql_values3.specs.Texts.{ascend_above, texts_ascend}
use Rattle.gql_values3.proofs.keyed.keys_ascend.Given as goal

-- the rest ascends above the key before it exactly where all keys ascend
abbrev pub invariant-loop-item : goal.invariant-loop-item
invariant-loop-item g l = ascend_above l.low (map g.K.Keyed.key_bytes (drop l.item-index l.rest)) ≡ texts_ascend (map g.K.Keyed.key_bytes l.items)
