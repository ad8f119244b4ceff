use Rattle.std.proofs.Common.{◌<◌, ◌+◌, ◌∙◌, length, ap, sym, arith}
use Rattle.std.specs.Option.{option_or}
use Rattle.gql_ast.specs.PatternMeaning.{pattern_of}
use Rattle.gql_ast.proofs.HeightLemmas.{pattern_height_of_le-highest_pattern}
use Rattle.gql_degrees.proofs.BoundLemmas.{told_from, pattern_step}
use Rattle.gql_degrees.proofs.bounds.+bounds.Goals as goal

pub in_patterns-in_pattern-requires : goal.in_patterns-in_pattern-requires
in_patterns-in_pattern-requires t c =
    let below : c.loop-i.i < length c.args.patterns.now = omega arith in
    (omega (arith, pattern_height_of_le-highest_pattern pattern_of c.args.patterns.now c.loop-i.i c.index-patterns-i.result below c.index-patterns-i.is), tt)

pub in_patterns-returns-in-Some : goal.in_patterns-returns-in-Some
in_patterns-returns-in-Some t c =
    let below : c.loop-i.i < length c.args.patterns.now = omega arith in
    let step = pattern_step c.args.patterns.now c.loop-i.i c.index-patterns-i.result below c.index-patterns-i.is in
    ap (λ o. option_or o (told_from c.args.patterns.now (c.loop-i.i + 1))) c.in-Some.ensures ∙ sym step ∙ c.loop-i.invariant

pub in_patterns-loop-i-preserved : goal.in_patterns-loop-i-preserved
in_patterns-loop-i-preserved t c =
    let below : c.loop-i.i < length c.args.patterns.now = omega arith in
    let step = pattern_step c.args.patterns.now c.loop-i.i c.index-patterns-i.result below c.index-patterns-i.is in
    ap (λ o. option_or o (told_from c.args.patterns.now (c.loop-i.i + 1))) c.in_default.ensures ∙ sym step ∙ c.loop-i.invariant
