use Rattle.std.proofs.Common.{arith, rules, ◌≡◌, ◌∙◌, ◌+◌, ◌-◌, ◌<◌, [], ◌∷◌, ◌++◌, cond, true, false, ap, sym, length, append_assoc}
use Rattle.gql_ast.specs.Meaning.{tree_of, link_of}
use Rattle.gql_ast.specs.Tree.{more_trees, more_links}
use Rattle.gql_eval.specs.Machinery.InstructionMeaning.{program_of}
use Rattle.gql_eval.specs.Machinery.Steps.{join_all, join_any, skip_if, or_else, over_group}
use Rattle.gql_eval.specs.Machinery.Compiled.{compiled, compiled_all, compiled_others}
use Rattle.gql_ast.proofs.PartLemmas.{parts_from, parts_step, sides_from, sides_step}
use Rattle.gql_eval.proofs.PartLemmas.{height_le-highest, height_lt-highest_link}
use Rattle.gql_eval.proofs.SideLemmas.{none_lost, counts_them}
use Rattle.gql_eval.proofs.compiling.+compiling.Goals as goal

pub chain-compile-requires : goal.chain-compile-requires
chain-compile-requires t c =
    let below : c.loop-i.i - 1 < length c.args.steps.now = omega arith in
    (omega (arith, height_lt-highest_link c.args.steps.now (c.loop-i.i - 1) c.index-steps-i.result below c.index-steps-i.is), tt)

pub all_sides-compile-requires : goal.all_sides-compile-requires
all_sides-compile-requires t c =
    let below : c.loop-i.i - 1 < length c.args.steps.now = omega arith in
    (omega (arith, height_lt-highest_link c.args.steps.now (c.loop-i.i - 1) c.index-steps-i.result below c.index-steps-i.is), tt)

pub any_sides-put_any_side-requires : goal.any_sides-put_any_side-requires
any_sides-put_any_side-requires t c =
    let below : c.loop-i.i - 1 < length c.args.steps.now = omega arith in
    (omega (arith, height_lt-highest_link c.args.steps.now (c.loop-i.i - 1) c.index-steps-i.result below c.index-steps-i.is), tt)

pub all_sides-overflow_sub-count : goal.all_sides-overflow_sub-count
all_sides-overflow_sub-count t c =
    let side = compiled c.args.columns.now c.args.names.now c.args.params.now (tree_of c.index-steps-i.result.operand) in
    let rest = compiled_all c.args.columns.now c.args.names.now c.args.params.now (sides_from c.args.steps.now c.loop-i.i) in
    let split = c.in_ok-compile.ensures ∙ ap (λ p. side ++ p) (c.in_ok-put.ensures ∙ ap (λ p. join_all ∷ p) c.loop-i.invariant)
    ∙ sym (append_assoc side (join_all ∷ rest) (program_of c.args.program.now.items)) in
    let lost = none_lost (side ++ join_all ∷ rest) c.compile.new.program.items c.args.program.now.items split in
    omega (arith, lost)

pub all_sides-loop-i-preserved : goal.all_sides-loop-i-preserved
all_sides-loop-i-preserved t c =
    let below : c.loop-i.i - 1 < length c.args.steps.now = omega arith in
    let next : c.loop-i.i - 1 + 1 ≡ c.loop-i.i = omega arith in
    let same : c.len.result - c.len-behind.result ≡ length c.compile.new.program.items - length c.args.program.now.items = omega arith in
    let side = compiled c.args.columns.now c.args.names.now c.args.params.now (tree_of c.index-steps-i.result.operand) in
    let rest = compiled_all c.args.columns.now c.args.names.now c.args.params.now (sides_from c.args.steps.now c.loop-i.i) in
    let split = c.in_ok-compile.ensures ∙ ap (λ p. side ++ p) (c.in_ok-put.ensures ∙ ap (λ p. join_all ∷ p) c.loop-i.invariant)
    ∙ sym (append_assoc side (join_all ∷ rest) (program_of c.args.program.now.items)) in
    let step = sides_step c.args.steps.now (c.loop-i.i - 1) c.index-steps-i.result below c.index-steps-i.is in
    c.in_ok-put-2.ensures
    ∙ counts_them (skip_if false) (c.len.result - c.len-behind.result) (side ++ join_all ∷ rest) c.compile.new.program.items c.args.program.now.items split same
    ∙ ap (λ ls. compiled_all c.args.columns.now c.args.names.now c.args.params.now ls ++ program_of c.args.program.now.items)
    (sym (step ∙ ap (λ n. more_links (link_of c.index-steps-i.result) (sides_from c.args.steps.now n)) next))

pub put_any_side-overflow_sub-count : goal.put_any_side-overflow_sub-count
put_any_side-overflow_sub-count t c =
    let side = compiled c.args.columns.now c.args.names.now c.args.params.now (tree_of c.args.side.now) in
    let split = c.in_ok-compile.ensures ∙ ap (λ p. side ++ p) c.in_ok-put.ensures ∙ sym (append_assoc side (join_any c.args.operator ∷ []) (program_of c.args.program.now.items)) in
    let lost = none_lost (side ++ join_any c.args.operator ∷ []) c.compile.new.program.items c.args.program.now.items split in
    omega (arith, lost)

pub put_any_side-returns-then-is_xor : goal.put_any_side-returns-then-is_xor
put_any_side-returns-then-is_xor t c =
    let side = compiled c.args.columns.now c.args.names.now c.args.params.now (tree_of c.args.side.now) ++ join_any c.args.operator ∷ [] in
    let split = c.in_ok-compile.ensures ∙ ap (λ p. compiled c.args.columns.now c.args.names.now c.args.params.now (tree_of c.args.side.now) ++ p) c.in_ok-put.ensures
    ∙ sym (append_assoc (compiled c.args.columns.now c.args.names.now c.args.params.now (tree_of c.args.side.now)) (join_any c.args.operator ∷ []) (program_of c.args.program.now.items)) in
    split ∙ ap (λ b. cond b side (skip_if true (length side) ∷ side) ++ program_of c.args.program.now.items) c.if-is_xor.ensures

pub put_any_side-returns : goal.put_any_side-returns
put_any_side-returns t c =
    let same : c.len.result - c.len-behind.result ≡ length c.compile.new.program.items - length c.args.program.now.items = omega arith in
    let side = compiled c.args.columns.now c.args.names.now c.args.params.now (tree_of c.args.side.now) ++ join_any c.args.operator ∷ [] in
    let split = c.in_ok-compile.ensures ∙ ap (λ p. compiled c.args.columns.now c.args.names.now c.args.params.now (tree_of c.args.side.now) ++ p) c.in_ok-put.ensures
    ∙ sym (append_assoc (compiled c.args.columns.now c.args.names.now c.args.params.now (tree_of c.args.side.now)) (join_any c.args.operator ∷ []) (program_of c.args.program.now.items)) in
    c.in_ok-put-2.ensures ∙ counts_them (skip_if true) (c.len.result - c.len-behind.result) side c.compile.new.program.items c.args.program.now.items split same
    ∙ ap (λ b. cond b side (skip_if true (length side) ∷ side) ++ program_of c.args.program.now.items) c.if-is_xor.ensures

pub items-compile-requires : goal.items-compile-requires
items-compile-requires t c =
    let below : c.loop-i.i - 1 < length c.args.parts.now = omega arith in
    (omega (arith, height_le-highest c.args.parts.now (c.loop-i.i - 1) c.index-parts-i.result below c.index-parts-i.is), tt)

pub others-compile-requires : goal.others-compile-requires
others-compile-requires t c =
    let below : c.loop-i.i - 1 < length c.args.parts.now = omega arith in
    (omega (arith, height_le-highest c.args.parts.now (c.loop-i.i - 1) c.index-parts-i.result below c.index-parts-i.is), tt)

pub others-overflow_sub-count : goal.others-overflow_sub-count
others-overflow_sub-count t c =
    let side = compiled c.args.columns.now c.args.names.now c.args.params.now (tree_of c.index-parts-i.result) in
    let rest = compiled_others c.args.columns.now c.args.names.now c.args.params.now (parts_from c.args.parts.now c.loop-i.i) in
    let split = c.in_ok-compile.ensures ∙ ap (λ p. side ++ p) c.loop-i.invariant ∙ sym (append_assoc side rest (program_of c.args.program.now.items)) in
    let lost = none_lost (side ++ rest) c.compile.new.program.items c.args.program.now.items split in
    omega (arith, lost)

pub others-loop-i-preserved : goal.others-loop-i-preserved
others-loop-i-preserved t c =
    let below : c.loop-i.i - 1 < length c.args.parts.now = omega arith in
    let next : c.loop-i.i - 1 + 1 ≡ c.loop-i.i = omega arith in
    let same : c.len.result - c.len-behind.result ≡ length c.compile.new.program.items - length c.args.program.now.items = omega arith in
    let side = compiled c.args.columns.now c.args.names.now c.args.params.now (tree_of c.index-parts-i.result) in
    let rest = compiled_others c.args.columns.now c.args.names.now c.args.params.now (parts_from c.args.parts.now c.loop-i.i) in
    let split = c.in_ok-compile.ensures ∙ ap (λ p. side ++ p) c.loop-i.invariant ∙ sym (append_assoc side rest (program_of c.args.program.now.items)) in
    let step = parts_step c.args.parts.now (c.loop-i.i - 1) c.index-parts-i.result below c.index-parts-i.is in
    c.in_ok-put.ensures
    ∙ counts_them or_else (c.len.result - c.len-behind.result) (side ++ rest) c.compile.new.program.items c.args.program.now.items split same
    ∙ ap (λ es. compiled_others c.args.columns.now c.args.names.now c.args.params.now es ++ program_of c.args.program.now.items)
    (sym (step ∙ ap (λ n. more_trees (tree_of c.index-parts-i.result) (parts_from c.args.parts.now n)) next))

pub over_group-overflow_sub-count : goal.over_group-overflow_sub-count
over_group-overflow_sub-count t c =
    let side = compiled c.args.columns.now c.args.names.now c.args.params.now (tree_of c.args.part.now) in
    let lost = none_lost side c.compile.new.program.items c.args.program.now.items c.in_ok-compile.ensures in
    omega (arith, lost)

pub over_group-returns : goal.over_group-returns
over_group-returns t c =
    let same : c.len.result - c.len-behind.result ≡ length c.compile.new.program.items - length c.args.program.now.items = omega arith in
    let side = compiled c.args.columns.now c.args.names.now c.args.params.now (tree_of c.args.part.now) in
    let counted = counts_them (over_group c.args.word c.args.quantifier (tree_of c.args.part.now)) (c.len.result - c.len-behind.result) side c.compile.new.program.items c.args.program.now.items c.in_ok-compile.ensures same in
    search (rules, counted)
