use Rattle.std.proofs.Common.{◌≡◌, ◌∙◌, ◌+◌, ◌<◌, ◌≤◌, length, drop, ap, sym, arith, Option, None, Some}
use Rattle.std.proofs.lemmas.List.{length-map}
use Rattle.gql_ast.specs.declared.refusal.Refusal.{Refusal}
use Rattle.std.specs.Option.{option_or}
use Rattle.gql_change.specs.Conflicts.{neighbours_conflict, conflict_of}
use Rattle.gql_change.proofs.ConflictLemmas.{seen, seen_step, neighbours_end}
use Rattle.gql_change.proofs.conflict.neighbours_conflict.Goals as goal

pub returns-in-Some : goal.returns-in-Some
returns-in-Some c =
    let xs = c.args.sorted.now in
    let i = c.loop-i.i in
    let a = c.index-sorted-i.result in
    let b = c.index-sorted-i-in-loop-i.result in
    let next : i + 1 < length xs = omega arith in
    let step = seen_step xs i a b next c.index-sorted-i.is c.index-sorted-i-in-loop-i.is in
    let told : Some c.in-Some.refusal ≡ conflict_of a.now b.now = sym c.in-Some.is ∙ c.in_ok-refusal.ensures in
    ap (λ (o : Option Refusal). option_or o (neighbours_conflict (drop (i + 1) (seen xs)))) told ∙ sym step ∙ c.loop-i.invariant

pub loop-i-preserved : goal.loop-i-preserved
loop-i-preserved c =
    let xs = c.args.sorted.now in
    let i = c.loop-i.i in
    let a = c.index-sorted-i.result in
    let b = c.index-sorted-i-in-loop-i.result in
    let next : i + 1 < length xs = omega arith in
    let step = seen_step xs i a b next c.index-sorted-i.is c.index-sorted-i-in-loop-i.is in
    let told : None ≡ conflict_of a.now b.now = sym c.in-None.is ∙ c.in_ok-refusal.ensures in
    ap (λ (o : Option Refusal). option_or o (neighbours_conflict (drop (i + 1) (seen xs)))) told ∙ sym step ∙ c.loop-i.invariant

pub returns : goal.returns
returns c =
    let xs = c.args.sorted.now in
    let long : length (seen xs) ≤ c.loop-i.i + 1 = omega (arith, length-map xs (λ r. r.now)) in
    sym (neighbours_end (seen xs) c.loop-i.i long) ∙ c.loop-i.invariant
