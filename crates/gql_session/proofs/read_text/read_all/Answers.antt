use Rattle.std.proofs.Common.{length, arith, ap, refl, ◌∙◌, ◌+◌, ◌-◌, ◌^◌, min, inr, length-append, length-take, ℕ}
use Rattle.gql_session.proofs.ReadingLemmas.{read_none, read_more, read_end, all_taken, part_taken}
use Rattle.gql_session.proofs.read_text.read_all.Goals as goal

pub loop-turn-init : goal.loop-turn-init
loop-turn-init g c = rw c.new-bytes.ensures (record { same = refl; later = omega arith; read = λ d h. read_none _ d h; small = omega arith; turns = omega arith })

pub returns-then-count-eq0-clause-all : goal.returns-then-count-eq0-clause-all
returns-then-count-eq0-clause-all g c = λ d h r.
    read_end _ _ d c.loop-turn.bytes _ c.in-Ok.count (c.loop-turn.invariant.read d h) c.in-Ok.ensures.content r c.if-count-eq0.true

pub returns-then-len-count-clause-too_long : goal.returns-then-len-count-clause-too_long
returns-then-len-count-clause-too_long g c = λ d h r e.
    let more = read_more _ _ d c.loop-turn.bytes _ c.in-Ok.count (c.loop-turn.invariant.read d h) c.in-Ok.ensures.content in
    omega (arith, ap length more.whole, length-append {A = ℕ}, length-take {A = ℕ}, c.in-Ok.ensures.bound)

-- What is left of the source, and the count of its faults

pub returns-in-Err-clause-leaves : goal.returns-in-Err-clause-leaves
returns-in-Err-clause-leaves g c = λ d h r. rw c.in-Err.ensures.unchanged (inr (part_taken _ d c.loop-turn.bytes (c.loop-turn.invariant.read d h) r))

pub returns-then-count-eq0-clause-leaves : goal.returns-then-count-eq0-clause-leaves
returns-then-count-eq0-clause-leaves g c = λ d h r.
    all_taken _ _ d c.loop-turn.bytes _ c.in-Ok.count (c.loop-turn.invariant.read d h) c.in-Ok.ensures.content r c.if-count-eq0.true

pub returns-then-len-count-clause-leaves : goal.returns-then-len-count-clause-leaves
returns-then-len-count-clause-leaves g c = λ d h r.
    part_taken _ d _ (read_more _ _ d c.loop-turn.bytes _ c.in-Ok.count (c.loop-turn.invariant.read d h) c.in-Ok.ensures.content) r

pub returns-in-Err-append-clause-leaves : goal.returns-in-Err-append-clause-leaves
returns-in-Err-append-clause-leaves g c = λ d h r.
    part_taken _ d _ (read_more _ _ d c.loop-turn.bytes _ c.in-Ok.count (c.loop-turn.invariant.read d h) c.in-Ok.ensures.content) r

pub returns-in-Err-clause-risen : goal.returns-in-Err-clause-risen
returns-in-Err-clause-risen g c = c.in-Err.ensures.risen ∙ ap (λ n. min (n + 1) (2 ^ 64 - 1)) c.loop-turn.invariant.same

pub returns-then-count-eq0-clause-risen : goal.returns-then-count-eq0-clause-risen
returns-then-count-eq0-clause-risen g c = c.in-Ok.ensures.risen ∙ c.loop-turn.invariant.same

pub returns-then-len-count-clause-risen : goal.returns-then-len-count-clause-risen
returns-then-len-count-clause-risen g c = c.in-Ok.ensures.risen ∙ c.loop-turn.invariant.same

pub returns-in-Err-append-clause-risen : goal.returns-in-Err-append-clause-risen
returns-in-Err-append-clause-risen g c = c.in-Ok.ensures.risen ∙ c.loop-turn.invariant.same

pub loop-turn-preserved : goal.loop-turn-preserved
loop-turn-preserved g c = record {
  same = c.in-Ok.ensures.risen ∙ c.loop-turn.invariant.same;
  later = omega (arith, c.in-Ok.ensures.cause.later, c.loop-turn.invariant.later);
  read = λ d h. rw c.in-Ok-append.ensures.ok (read_more _ _ d c.loop-turn.bytes _ c.in-Ok.count (c.loop-turn.invariant.read d h) c.in-Ok.ensures.content);
  small = omega (arith, ap length c.in-Ok-append.ensures.ok, length-append {A = ℕ}, length-take {A = ℕ}, c.in-Ok.ensures.bound);
  turns = omega (arith, ap length c.in-Ok-append.ensures.ok, length-append {A = ℕ}, length-take {A = ℕ}, c.in-Ok.ensures.bound);
}
