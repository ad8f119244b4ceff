use Rattle.std.proofs.Common.{refl, sym, arith}
use Rattle.gql_values3.proofs.WordLemmas.{place-found, place-missing}
use Rattle.gql_values3.proofs.names.place_among.Goals as goal

pub returns-then-is_eq : goal.returns-then-is_eq
returns-then-is_eq c =
    rw (c.from-then-is_eq.ensures, ← c.from.ensures)
    (place-found c.args.places.now c.args.words.now c.args.text.now c.from.result c.requires.placed (rw (c.from.ensures, c.slot_of.ensures.value, c.as_bytes.ensures.value) refl)
    c.in-Some.word.now c.in-Some.ensures.lookup.3.0 (sym c.in-Some.ensures.lookup.1) (rw (← c.order_of.ensures, ← c.is_eq.ensures) c.if-is_eq.true))

pub returns-else-is_eq : goal.returns-else-is_eq
returns-else-is_eq c =
    place-missing c.args.places.now c.args.words.now c.args.text.now c.from.result c.requires.placed (rw (c.from.ensures, c.slot_of.ensures.value, c.as_bytes.ensures.value) refl)
    (λ l. (c.in-Some.word.now, sym c.in-Some.ensures.lookup.1, rw (← c.order_of.ensures, ← c.is_eq.ensures) c.if-is_eq.false))

pub returns-in-None : goal.returns-in-None
returns-in-None c =
    place-missing c.args.places.now c.args.words.now c.args.text.now c.from.result c.requires.placed (rw (c.from.ensures, c.slot_of.ensures.value, c.as_bytes.ensures.value) refl)
    (λ l. absurd (omega (arith, l, c.in-None.ensures.lookup.3)))
