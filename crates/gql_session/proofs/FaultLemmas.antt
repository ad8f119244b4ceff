-- Counts of the store's faults over several pieces.
use Rattle.std.proofs.Common.{◌≡◌, ℕ, suc, ◌+◌, Bool, true, false, List, [], ◌∷◌, ◌++◌, arith, subst, sym}
use Rattle.std.specs.Prelude.{if◌then◌else◌}
use Rattle.gql_ast.specs.declared.refusal.Outcome.{Outcome}
use Rattle.gql_machine.specs.Causes.{RoseBy}
use Rattle.gql_machine.specs.Outcomes.{is_store_refusal, store_refusals}

pub rose_none : (n : ℕ) → RoseBy 0 n n
rose_none n = (omega arith, omega arith)

-- a second rise behind a first one
pub rose_both : (n m a b c : ℕ) → RoseBy n a b → RoseBy m b c → RoseBy (n + m) a c
rose_both n m a b c p q = (omega (arith, p.0, q.0), omega (arith, p.1, q.1))

-- no rise behind a first one
pub rose_no_more : (n a b c : ℕ) → RoseBy n a b → c ≡ b → RoseBy n a c
rose_no_more n a b c p q = (omega (arith, p.0, q), omega (arith, p.1, q))

one_more : (b : Bool) (k n m : ℕ) → k ≡ n + m → (if b then suc k else k) ≡ (if b then suc n else n) + m
one_more true k n m p = omega (arith, p)
one_more false k n m p = p

pub store_refusals-append : (os us : List Outcome) → store_refusals (os ++ us) ≡ store_refusals os + store_refusals us
store_refusals-append [] us = omega arith
store_refusals-append (o ∷ os) us = one_more (is_store_refusal o) (store_refusals (os ++ us)) (store_refusals os) (store_refusals us) (store_refusals-append os us)

-- a piece's refusals by the store behind those of the pieces before
pub rose_behind : (os us : List Outcome) (a b c : ℕ) → RoseBy (store_refusals os) a b → RoseBy (store_refusals us) b c → RoseBy (store_refusals (os ++ us)) a c
rose_behind os us a b c p q =
    let P : ℕ → Type 0 = λ n. RoseBy n a c in
    subst P (sym (store_refusals-append os us)) (rose_both (store_refusals os) (store_refusals us) a b c p q)
