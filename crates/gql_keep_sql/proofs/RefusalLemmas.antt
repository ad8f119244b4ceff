-- Answers of calls, and why they fail, from those of the calls below.
use Rattle.std.proofs.Common.{◌≡◌, ◌⊎◌, Bool, false, IsTrue, Result, Ok, Err, Option, Some, OnOk, IfErr, IfSome, inl, inr, ap, subst, sym, is_ok}
use Rattle.sqlite.specs.declared.error.Error.{Error}
use Rattle.gql_ports.specs.declared.fault.KeepFault.{KeepFault}
use Rattle.gql_ports.specs.declared.fault.KeepFault.TheVariants.{Failed, OutOfMemory as NoMemory}
use Rattle.gql_keep_sql.specs.Refusals.{no_memory, SucceedsIff, FailsOnlyBy, FailedBy}

pub ok_then : {T P Q : Type 0} (r : Result T Error) → OnOk r P → (P → Q) → OnOk r Q
ok_then (Ok x) p f = f p
ok_then (Err e) p f = tt

pub errs_as : {T : Type 0} (r : Result T Error) (e : Error) (Cause : Error → Type 0) → r ≡ Err e → Cause e → IfErr r Cause
errs_as r e Cause is why = subst (λ r. IfErr r Cause) (sym is) why

pub fails_as : {T : Type 0} (r : Result T Error) (e : Error) (Cause : Error → Type 0) → r ≡ Err e → ((e ≡ no_memory → ⊥) → Cause e) → FailsOnlyBy r Cause
fails_as r e Cause is why = subst (λ r. FailsOnlyBy r Cause) (sym is) why

pub fails_only : {T : Type 0} (r : Result T Error) (Cause : Error → Type 0) → IfErr r Cause → FailsOnlyBy r Cause
fails_only (Ok x) Cause why = tt
fails_only (Err e) Cause why = λ other. why

-- for a cause of which something is known
pub errs_where : {T P : Type 0} (r : Result T Error) (Cause Other : Error → Type 0) → (P → IfErr r Cause) → ((e : Error) → (P → Cause e) → Other e) → FailsOnlyBy r Other
errs_where (Ok x) Cause Other why then = tt
errs_where (Err e) Cause Other why then = λ other. then e why

-- for what did not pass
pub fails_by_test : {T : Type 0} (r : Result T Error) (test : Bool) (Cause : Error → Type 0) → SucceedsIff r test → (test ≡ false → (e : Error) → Cause e) → FailsOnlyBy r Cause
fails_by_test (Ok x) test Cause told why = tt
fails_by_test (Err e) test Cause told why = λ other. why (told other) e

-- what a keeper answers for it
pub failed_by : {T U : Type 0} (answer : Result T Error) (told : Result T KeepFault) (result : Result U KeepFault) (Cause : Error → Type 0) → is_ok told ≡ is_ok answer
    → ((told ≡ Err NoMemory → answer ≡ Err no_memory) × (answer ≡ Err no_memory → told ≡ Err NoMemory)) → (result ≡ Err Failed → told ≡ Err Failed) → FailsOnlyBy answer Cause → FailedBy result Cause
failed_by (Ok x) told result Cause same memory tells why failed = absurd (let is = ap is_ok (tells failed) in cc)
failed_by (Err e) told result Cause same memory tells why failed =
    let other : e ≡ no_memory → ⊥ = (λ is. let none = memory.1 (ap Err is) in let is = tells failed in absurd cc) in
    (e, other, why other)

-- the keys differ, so that it was the other reason
pub but_differ : {P : Type 0} (differ : Bool) → IsTrue differ → (differ ≡ false) ⊎ P → P
but_differ differ is (inl repeat) = absurd cc
but_differ differ is (inr why) = why

pub some_then : {X : Type 0} (P : X → Type 0) (o : Option X) (x : X) → Some x ≡ o → P x → IfSome o P
some_then P o x is p = subst (λ o. IfSome o P) is p
