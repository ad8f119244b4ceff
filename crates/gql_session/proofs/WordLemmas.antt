-- What clap's clauses say of the words behind the command's name.
use Rattle.std.proofs.Common.{◌≡◌, ◌∙◌, refl, sym, subst, ap, inl, inr, true, List, [], ◌∷◌, Option, Some, None, codes}
use Rattle.std.specs.Prelude.{if◌then◌else◌}
use Rattle.clap.specs.Words.{App, Text, first_value, found_of, fault_of, is_simple, is_simple_and_free, kind_of, matches_of, HasKind, HasMatchesOf, Kinds}
use Rattle.clap.specs.Words.{rows_of as found_rows}
use Rattle.clap.specs.declared.error.Error.{Error}
use Rattle.clap.specs.declared.error.kind.ErrorKind.TheVariants.{OutOfMemory}
use Rattle.clap.specs.declared.parser.matches.ArgMatches.{ArgMatches}
use Rattle.clap.proofs.WalkLemmas.{first_value-rows}
use Rattle.clap.proofs.OnLiterals.{clap_on_literals}
use Rattle.gql_session.specs.Words.{run_app, selftest_app, run_in, run_with, workers_in, selftest_in, selftest_with, size_in, rows_of, has_none}

run_is_free : is_simple_and_free run_app ≡ true
unfolding clap_on_literals
run_is_free = refl

run_is_simple : is_simple run_app ≡ true
unfolding clap_on_literals
run_is_simple = refl

selftest_is_free : is_simple_and_free selftest_app ≡ true
unfolding clap_on_literals
selftest_is_free = refl

selftest_is_simple : is_simple selftest_app ≡ true
unfolding clap_on_literals
selftest_is_simple = refl

-- clap finds no fault
matched : (app a : App) (words : List Text) (m : ArgMatches) → is_simple_and_free app ≡ true → is_simple app ≡ true → a ≡ app
    → (is_simple_and_free a ≡ true → fault_of a words ≡ []) → HasMatchesOf a words m → rows_of app words ≡ Some (found_rows (found_of m))
matched app a words m is_free has_simple same passes has =
    let free : is_simple_and_free a ≡ true = rw same is_free in
    let simple : is_simple a ≡ true = rw same has_simple in
    let none : fault_of app words ≡ [] = subst (λ (x : App). fault_of x words ≡ []) same (passes free) in
    let rows : found_rows (found_of m) ≡ matches_of app words = subst (λ (x : App). found_rows (found_of m) ≡ matches_of x words) same (has simple).0 in
    ap (λ (k : Kinds). if has_none k then Some (matches_of app words) else None) none ∙ ap Some (sym rows)

refused : (app : App) (kinds : Kinds) (words : List Text) (e : Error) → fault_of app words ≡ kinds → HasKind kinds e → (kind_of e ≡ OutOfMemory → ⊥) → rows_of app words ≡ None
refused app [] words e is (inl h) other = absurd (other h)
refused app [] words e is (inr h) other = absurd h
refused app (k ∷ ks) words e is h other = ap (λ (k : Kinds). if has_none k then Some (matches_of app words) else None) is

-- clap finds a fault
unmatched : (app a : App) (words : List Text) (e : Error) → is_simple_and_free app ≡ true → a ≡ app → (is_simple_and_free a ≡ true → HasKind (fault_of a words) e) → (kind_of e ≡ OutOfMemory → ⊥)
    → rows_of app words ≡ None
unmatched app a words e is_free same fails other =
    let free : is_simple_and_free a ≡ true = rw same is_free in
    let why : HasKind (fault_of app words) e = subst (λ (x : App). HasKind (fault_of x words) e) same (fails free) in
    refused app (fault_of app words) words e refl why other

pub run_matched : (a : App) (words : List Text) (m : ArgMatches) (s t w : Option Text) → a ≡ run_app → (is_simple_and_free a ≡ true → fault_of a words ≡ []) → HasMatchesOf a words m
    → s ≡ first_value (found_of m) (codes "session") → t ≡ first_value (found_of m) (codes "store") → w ≡ first_value (found_of m) (codes "workers")
    → run_with s t (workers_in w) ≡ run_in (rows_of run_app words)
run_matched a words m s t w same passes has p q r =
    let session = p ∙ first_value-rows (found_of m) (codes "session") in
    let store = q ∙ first_value-rows (found_of m) (codes "store") in
    let workers = r ∙ first_value-rows (found_of m) (codes "workers") in
    (λ i. run_with (session i) (store i) (workers_in (workers i))) ∙ ap run_in (sym (matched run_app a words m run_is_free run_is_simple same passes has))

pub run_unmatched : (a : App) (words : List Text) (e : Error) → a ≡ run_app → (is_simple_and_free a ≡ true → HasKind (fault_of a words) e) → (kind_of e ≡ OutOfMemory → ⊥) → run_in (rows_of run_app words) ≡ None
run_unmatched a words e same fails other = ap run_in (unmatched run_app a words e run_is_free same fails other)

pub selftest_matched : (a : App) (words : List Text) (m : ArgMatches) (s : Option Text) → a ≡ selftest_app → (is_simple_and_free a ≡ true → fault_of a words ≡ []) → HasMatchesOf a words m
    → s ≡ first_value (found_of m) (codes "n") → selftest_with (size_in s) ≡ selftest_in (rows_of selftest_app words)
selftest_matched a words m s same passes has p =
    ap (λ x. selftest_with (size_in x)) (p ∙ first_value-rows (found_of m) (codes "n")) ∙ ap selftest_in (sym (matched selftest_app a words m selftest_is_free selftest_is_simple same passes has))

pub selftest_unmatched : (a : App) (words : List Text) (e : Error) → a ≡ selftest_app → (is_simple_and_free a ≡ true → HasKind (fault_of a words) e) → (kind_of e ≡ OutOfMemory → ⊥)
    → selftest_in (rows_of selftest_app words) ≡ None
selftest_unmatched a words e same fails other = ap selftest_in (unmatched selftest_app a words e selftest_is_free same fails other)
