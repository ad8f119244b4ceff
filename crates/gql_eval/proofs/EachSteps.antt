-- Steps over a list, as a loop takes them: what is done, and what is left.
use Rattle.std.proofs.Common.{◌≡◌, ℕ, suc, ◌<◌, ◌+◌, List, [], ◌∷◌, ◌++◌, length, drop, get_or, refl, sym, ap, ◌∙◌, append_assoc, append-nil, add-one, arith, Result, Ok, Err}
use Rattle.std.proofs.Math.Seq.{drop-cons}
use Rattle.std.specs.List.{flat_map}
use Rattle.gql_ast.specs.declared.fault.DataFault.{DataFault}
use Rattle.gql_ast.specs.Faults.{each}
use Rattle.gql_eval.specs.Machinery.Next.{next}
use Rattle.gql_eval.specs.Gives.{Gives, Fails}
use Rattle.gql_eval.specs.declared.error.EvalError.{EvalError}
use Rattle.gql_eval.specs.declared.error.EvalError.TheVariants as error
use Rattle.gql_eval.specs.RowLists.{each_some}

pub next_ok : {A : Type 0} (r : Result A DataFault) → next r (λ x. Ok x) ≡ r
next_ok (Ok x) = refl
next_ok (Err e) = refl

pub no_items : {A : Type 0} (xs : List A) → length xs ≡ 0 → xs ≡ []
no_items [] h = refl
no_items (x ∷ xs) h = absurd (omega arith)

-- a fault of a first step
pub fails_first : {A B : Type 0} (e : EvalError) (r : Result A DataFault) (then : A → Result B DataFault) → Fails e r → Fails e (next r then)
fails_first error.OutOfMemory r then p = tt
fails_first (error.Fault f) r then p = ap (λ s. next s then) p

module _ {A B : Type 0} (f : A → Result (List B) DataFault) where
  -- what is done, and then the rest
  abbrev pub some_from : List A → List B → Result (List B) DataFault
  some_from xs done = next (each_some f xs) (λ ys. Ok (done ++ ys))

  some_cons : (r : Result (List (List B)) DataFault) (kept zs : List B)
      → next (next (next r (λ yss. Ok (zs ∷ yss))) (λ yss. Ok (flat_map (λ zs. zs) yss))) (λ ys. Ok (kept ++ ys))
      ≡ next (next r (λ yss. Ok (flat_map (λ zs. zs) yss))) (λ ys. Ok ((kept ++ zs) ++ ys))
  some_cons (Ok yss) kept zs = ap Ok (sym (append_assoc kept zs (flat_map (λ zs. zs) yss)))
  some_cons (Err e) kept zs = refl

  -- one step gives zs
  pub some_step : (xs : List A) (x : A) (rest : List A) (kept zs : List B) → xs ≡ x ∷ rest → f x ≡ Ok zs
      → next (each_some f xs) (λ ys. Ok (kept ++ ys)) ≡ next (each_some f rest) (λ ys. Ok ((kept ++ zs) ++ ys))
  some_step xs x rest kept zs p q =
      ap (λ (l : List A). next (each_some f l) (λ ys. Ok (kept ++ ys))) p
      ∙ ap (λ (r : Result (List B) DataFault). next (next (next r (λ y. next (each f rest) (λ ys. Ok (y ∷ ys)))) (λ yss. Ok (flat_map (λ zs. zs) yss))) (λ ys. Ok (kept ++ ys))) q
      ∙ some_cons (each f rest) kept zs

  -- a step that fails
  pub some_fault : {C : Type 0} (xs : List A) (x : A) (rest : List A) (e : DataFault) (then : List B → Result C DataFault) → xs ≡ x ∷ rest → f x ≡ Err e
      → next (each_some f xs) then ≡ Err e
  some_fault xs x rest e then p q =
      ap (λ (l : List A). next (each_some f l) then) p
      ∙ ap (λ (r : Result (List B) DataFault). next (next (next r (λ y. next (each f rest) (λ ys. Ok (y ∷ ys)))) (λ yss. Ok (flat_map (λ zs. zs) yss))) then) q

  pub some_fails : {C : Type 0} (xs : List A) (x : A) (rest : List A) (e : EvalError) (then : List B → Result C DataFault) → xs ≡ x ∷ rest → Fails e (f x)
      → Fails e (next (each_some f xs) then)
  some_fails xs x rest error.OutOfMemory then p q = tt
  some_fails xs x rest (error.Fault e) then p q = some_fault xs x rest e then p q

  pub some_end : (xs : List A) (kept : List B) → xs ≡ [] → next (each_some f xs) (λ ys. Ok (kept ++ ys)) ≡ Ok kept
  some_end xs kept p = ap (λ (l : List A). next (each_some f l) (λ ys. Ok (kept ++ ys))) p ∙ ap Ok (append-nil kept)

module _ {A B : Type 0} (f : A → Result B DataFault) where
  pub each_cons : (r : Result (List B) DataFault) (done : List B) (y : B)
      → next (next r (λ ys. Ok (y ∷ ys))) (λ ys. Ok (done ++ ys)) ≡ next r (λ ys. Ok ((done ++ y ∷ []) ++ ys))
  each_cons (Ok ys) done y = ap Ok (sym (append_assoc done (y ∷ []) ys))
  each_cons (Err e) done y = refl

  pub each_step : (xs : List A) (x : A) (rest : List A) (done : List B) (y : B) → xs ≡ x ∷ rest → f x ≡ Ok y
      → next (each f xs) (λ ys. Ok (done ++ ys)) ≡ next (each f rest) (λ ys. Ok ((done ++ y ∷ []) ++ ys))
  each_step xs x rest done y p q =
      ap (λ (l : List A). next (each f l) (λ ys. Ok (done ++ ys))) p
      ∙ ap (λ (r : Result B DataFault). next (next r (λ v. next (each f rest) (λ ys. Ok (v ∷ ys)))) (λ ys. Ok (done ++ ys))) q
      ∙ each_cons (each f rest) done y

  pub each_fault : {C : Type 0} (xs : List A) (x : A) (rest : List A) (e : DataFault) (then : List B → Result C DataFault) → xs ≡ x ∷ rest → f x ≡ Err e
      → next (each f xs) then ≡ Err e
  each_fault xs x rest e then p q =
      ap (λ (l : List A). next (each f l) then) p
      ∙ ap (λ (r : Result B DataFault). next (next r (λ v. next (each f rest) (λ ys. Ok (v ∷ ys)))) then) q

  pub each_fails : {C : Type 0} (xs : List A) (x : A) (rest : List A) (e : EvalError) (then : List B → Result C DataFault) → xs ≡ x ∷ rest → Fails e (f x)
      → Fails e (next (each f xs) then)
  each_fails xs x rest error.OutOfMemory then p q = tt
  each_fails xs x rest (error.Fault e) then p q = each_fault xs x rest e then p q

-- what is left from an index on
pub drop_here : {A : Type 0} (xs : List A) (i : ℕ) (x : A) → i < length xs → x ≡ get_or xs i x → drop i xs ≡ x ∷ drop (i + 1) xs
drop_here xs i x h here = rw add-one (drop-cons xs i x h ∙ ap (λ y. y ∷ drop (suc i) xs) (sym here))

-- what is given of two steps, where the first is
pub gives_second : {A X Y : Type 0} (view : X → Y) (answer : Result X EvalError) (r : Result A DataFault) (a : A) (f : A → Result Y DataFault)
    → r ≡ Ok a → Gives view answer (f a) → Gives view answer (next r f)
gives_second view answer r a f given then = rw given then
