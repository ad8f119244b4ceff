-- A transaction, statement by statement: what ran before and one more, and that none of them commits.
use Rattle.std.proofs.Common.{◌≡◌, ℕ, zero, suc, ◌+◌, ◌<◌, true, IsTrue, List, [], ◌∷◌, ◌++◌, length, map, take, drop, get_or, append_assoc, Result, Ok, Err, inl, inr, refl, sym, ◌∙◌, ap, subst, arith}
use Rattle.std.proofs.lemmas.List.{take_more, map_push}
use Rattle.sqlite.specs.declared.types.Value.{Value}
use Rattle.sqlite.specs.Store.{Ghosts}
use Rattle.sqlite.specs.declared.error.Error.{Error}
use Rattle.sqlite.specs.Tree.{Trees}
use Rattle.sqlite.specs.Effect.{Database}
use Rattle.sqlite.specs.State.{State, HasCleanDisk, KeepsCommit, IsUnchanged, IsRolledBack, Survives, Executes, ExecutesInside}
use Rattle.sqlite.specs.Held.{Held, state}
use Rattle.sqlite.specs.Steps.{FailsToCommit}
use Rattle.sqlite.proofs.StateLemmas.{survives_then}
use Rattle.sqlite.proofs.Callers.{survives_begin}
use Rattle.gql_ports.specs.declared.stored.Record.{Record}
use Rattle.gql_keep_sql.specs.Transaction.{Step, put_step, drop_step, Ran, Refuses, Rewrote, FailsToRewrite}

pub ran_then : {S : Type 0} (g : Ghosts S) (xs ys : List Step) (a b c : Held S) → Ran g xs a b → Ran g ys b c → Ran g (xs ++ ys) a c
ran_then g [] ys a b c one two = subst (λ h. Ran g ys h c) one two
ran_then g (x ∷ xs) ys a b c one two = (one.0, one.1, one.2, ran_then g xs ys one.0 b c one.3 two)

pub ran_one : {S : Type 0} (g : Ghosts S) (x : Step) (a b : Held S) (count : ℕ) → Executes x.sql x.params (state g a) (state g b) (Ok count) → Ran g (x ∷ []) a b
ran_one g x a b count one = (b, count, one, refl)

pub keeps_then : (a b c : State) → KeepsCommit a b → KeepsCommit b c → KeepsCommit a c
keeps_then a b c one two = record { was_open = λ o. one.was_open (two.was_open o); committed = λ o. two.committed o ∙ one.committed (two.was_open o) }

pub shows_keeps : (a b : State) → IsUnchanged a b → KeepsCommit a b
shows_keeps a b same = record { was_open = λ o. same.0.was_open; committed = λ o. same.0.committed_is }

pub rolled_keeps : (a b : State) → IsRolledBack a b → KeepsCommit a b
rolled_keeps a b back = record { was_open = back.was_open; committed = λ o. (back.undone o).1 }

-- a statement inside a transaction commits nothing
pub inside_keeps : (sql : List ℕ) (params : List Value) (a b : State) (r : Result ℕ Error) → ExecutesInside 0 sql params a b r → KeepsCommit a b
inside_keeps sql params a b (Ok count) it = record { was_open = λ o. it.1.was_open; committed = λ o. it.1.committed_is }
inside_keeps sql params a b (Err e) (inl (_, inl same)) = shows_keeps a b same
inside_keeps sql params a b (Err e) (inl (_, inr back)) = rolled_keeps a b back
inside_keeps sql params a b (Err e) (inr it) = shows_keeps a b it.2

-- the steps of one item more
pub map_more : {X : Type 0} (f : X → Step) (xs : List X) (i : ℕ) (x : X) → i < length xs → x ≡ get_or xs i x → map f (take (i + 1) xs) ≡ map f (take i xs) ++ f x ∷ []
map_more f xs i x below is = ap (map f) (take_more xs i x below) ∙ map_push f (take i xs) (get_or xs i x) ∙ ap (λ y. map f (take i xs) ++ f y ∷ []) (sym is)

split_at : {X : Type 0} (f : X → Step) (xs : List X) (i : ℕ) (x : X) → i < length xs → x ≡ get_or xs i x → map f xs ≡ map f (take i xs) ++ f x ∷ map f (drop (suc i) xs)
split_at f [] i x below is = absurd (omega (arith, below))
split_at f (y ∷ ys) zero x below is = ap (λ z. f z ∷ map f ys) (sym is)
split_at f (y ∷ ys) (suc i) x below is = ap (λ steps. f y ∷ steps) (split_at f ys i x (omega (arith, below)) is)

-- the step of an item was refused, after those of the items before it
pub refuses_at : {S X : Type 0} (g : Ghosts S) (f : X → Step) (xs : List X) (i : ℕ) (x : X) (from at end : Held S) (e : Error) → i < length xs → x ≡ get_or xs i x → Ran g (map f (take i xs)) from at
    → ExecutesInside 0 (f x).sql (f x).params (state g at) (state g end) (Err e) → Refuses g (map f xs) from e
refuses_at g f xs i x from at end e below is ran refused =
    record { before = map f (take i xs); step = f x; after = map f (drop (suc i) xs); are = split_at f xs i x below is; at = at; end = end; ran = ran; refused = refused }

-- so it was among more steps, and after others
refuses_before : {S : Type 0} (g : Ghosts S) (xs ys : List Step) (from : Held S) (e : Error) → Refuses g xs from e → Refuses g (xs ++ ys) from e
refuses_before g xs ys from e it =
    record {
      before = it.before;
      step = it.step;
      after = it.after ++ ys;
      are = ap (λ steps. steps ++ ys) it.are ∙ append_assoc it.before (it.step ∷ it.after) ys;
      at = it.at;
      end = it.end;
      ran = it.ran;
      refused = it.refused;
    }

refuses_after : {S : Type 0} (g : Ghosts S) (xs ys : List Step) (from mid : Held S) (e : Error) → Ran g xs from mid → Refuses g ys mid e → Refuses g (xs ++ ys) from e
refuses_after g xs ys from mid e ran it =
    record {
      before = xs ++ it.before;
      step = it.step;
      after = it.after;
      are = ap (λ steps. xs ++ steps) it.are ∙ sym (append_assoc xs it.before (it.step ∷ it.after));
      at = it.at;
      end = it.end;
      ran = ran_then g xs it.before from mid it.at ran it.ran;
      refused = it.refused;
    }

-- the statements of a call ran inside a transaction, and a crash of it leaves what was left before
pub record RanInside {S : Type 0} (g : Ghosts S) (steps : List Step) (old new : Held S) : Type 0 where
  pub ran : HasCleanDisk (state g new) → IsTrue (state g old).in_transaction → Ran g steps old new × IsTrue (state g new).in_transaction
  pub survives : Survives (state g old) (state g new) (λ _. ⊥)

-- all puts and then all drops ran, from the beginning of a transaction on
module _ {S : Type 0} (g : Ghosts S) (puts : List Record) (drops : List (List ℕ)) (old first mid last : Held S) (begun : first ≡ record old { in_transaction = true })
    (one : RanInside g (map put_step puts) first mid) (two : RanInside g (map drop_step drops) mid last) where
  -- what the connection sees then is what they made
  pub rewrote : HasCleanDisk (state g last) → Rewrote g puts drops old (state g last).now
  rewrote clean =
      let put = one.ran (omega (arith, two.survives.clean)) (rw begun refl) in
      let dropped = two.ran clean put.1 in record { last = last; ran = ran_then g _ _ _ _ last (rw begun at put.0) dropped.0; is = refl }

  -- a crash leaves what was left before, or where it comes into the commit, all of it
  pub rewrites_or_not : (end : Held S) → Survives (state g last) (state g end) (λ trees. trees ≡ (state g last).now.trees)
      → Survives (state g old) (state g end) (λ trees. (db : Database) × Rewrote g puts drops old db × (trees ≡ db.trees))
  rewrites_or_not end ended =
      let All = λ (trees : Trees). (db : Database) × Rewrote g puts drops old db × (trees ≡ db.trees) in
      let inside = survives_then (state g first) (state g mid) (state g last) _ _ (λ _. ⊥) (λ _ db none. none) (λ _ db none. none) one.survives two.survives in
      survives_then (state g old) (state g last) (state g end) _ _ All (λ _ db none. absurd none) (λ clean db is. (_, rewrote (omega (arith, ended.clean)), is))
      (survives_begin g old (state g last) _ (rw begun at inside)) ended

-- why a transaction made nothing: SQLite refused a put, a drop or the commit
module _ {S : Type 0} (g : Ghosts S) (puts : List Record) (drops : List (List ℕ)) (old first : Held S) (begun : first ≡ record old { in_transaction = true }) (e : Error) where
  pub put_refused : Refuses g (map put_step puts) first e → (new : Held S) → FailsToRewrite g puts drops old new e
  put_refused it new clean = inr (inl (refuses_before g (map put_step puts) (map drop_step drops) _ e (subst (λ h. Refuses g (map put_step puts) h e) begun it)))

  pub drop_refused : (mid : Held S) → Ran g (map put_step puts) first mid → Refuses g (map drop_step drops) mid e → (new : Held S) → FailsToRewrite g puts drops old new e
  drop_refused mid ran it new clean = inr (inl (refuses_after g (map put_step puts) (map drop_step drops) _ mid e (subst (λ h. Ran g (map put_step puts) h mid) begun ran) it))

  pub commit_refused : (mid last new : Held S) → Ran g (map put_step puts) first mid → Ran g (map drop_step drops) mid last → FailsToCommit (state g last) (state g new) e → FailsToRewrite g puts drops old new e
  commit_refused mid last new put dropped it clean = inr (inr (last, ran_then g _ _ _ mid last (subst (λ h. Ran g (map put_step puts) h mid) begun put) dropped, it))
