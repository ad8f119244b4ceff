-- A query whose rows are read one at a time: what it has given so far, and its answer behind the last row.
use Rattle.std.proofs.Common.{◌≡◌, ◌⊎◌, ℕ, List, [], ◌∷◌, ◌++◌, Option, Some, None, Result, Ok, inl, inr, refl, sym, ◌∙◌, ap, subst, append-nil, append_assoc, if◌then◌else◌}
use Rattle.sqlite.specs.declared.types.Value.{Value}
use Rattle.sqlite.specs.Store.{Ghosts}
use Rattle.sqlite.specs.Effect.{Database, IsDatabase, SparesFrozen}
use Rattle.sqlite.specs.Does.{Does}
use Rattle.sqlite.specs.State.{State, IsUnchanged, ShowsRows, Shown, mode_of, text_of}
use Rattle.sqlite.specs.Held.{Held, state}
use Rattle.sqlite.specs.Listing.{understood, reads_listing, IsSourceOf}
use Rattle.sqlite.specs.Stream.{returned, HasEnded}
use Rattle.sqlite.specs.Given.{HasGiven, HasBegun, Advances, HandsOn}
use Rattle.sqlite.specs.Clock.{timed}
use Rattle.sqlite.proofs.Callers.{unchanged_then}

-- These rows were given since the query began: it is a query and goes on, or it wrote and has shown them, and what it holds is ahead. Which of the two a text is, is not asked here.
abbrev pub HasRead : {S : Type 0} → Ghosts S → List ℕ → Held S → Held S → List (List Value) → Type 0
HasRead g sql old now rows =
    (HasGiven g sql [] now rows × IsUnchanged (state g old) (state g now))
    ⊎ (Shown sql [] (state g old) (state g now) (rows ++ returned now.reading) × HasEnded now.reading)

-- an answer stays one where nothing changes behind it: what a query saw, and what a write made and showed
shown_then : (old mid new : State) (sql : List ℕ) (params : List Value) (rows : List (List Value)) → Shown sql params old mid rows → IsUnchanged mid new → Shown sql params old new rows
unfolding Shown
shown_then old mid new sql params rows h same =
    let c = h.0 in
    let full = timed params c.formats h.1.now in
    let now : new.now ≡ mid.now = same.0.now_is in
    let shows = elim c.returning as (λ what. ShowsRows old mid sql c full rows what → ShowsRows old new sql c full rows what) [
      | None ↦ λ s. (s.0, s.1, s.2, unchanged_then old mid new s.3 same)
      | Some what ↦ λ s.
          let w = s.1 in (
            s.0,
            record {
              tally = w.tally;
              changed = subst (λ (db : Database). Does old.step_limit (mode_of old) full old.now (text_of sql c) (Some what) c.command (Ok (w.tally, db))) (sym now) w.changed;
              frozen = subst (SparesFrozen old.now) (sym now) w.frozen;
              sound = subst IsDatabase (sym now) w.sound;
              shown = record {
                was_open = w.shown.was_open;
                is_open = same.0.is_open;
                now_is = refl;
                committed_is = same.0.committed_is ∙ w.shown.committed_is ∙ ap (λ (db : Database). if old.in_transaction then old.committed else db) (sym now);
                mode = same.0.mode ∙ w.shown.mode;
              };
              marks = same.2 ∙ w.marks;
              counted = w.counted;
              changes = same.1.changes ∙ w.changes;
              last_rowid = same.1.last_rowid ∙ w.last_rowid;
            },
            s.2,
          )
    ] in
    (c, h.1, shows h.2)

ok_keeps : {X E R : Type 0} {r : R} (o : Result X E) (a b : X) → o ≡ Ok a → o ≡ Ok b → (f : X → R) → f a ≡ r → f b ≡ r
ok_keeps o a b one two f is = let e : b ≡ a = cc in ap f e ∙ is

-- and a query's answer is one where nothing changed before it
shown_after : {S : Type 0} (g : Ghosts S) (sql : List ℕ) (old : State) (mid : Held S) (new : State) (given rows : List (List Value)) → IsUnchanged old (state g mid) → HasGiven g sql [] mid given
    → Shown sql [] (state g mid) new rows → Shown sql [] old new rows
unfolding Shown HasGiven
shown_after g sql old mid new given rows same it h =
    let c = h.0 in
    let none = ok_keeps _ it.0.found.compiled c it.0.statement.is h.1.is (λ c. c.returning) it.1 in
    let now = same.0.now_is in
    let shows = subst (ShowsRows (state g mid) new sql c (timed [] c.formats h.1.now) rows) none h.2 in (
      c,
      record { is = subst (λ (db : Database). understood db.schema sql ≡ Ok c) now h.1.is; whole = h.1.whole; given = h.1.given; now = h.1.now },
      subst (ShowsRows old new sql c (timed [] c.formats h.1.now) rows) (sym none)
          (shows.0, subst (λ (db : Database). IsSourceOf (reads_listing db.schema sql) db shows.0) now shows.1, shows.2, unchanged_then old (state g mid) new same shows.3),
    )

module _ {S : Type 0} (g : Ghosts S) (sql : List ℕ) where
  pub read_none : (old new : Held S) → HasBegun g sql [] old new → HasRead g sql old new []
  read_none old new (inl h) = inl h
  read_none old new (inr h) = inr (h.1, h.2)

  pub read_one : (old mid new : Held S) (rows : List (List Value)) (row : List Value) (given : Option (List Value)) → Some row ≡ given → HasRead g sql old mid rows
      → Advances g mid new given → IsUnchanged (state g mid) (state g new) → HandsOn mid new given → HasRead g sql old new (rows ++ row ∷ [])
  read_one old mid new rows row given is (inl h) goes same hands =
      inl (subst (Advances g mid new) (sym is) goes sql [] rows h.0, unchanged_then (state g old) (state g mid) (state g new) h.1 same)
  read_one old mid new rows row given is (inr h) goes same hands =
      let it = subst (HandsOn mid new) (sym is) hands h.1 in
      let all = ap (λ xs. rows ++ xs) it.0 ∙ sym (append_assoc rows (row ∷ []) (returned new.reading)) in
      inr (shown_then (state g old) (state g mid) (state g new) sql [] _ (subst (Shown sql [] (state g old) (state g mid)) all h.0) same, it.1)

  pub read_all : (old mid new : Held S) (rows : List (List Value)) (given : Option (List Value)) → None ≡ given → HasRead g sql old mid rows
      → Advances g mid new given → IsUnchanged (state g mid) (state g new) → HandsOn mid new given → Shown sql [] (state g old) (state g new) rows
  read_all old mid new rows given is (inl h) ends same hands = shown_after g sql (state g old) mid (state g new) rows rows h.1 h.0 (subst (Advances g mid new) (sym is) ends sql [] rows h.0)
  read_all old mid new rows given is (inr h) ends same hands =
      let it = subst (HandsOn mid new) (sym is) hands h.1 in
      let all = ap (λ xs. rows ++ xs) it.0.0 ∙ append-nil rows in
      shown_then (state g old) (state g mid) (state g new) sql [] rows (subst (Shown sql [] (state g old) (state g mid)) all h.0) same
