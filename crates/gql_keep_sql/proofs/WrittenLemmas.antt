-- A write that was not begun changes nothing.
use Rattle.std.proofs.Common.{◌≡◌, Bool, false, List, ℕ, inl, refl, sym, subst, arith}
use Rattle.sqlite.specs.Store.{Ghosts}
use Rattle.sqlite.specs.Tree.{Trees}
use Rattle.sqlite.specs.State.{State, Survives}
use Rattle.sqlite.specs.Held.{Held, state}
use Rattle.gql_ports.specs.declared.stored.Record.{Record}
use Rattle.gql_keep_sql.specs.declared.place.Place.{Place}
use Rattle.gql_keep_sql.specs.declared.place.Place.TheVariants.{Nowhere, Memory, File}
use Rattle.gql_keep_sql.specs.Written.{Transacts, Alters, Writes}

pub survives_itself : (s : State) (P : Trees → Type 0) → Survives s s P
survives_itself s P = record {
  clean = omega arith;
  shield = λ h. h;
  counts = omega arith;
  limit = refl;
  closes = λ clean h. inl h;
  crash = λ clean db h. inl h;
}

not_asked : {S : Type 0} (g : Ghosts S) (puts : List Record) (drops : List (List ℕ)) (h : Held S) → Transacts g puts drops false h h
not_asked g puts drops h = record {
  all = λ clean done. absurd cc;
  nothing = λ clean is_open not_done. refl;
  rests = λ none. none;
  crash = survives_itself (state g h) _;
}

pub unaltered : (puts : List Record) (drops : List (List ℕ)) (records : List Record) → Alters puts drops false records records
unaltered puts drops records = record { all = λ done. absurd cc; ordered = λ done. absurd cc; nothing = λ not_done. refl }

pub unwritten : {S : Type 0} (g : Ghosts S) (puts : List Record) (drops : List (List ℕ)) (place : Place S) → Writes g puts drops false place place
unwritten g puts drops Nowhere = refl
unwritten g puts drops (Memory h) = unaltered puts drops h.items
unwritten g puts drops (File name h) = (refl, not_asked _ puts drops h)

-- so it is where the answer is no
pub unwritten_if : {S : Type 0} (g : Ghosts S) (puts : List Record) (drops : List (List ℕ)) (done : Bool) (place : Place S) → done ≡ false → Writes g puts drops done place place
unwritten_if g puts drops done place is = subst (λ b. Writes g puts drops b place place) (sym is) (unwritten g puts drops place)
