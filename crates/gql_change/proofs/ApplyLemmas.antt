-- Lists of changes: whether they can act, where they lead and what room they take, part by part; and the states between
-- the first of them and the last.
use Rattle.std.proofs.Common.{◌≡◌, Bool, true, ◌&&◌, List, [], ◌∷◌, ◌++◌, refl, sym, ap, ◌∙◌, subst, reverse}
use Rattle.std.proofs.Math.Bool.{and_assoc}
use Rattle.std.proofs.lemmas.Bool.{and_from, and_parts}
use Rattle.std.proofs.lemmas.List.{reverse-append}
use Rattle.std.specs.Prelude.{IsTrue}
use Rattle.gql_values3.specs.PropertyGraph.{PropertyGraph}
use Rattle.gql_graph.specs.Edits.{changed, can_act, can_act_each, changed_by_each, holds_along}
use Rattle.gql_graph.specs.declared.change.Change.{Change}

-- a list behind another
pub changed_by_each-append : (cs ds : List Change) (g : PropertyGraph) → changed_by_each (cs ++ ds) g ≡ changed_by_each ds (changed_by_each cs g)
changed_by_each-append [] ds g = refl
changed_by_each-append (c ∷ cs) ds g = changed_by_each-append cs ds (changed c g)

pub can_act_each-append : (cs ds : List Change) (g : PropertyGraph) → can_act_each (cs ++ ds) g ≡ (can_act_each cs g && can_act_each ds (changed_by_each cs g))
can_act_each-append [] ds g = refl
can_act_each-append (c ∷ cs) ds g =
    ap (λ b. can_act c g && b) (can_act_each-append cs ds (changed c g)) ∙ sym (and_assoc (can_act c g) (can_act_each cs (changed c g)) (can_act_each ds (changed_by_each cs (changed c g))))

module _ (room : PropertyGraph → Bool) where
  -- there is room for the first graph
  pub room_here : (cs : List Change) (g : PropertyGraph) → holds_along room cs g ≡ true → room g ≡ true
  room_here [] g h = h
  room_here (c ∷ cs) g h = (and_parts (room g) (holds_along room cs (changed c g)) h).0

  -- where there is more room, what fitted fits
  pub more_room : (wider : PropertyGraph → Bool) → ((g : PropertyGraph) → room g ≡ true → wider g ≡ true)
      → (cs : List Change) (g : PropertyGraph) → holds_along room cs g ≡ true → holds_along wider cs g ≡ true
  more_room wider kept [] g h = kept g h
  more_room wider kept (c ∷ cs) g h =
      and_from (wider g) (holds_along wider cs (changed c g)) (kept g ((and_parts (room g) (holds_along room cs (changed c g)) h).0))
      (more_room wider kept cs (changed c g) ((and_parts (room g) (holds_along room cs (changed c g)) h).1))

-- the rest of the changes lead on from here, and there is room for them
pub record Ahead (room : PropertyGraph → Bool) (here : PropertyGraph) (rest : List Change) (end : PropertyGraph) : Type 0 where
  pub acts : IsTrue (can_act_each rest here)
  pub fits : IsTrue (holds_along room rest here)
  pub leads : changed_by_each rest here ≡ end

-- the first of them can act, and there is room for the graph behind it
pub next_acts : {room : PropertyGraph → Bool} {here end : PropertyGraph} {c : Change} {rest : List Change} → Ahead room here (c ∷ rest) end → IsTrue (can_act c here)
next_acts {room} {here} {end} {c} {rest} a = (and_parts (can_act c here) (can_act_each rest (changed c here)) a.acts).0

pub next_fits : {room : PropertyGraph → Bool} {here end : PropertyGraph} {c : Change} {rest : List Change} → Ahead room here (c ∷ rest) end → IsTrue (room (changed c here))
next_fits {room} {here} {end} {c} {rest} a = room_here room rest (changed c here) ((and_parts (room here) (holds_along room rest (changed c here)) a.fits).1)

-- and then the others lead on from there
pub went_on : (room wider : PropertyGraph → Bool) (here there end : PropertyGraph) (c : Change) (rest : List Change) → Ahead room here (c ∷ rest) end
    → there ≡ changed c here → ((g : PropertyGraph) → IsTrue (room g) → IsTrue (wider g)) → Ahead wider there rest end
went_on room wider here there end c rest a is kept =
    let go : Ahead wider (changed c here) rest end = record {
      acts = (and_parts (can_act c here) (can_act_each rest (changed c here)) a.acts).1;
      fits = more_room room wider kept rest (changed c here) ((and_parts (room here) (holds_along room rest (changed c here)) a.fits).1);
      leads = a.leads;
    } in
    subst (λ (g : PropertyGraph). Ahead wider g rest end) (sym is) go

-- a step back leads to where one was, and from there on as before
pub went_back : (room wider : PropertyGraph → Bool) (here there start : PropertyGraph) (back : List Change) (i : Change) → Ahead room here back start
    → IsTrue (room there) → IsTrue (can_act i there) → changed i there ≡ here → ((g : PropertyGraph) → IsTrue (room g) → IsTrue (wider g))
    → Ahead wider there (i ∷ back) start
went_back room wider here there start back i a fits acts undoes kept = record {
  acts = and_from (can_act i there) (can_act_each back (changed i there)) acts (ap (can_act_each back) undoes ∙ a.acts);
  fits = and_from (wider there) (holds_along wider back (changed i there)) (kept there fits) (ap (holds_along wider back) undoes ∙ more_room room wider kept back here a.fits);
  leads = ap (changed_by_each back) undoes ∙ a.leads;
}

-- before the first of them
pub at_start : (room : PropertyGraph → Bool) (g : PropertyGraph) (cs rest : List Change) → rest ≡ cs → IsTrue (can_act_each cs g) → IsTrue (holds_along room cs g)
    → Ahead room g rest (changed_by_each cs g)
at_start room g cs rest is acts fits =
    let go : Ahead room g cs (changed_by_each cs g) = record { acts = acts; fits = fits; leads = refl } in
    subst (λ (l : List Change). Ahead room g l (changed_by_each cs g)) (sym is) go

pub nothing_back : (room : PropertyGraph → Bool) (g : PropertyGraph) (cs done : List Change) → done ≡ [] → IsTrue (holds_along room cs g) → Ahead room g (reverse done) g
nothing_back room g cs done none fits =
    let go : Ahead room g [] g = record { acts = refl; fits = room_here room cs g fits; leads = refl } in
    subst (λ (l : List Change). Ahead room g (reverse l) g) (sym none) go

-- the same list, written otherwise
pub same_ahead : {room : PropertyGraph → Bool} {g end : PropertyGraph} {cs : List Change} (ds : List Change) → cs ≡ ds → Ahead room g cs end → Ahead room g ds end
same_ahead {room} {g} {end} {cs} ds is a = subst (λ (l : List Change). Ahead room g l end) is a

-- what is pushed is the first of the list turned round
pub reverse-push : (cs ds : List Change) (c : Change) → ds ≡ cs ++ c ∷ [] → reverse ds ≡ c ∷ reverse cs
reverse-push cs ds c is = ap (λ (l : List Change). reverse l) is ∙ reverse-append cs (c ∷ [])
